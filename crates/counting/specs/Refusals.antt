-- Demand 1 of a count: each number in exactly its own case, over settings and memory of any content.
-- Relies on Count, and on rules for the order of questions.
use Rattle.std.specs.Prelude.{ℕ, ◌≡◌, ◌≢◌}
use Rattle.settings.specs.declared.Settings.{Settings}
use Rattle.areas.specs.Memory.{Memory}
use Rattle.rules.specs.Refusals.{FirstNo, AllYes, Iff}
use Rattle.reach.specs.Reachable.{Dangling}
use Rattle.reach.specs.Reading.{questions_of}
use Rattle.counting.specs.Count.{Count, ReachedCount, Counted}

-- 1, 2, 3, then 6; no other number
pub record RefusesCount (w : ℕ) (s : Settings) (m : Memory) (r : Count) : Type 0 where
  -- excludes: a count that is given where a reference names nothing taken; one that is refused for a ring
  pub carried : Iff (r.number ≡ 0) (AllYes (questions_of w s m) × ¬ (Dangling w s m))
  -- excludes: a count that asks for the workers' area; one that gives 3 before 2
  pub refusal : (n : ℕ) → n ≢ 0 → n ≢ 6 → Iff (r.number ≡ n) (FirstNo n (questions_of w s m))
  -- excludes: a count that takes a reference past the last taken node for the end of a chain; one that gives 6 for a reference that nothing reached holds
  pub six : Iff (r.number ≡ 6) (AllYes (questions_of w s m) × Dangling w s m)
  -- excludes: the count of what was reached before a reference to nothing taken was met; nodes taken
  pub nothing : r.number ≢ 0 → r.count ≡ 0
  -- excludes: nodes taken; the number of reached pixels
  pub counts : r.number ≡ 0 → ReachedCount w m r.count

-- for every input
abbrev pub CountRefusals : Type 0
CountRefusals = (w : ℕ) (s : Settings) (m : Memory) (r : Count) → Counted w s m r → RefusesCount w s m r
