-- Demand 1 of a "next": each number in exactly its own case, over settings, memory and place of any content; a refusal leaves the place.
-- Relies on Next, and on rules for the order of questions.
use Rattle.std.specs.Prelude.{ℕ, ◌≤◌, ◌<◌, ◌≡◌, ◌≢◌, Err}
use Rattle.settings.specs.declared.Settings.{Settings}
use Rattle.settings.specs.declared.Refusal.{Refusal}
use Rattle.settings.specs.Refusals.{outcome_no}
use Rattle.areas.specs.Memory.{Memory}
use Rattle.rules.specs.Refusals.{FirstNo, AllYes, Iff}
use Rattle.reach.specs.Reachable.{Dangling}
use Rattle.reach.specs.Reading.{questions_of}
use Rattle.listing.specs.Next.{Moved, Next, end_place}

-- 1, 2, 3, then 11, then 6; no other number
pub record RefusesNext (w : ℕ) (s : Settings) (m : Memory) (place : ℕ) (r : Moved) : Type 0 where
  -- excludes: a "next" that gives a pixel at a place past "end"; one that gives "end" where a reference names nothing taken
  pub carried : Iff (outcome_no r.given ≡ 0) (AllYes (questions_of w s m) × (place ≤ end_place) × ¬ (Dangling w s m))
  -- excludes: a "next" that asks the place before question 3; one that asks for the workers' area
  pub refusal : (n : ℕ) → n ≢ 0 → n ≢ 6 → n ≢ 11 → Iff (outcome_no r.given ≡ n) (FirstNo n (questions_of w s m))
  -- excludes: a "next" that refuses the place "end"; one that takes a greater place for "end"
  pub eleven : Iff (outcome_no r.given ≡ 11) (AllYes (questions_of w s m) × (end_place < place))
  -- excludes: a "next" that does not search at "end"; one that stops at the first pixel and misses a reference after it
  pub six : Iff (outcome_no r.given ≡ 6) (AllYes (questions_of w s m) × (place ≤ end_place) × Dangling w s m)
  -- a refusal has its number
  -- excludes: a "next" that refuses by 0 in place of "end"; one that refuses by 0 in place of a pixel
  pub numbered : (e : Refusal) → r.given ≡ Err e → outcome_no r.given ≢ 0
  -- excludes: a "next" that goes back to "start" when it is refused; one that goes to "end"
  pub unchanged : outcome_no r.given ≢ 0 → r.place ≡ place

-- for every input
abbrev pub NextStatement : Type 0
NextStatement = (w : ℕ) (s : Settings) (m : Memory) (place : ℕ) (r : Moved) → Next w s m place r → RefusesNext w s m place r
