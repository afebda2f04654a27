-- What the search finds out: that a reached reference names nothing taken, or else which nodes are reached.
-- Relies on Reachable and on rules for what is reached.
use Rattle.std.specs.Prelude.{ℕ, ◌+◌, ◌≤◌, ◌<◌, ◌≡◌, ◌≢◌, ⊤, Bool, true, false, Result, Ok, Err, List, get_or}
use Rattle.settings.specs.declared.Settings.{Settings}
use Rattle.settings.specs.declared.Refusal.{Refusal}
use Rattle.settings.specs.declared.Refusal.TheVariants.{Memory as MemoryRefused}
use Rattle.settings.specs.Sizes.{max_nodes, most_levels}
use Rattle.areas.specs.Memory.{Memory, node_ref, ref_taken}
use Rattle.rules.specs.Reached.{Reached}
use Rattle.reach.specs.Reachable.{Dangling}

-- the most things, nodes and levels, of a table: a mark for each of them is lent to the search
abbrev pub things : ℕ
things = max_nodes + most_levels

-- what the search asks of the settings, which questions 1 and 3 have answered: every taken node and level is one of n things
pub record Fits (s : Settings) (n : ℕ) : Type 0 where
  pub nodes : s.nodes_taken ≤ max_nodes
  pub levels : max_nodes + s.levels_taken ≤ n

-- the answer of the search and its marks, of which mark i is node i's
pub record Marked (w : ℕ) (s : Settings) (m : Memory) (dangling : Bool) (marks : List ℕ) : Type 0 where
  -- excludes: a search that gives 6 for a ring; one that gives 6 for a depth or a pixel word
  pub only_then : dangling ≡ true → Dangling w s m
  -- excludes: a search that stops at the first pixel; one that asks no entry past the first
  pub all-taken : dangling ≡ false → (r : ℕ) → Reached w m r → ref_taken s r ≡ true
  -- excludes: a search that takes every taken node for reached; one whose marks are not cleared before
  pub marked_reached : (i : ℕ) → i < max_nodes → get_or marks i 0 ≢ 0 → Reached w m (node_ref i)
  -- excludes: a walk by entries alone, which misses a node that hangs by a previous word; one that follows no next word
  pub reached_marked : dangling ≡ false → (i : ℕ) → Reached w m (node_ref i) → get_or marks i 0 ≢ 0

-- the same of a search that refuses where a reference names nothing taken, by 6 and by no other number
abbrev pub Found : ℕ → Settings → Memory → Result ⊤ Refusal → List ℕ → Type 0
Found w s m (Ok x) marks = Marked w s m false marks
Found w s m (Err r) marks = (r ≡ MemoryRefused) × Marked w s m true marks
