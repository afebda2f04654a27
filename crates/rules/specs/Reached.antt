-- What is reached from the root.
-- Relies on areas for the words.
use Rattle.std.specs.Prelude.{ℕ, ◌<◌, ◌≡◌, ◌≢◌}
use Rattle.words.specs.Digits.{base}
use Rattle.areas.specs.Memory.{Memory, level_ref, node_ref, none, next_at, previous_at, entry_at}

-- "Reached from the root is what entries, nodes' next words and levels' previous words lead to from level 0, over any number of them."
-- "They count as references, here and in question 6; "none" leads nowhere."
pub data Reached (w : ℕ) (m : Memory) : ℕ → Type 0 where
  root : {r : ℕ} → r ≡ level_ref 0 → Reached w m r
  by_entry : {r : ℕ} (g e : ℕ) → e < base w → r ≡ entry_at w m.levels g e → Reached w m (level_ref g) → Reached w m r
  by_next : {r : ℕ} (i : ℕ) → r ≡ next_at m.nodes i → Reached w m (node_ref i) → Reached w m r
  by_previous : {r : ℕ} (g : ℕ) → previous_at w m.levels g ≢ none → r ≡ level_ref (previous_at w m.levels g) → Reached w m (level_ref g) → Reached w m r
