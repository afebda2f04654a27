-- "A worker's record goes into a turn and comes out of it.": a start or a turn of worker i writes no other worker's words, over settings and memory of any content.
-- Relies on the operations' definitions, on settings for the sizes.
use Rattle.std.specs.Prelude.{ℕ, ◌+◌, ◌*◌, ◌≤◌, ◌<◌, ◌≡◌, ◌⊎◌, Bool, List, get_or, length}
use Rattle.settings.specs.Sizes.{worker_words}
use Rattle.settings.specs.declared.Settings.{Settings}
use Rattle.areas.specs.Memory.{Areas}
use Rattle.rules.specs.Operations.{start, turn}

-- the workers' area before and after: as many words, and the same ones but for those of worker i
pub record OthersStay (i : ℕ) (l l' : List ℕ) : Type 0 where
  pub size : length l' ≡ length l
  pub words : (k : ℕ) → (k < worker_words * i) ⊎ (worker_words * i + worker_words ≤ k) → get_or l' k 0 ≡ get_or l k 0

-- at the width that the settings give
-- excludes: a failed Put that writes its node into another worker's record as that worker's spare; a start that makes another worker idle
pub record OwnRecord (w : ℕ) (s : Settings) : Type 0 where
  pub of_start : (looks : Bool) (i row column : ℕ) (a : Areas) → OthersStay i a.workers (start w s looks i row column a).areas.workers
  pub of_turn : (i : ℕ) (a : Areas) → OthersStay i a.workers (turn w s i a).areas.workers
