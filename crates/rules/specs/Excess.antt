-- Question 2: "longer ones are accepted, the excess untouched". The words past those that it asks for stay as they came.
-- Relies on the operations' definitions, on settings for the sizes.
use Rattle.std.specs.Prelude.{ℕ, ◌*◌, ◌≤◌, ◌≡◌, Bool, List, get_or, length}
use Rattle.settings.specs.Sizes.{node_words, level_words, worker_words, level_count}
use Rattle.settings.specs.declared.Settings.{Settings}
use Rattle.areas.specs.Memory.{Areas}
use Rattle.rules.specs.Operations.{opening, start, turn, last_answer}
use Rattle.rules.specs.Lists.{turns}

-- an area before and after: as many words, and from place n on the same ones
pub record SameFrom (n : ℕ) (l l' : List ℕ) : Type 0 where
  pub size : length l' ≡ length l
  pub words : (k : ℕ) → n ≤ k → get_or l' k 0 ≡ get_or l k 0

-- the three areas before and after: each is the same past the words that question 2 asks for
pub record Untouched (w : ℕ) (s : Settings) (a a' : Areas) : Type 0 where
  pub nodes : SameFrom (node_words * s.nodes) a.nodes a'.nodes
  pub levels : SameFrom (level_words w * level_count w s) a.levels a'.levels
  pub workers : SameFrom (worker_words * s.workers) a.workers a'.workers

-- every operation, over settings and memory of any content, refused or carried out; it holds at the width that the settings give
pub record ExcessStays (w : ℕ) (s : Settings) : Type 0 where
  pub of_opening : (a : Areas) → Untouched w s a (opening w s a).areas
  pub of_start : (looks : Bool) (i row column : ℕ) (a : Areas) → Untouched w s a (start w s looks i row column a).areas
  pub of_turn : (i : ℕ) (a : Areas) → Untouched w s a (turn w s i a).areas
  pub of_turns : (l : List ℕ) (limit : ℕ) (a : Areas) → Untouched w s a (turns w s l limit a).areas
  pub of_last : (i : ℕ) (a : Areas) → Untouched w s a (last_answer w s i a).areas
