-- What an opening leaves alone, and what the settings that a refused one gives back are good for.
-- Relies on the operations' definitions, on settings for the sizes.
use Rattle.std.specs.Prelude.{ℕ, ◌*◌, ◌≡◌, Bool, ◌≢◌, List}
use Rattle.settings.specs.Sizes.{level_words, worker_words}
use Rattle.settings.specs.declared.Settings.{Settings}
use Rattle.areas.specs.Memory.{Areas}
use Rattle.rules.specs.Operations.{opening, start, turn, last_answer}
use Rattle.rules.specs.Lists.{turns}
use Rattle.rules.specs.Excess.{SameFrom}

-- "writes level 0 and zeroes the workers' words. Every other word keeps its content."
-- excludes: an opening that clears the nodes or a level besides the root
pub record Keeps (w : ℕ) (s : Settings) (a a' : Areas) : Type 0 where
  pub nodes_stay : a'.nodes ≡ a.nodes
  pub levels_stay : SameFrom (level_words w) a.levels a'.levels
  pub workers_stay : SameFrom (worker_words * s.workers) a.workers a'.workers

abbrev pub OpeningKeeps : ℕ → Type 0
OpeningKeeps w = (s : Settings) (a : Areas) → Keeps w s a (opening w s a).areas

-- "the newest settings handed in each time": whoever goes on with the settings that a refused opening gave back is refused by the same number, never by 6
pub record RefusedAlike (w : ℕ) (s : Settings) (a : Areas) (n : ℕ) : Type 0 where
  pub of_opening : (opening w s a).reply.number ≡ n
  pub of_start : (looks : Bool) (i row column : ℕ) → (start w s looks i row column a).reply.number ≡ n
  pub of_turn : (i : ℕ) → (turn w s i a).reply.number ≡ n
  pub of_turns : (l : List ℕ) (limit : ℕ) → (turns w s l limit a).reply.number ≡ n
  pub of_last : (i : ℕ) → (last_answer w s i a).reply.number ≡ n
  pub not_6 : n ≢ 6

abbrev pub RefusedOpenings : ℕ → Type 0
RefusedOpenings w = (s : Settings) (a : Areas) (n : ℕ) → n ≢ 0 → (opening w s a).reply.number ≡ n → RefusedAlike w (opening w s a).reply.settings (opening w s a).areas n
