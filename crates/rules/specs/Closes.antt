-- "Number 9 alone makes the worker idle with answer "full".", and changes nothing else, over settings and memory of any content.
-- Relies on the operations' definitions, on settings for the sizes.
use Rattle.std.specs.Prelude.{ℕ, ◌+◌, ◌*◌, ◌≡◌, ◌≢◌, true, get_or, length}
use Rattle.settings.specs.Sizes.{worker_words}
use Rattle.settings.specs.declared.Settings.{Settings}
use Rattle.areas.specs.Memory.{Areas}
use Rattle.record.specs.declared.Answer.TheVariants.{Full}
use Rattle.rules.specs.Asked.{question7}
use Rattle.rules.specs.Operations.{Result, record_of, turn, last_of}

-- what the turn leaves where the areas were a
pub record Closes (s : Settings) (i : ℕ) (a : Areas) (r : Result) : Type 0 where
  pub settings_stay : r.reply.settings ≡ s
  pub nodes_stay : r.areas.nodes ≡ a.nodes
  pub levels_stay : r.areas.levels ≡ a.levels
  pub size_stays : length r.areas.workers ≡ length a.workers
  -- every word of the workers but three of this worker's: its kind, its answer and the answer's node
  -- excludes: a "full" that loses the worker's spare level; one that writes another worker's record
  pub words_stay : (k : ℕ) → k ≢ worker_words * i → k ≢ worker_words * i + 7 → k ≢ worker_words * i + 8 → get_or r.areas.workers k 0 ≡ get_or a.workers k 0
  -- the worker is idle, and its last answer is "full"
  -- excludes: a "full" that leaves the call open
  pub idle : question7 (record_of r.areas i) ≡ true
  pub told : last_of (record_of r.areas i).head ≡ Full
  -- "full" has no node: the answer's node is 0
  pub no_node : get_or r.areas.workers (worker_words * i + 8) 0 ≡ 0

-- every turn that is given 9
abbrev pub FullCloses : ℕ → Type 0
FullCloses w = (s : Settings) (i : ℕ) (a : Areas) → (turn w s i a).reply.number ≡ 9 → Closes s i a (turn w s i a)
