-- "A turn makes one shared access and the private work around it.": what a turn can change of settings, nodes and levels, over memory of any content.
-- Relies on areas for cells, on the operations' definitions.
use Rattle.std.specs.Prelude.{ℕ, suc, ◌<◌, ◌≡◌}
use Rattle.words.specs.Digits.{base}
use Rattle.settings.specs.declared.Settings.{Settings}
use Rattle.areas.specs.Memory.{Areas, Memory, memory, set_cell, fill_node, fill_level}
use Rattle.areas.specs.declared.Cell.{Cell}
use Rattle.areas.specs.declared.Cell.TheVariants.{Entry, Next}
use Rattle.record.specs.declared.Head.{Head}
use Rattle.rules.specs.Steps.{took_node, took_level}
use Rattle.rules.specs.Operations.{memory_of, record_of, turn}

-- a level has an entry for each value of a digit
abbrev pub Inside : ℕ → Cell → Type 0
Inside w (Entry g e) = e < base w
Inside w (Next i) = Unit

-- one access of a worker with the head h to the memory m with the settings s: what it leaves
pub data Access (w : ℕ) (s : Settings) (h : Head) (m : Memory) (s' : Settings) (m' : Memory) : Type 0 where
  -- a cell is read, or an exchange fails and the word that it met is acted on; a refusal makes no access
  none : s' ≡ s → m' ≡ m → Access w s h m s' m'
  -- an exchange is done, or a word is written: one cell changes
  cell : (x : Cell) (v : ℕ) → Inside w x → s' ≡ s → m' ≡ set_cell w m x v → Access w s h m s' m'
  -- "taking a number or a spare and filling that node or level is one access"; "taken in rising number"; a spare is the worker's own
  next_node : (pixel next : ℕ) → s' ≡ took_node s → m' ≡ memory (fill_node m.nodes s.nodes_taken pixel next) m.levels → Access w s h m s' m'
  spare_node : (i pixel next : ℕ) → h.held_node ≡ suc i → s' ≡ s → m' ≡ memory (fill_node m.nodes i pixel next) m.levels → Access w s h m s' m'
  next_level : (previous depth : ℕ) → s' ≡ took_level s → m' ≡ memory m.nodes (fill_level w m.levels s.levels_taken previous depth) → Access w s h m s' m'
  spare-level : (g previous depth : ℕ) → h.held_level ≡ suc g → s' ≡ s → m' ≡ memory m.nodes (fill_level w m.levels g previous depth) → Access w s h m s' m'

-- excludes: a machine that runs a whole call that places a pixel in one turn; one that writes the entry in H in the turn that sets the last node;
-- one whose turn fills a node or level that is neither the next nor held in its record, or writes a previous word of a level that it does not take
abbrev pub OneAccess : ℕ → Type 0
OneAccess w = (s : Settings) (i : ℕ) (a : Areas) → Access w s (record_of a i).head (memory_of a) (turn w s i a).reply.settings (memory_of (turn w s i a).areas)
