-- What is written below place n leaves the words from n on: a word, a block, a node, a level, a cell.
-- Relies on words for blocks, on areas for the places that are written.
use Prim.Native.Nat.{ℕ, ◌+◌, ◌*◌, ◌≤◌, ◌<◌}
use mathlib.Core.Path.{refl, ◌∙◌}
use mathlib.Core.List.{List}
use native.Mathlib.Nat.{mod-lt}
use native.Mathlib.Omega.{arith}
use lib.ListN.{set, length-set}
use lib.Seq.{get_or-set_other}
use Rattle.words.specs.Digits.{base, digit}
use Rattle.words.specs.Blocks.{fill}
use Rattle.words.proofs.Blocks.{length-fill, fill_above}
use Rattle.settings.specs.Sizes.{node_words, level_words, level_count}
use Rattle.settings.specs.declared.Settings.{Settings}
use Rattle.areas.specs.Memory.{Memory, entry_cell, set_cell, fill_node, fill_level}
use Rattle.areas.specs.declared.Cell.{Cell}
use Rattle.areas.specs.declared.Cell.TheVariants.{Entry, Next}
use Rattle.areas.proofs.Cells.{entry_within}
use Rattle.rules.specs.Excess.{SameFrom}
use Rattle.rules.proofs.Dims.{base_pos}
use Rattle.rules.proofs.FilledLevels.{row_lt, level_words_lem}

pub same_refl : (n : ℕ) (l : List ℕ) → SameFrom n l l
same_refl n l = record { size = refl; words = λ k h. refl }

pub same_then : {n : ℕ} {l l' l'' : List ℕ} → SameFrom n l l' → SameFrom n l' l'' → SameFrom n l l''
same_then p q = record { size = q.size ∙ p.size; words = λ k h. q.words k h ∙ p.words k h }

-- one word
pub same_set : {n : ℕ} (l : List ℕ) (p v : ℕ) → p < n → SameFrom n l (set l p v)
same_set l p v h = record { size = length-set l p v; words = λ k g. get_or-set_other l p k v 0 (λ e. omega arith) }

-- a block
pub same_fill : {n : ℕ} (l : List ℕ) (p c v : ℕ) → p + c ≤ n → SameFrom n l (fill l p c v)
same_fill l p c v h = record { size = length-fill l p c v; words = λ k g. fill_above l p c v k (omega arith) }

-- one of the first n nodes
pub same_node : {n : ℕ} (nodes : List ℕ) (i p x : ℕ) → i < n → SameFrom (node_words * n) nodes (fill_node nodes i p x)
unfolding fill_node
same_node nodes i p x h = same_then (same_set nodes (node_words * i) p (omega arith)) (same_set _ (node_words * i + 1) x (omega arith))

-- one of the first n levels
pub same_level : (w : ℕ) {n : ℕ} (levels : List ℕ) (g p d : ℕ) → g < n → SameFrom (level_words w * n) levels (fill_level w levels g p d)
unfolding fill_level
same_level w levels g p d h =
    let q = level_words_lem w in
    let b : 1 + base w < level_words w = omega arith in
    let t = row_lt (level_words w) h b in
    same_then (same_then (same_set levels (level_words w * g) p (omega arith)) (same_set _ (level_words w * g + 1) d (omega arith)))
    (same_fill _ (level_words w * g + 2) (base w) _ (omega arith))

-- nodes and levels of which the excess is the same
pub record SameMemory (w : ℕ) (s : Settings) (m m' : Memory) : Type 0 where
  pub nodes : SameFrom (node_words * s.nodes) m.nodes m'.nodes
  pub levels : SameFrom (level_words w * level_count w s) m.levels m'.levels

pub memory_refl : (w : ℕ) (s : Settings) (m : Memory) → SameMemory w s m m
memory_refl w s m = record { nodes = same_refl _ _; levels = same_refl _ _ }

-- a cell of a node or level that the settings have
abbrev pub CellBelow : ℕ → Settings → Cell → Type 0
CellBelow w s (Entry g e) = (g < level_count w s) × (e < base w)
CellBelow w s (Next i) = i < s.nodes

-- a pixel's digit is the number of an entry
pub digit_below : (w : ℕ) (s : Settings) (levels : List ℕ) (g p : ℕ) → g < level_count w s → CellBelow w s (entry_cell w levels g p)
unfolding entry_cell digit
digit_below w s levels g p h = (h, mod-lt _ (base_pos w))

pub same_cell : (w : ℕ) (s : Settings) (m : Memory) (x : Cell) (v : ℕ) → CellBelow w s x → SameMemory w s m (set_cell w m x v)
unfolding set_cell
same_cell w s m (Entry g e) v (h, k) =
    let t = row_lt (level_words w) h (entry_within w k) in
    record { nodes = same_refl _ _; levels = same_set m.levels (level_words w * g + 2 + e) v (omega arith) }
same_cell w s m (Next i) v h =
    record { nodes = same_set m.nodes (node_words * i + 1) v (omega arith); levels = same_refl _ _ }
