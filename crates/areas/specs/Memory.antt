-- The words of nodes and levels, references, and cells: an entry of a level or a node's next word.
-- Relies on words for digits and blocks, on settings for sizes.
use Rattle.std.specs.Prelude.{ℕ, ◌+◌, ◌*◌, ◌/◌, ◌%◌, Bool, List, eqb, ltb, get_or, set}
use Rattle.words.specs.Choice.{pick}
use Rattle.words.specs.Digits.{base, digit}
use Rattle.words.specs.Blocks.{fill}
use Rattle.settings.specs.Sizes.{node_words, level_words}
use Rattle.settings.specs.declared.Settings.{Settings}
use Rattle.areas.specs.declared.Cell.{Cell}
use Rattle.areas.specs.declared.Cell.TheVariants.{Entry, Next}

-- "Lent memory is 32-bit unsigned words in three areas."
pub record Areas : Type 0 where
  pub nodes : List ℕ
  pub levels : List ℕ
  pub workers : List ℕ

-- the three areas as one value
abbrev pub areas : List ℕ → List ℕ → List ℕ → Areas
areas n g k = record { nodes = n; levels = g; workers = k }

-- the two areas that a turn works on
pub record Memory : Type 0 where
  pub nodes : List ℕ
  pub levels : List ℕ

-- nodes and levels, which the workers share
abbrev pub memory : List ℕ → List ℕ → Memory
memory n g = record { nodes = n; levels = g }

-- "A reference is 2 × g for level g and 2 × i + 1 for node i."
abbrev pub level_ref : ℕ → ℕ
level_ref g = 2 * g

-- "2 × i + 1 for node i"
abbrev pub node_ref : ℕ → ℕ
node_ref i = 2 * i + 1

-- whether a reference is a node's
unfoldable pub is_node : ℕ → Bool
is_node r = eqb (r % 2) 1

-- the number of the node or level that a reference names
unfoldable pub named : ℕ → ℕ
named r = r / 2

-- "its previous word is 4,294,967,295, meaning none"
abbrev pub none : ℕ
none = 4294967295

-- "Node i has two words: pixel number, next."
unfoldable pub pixel_at : List ℕ → ℕ → ℕ
pixel_at nodes i = get_or nodes (node_words * i) 0

-- the second word of node i
unfoldable pub next_at : List ℕ → ℕ → ℕ
next_at nodes i = get_or nodes (node_words * i + 1) 0

-- "Level g has ten: number of the previous level, depth, eight entries.", at width 3
unfoldable pub previous_at : ℕ → List ℕ → ℕ → ℕ
previous_at w levels g = get_or levels (level_words w * g) 0

-- the second word of level g
unfoldable pub depth_at : ℕ → List ℕ → ℕ → ℕ
depth_at w levels g = get_or levels (level_words w * g + 1) 0

-- entry e of level g
unfoldable pub entry_at : ℕ → List ℕ → ℕ → ℕ → ℕ
entry_at w levels g e = get_or levels (level_words w * g + 2 + e) 0

-- the word in a cell
unfoldable pub cell_at : ℕ → Memory → Cell → ℕ
cell_at w m (Entry g e) = entry_at w m.levels g e
cell_at w m (Next i) = next_at m.nodes i

-- the memory with a word written to a cell
unfoldable pub set_cell : ℕ → Memory → Cell → ℕ → Memory
set_cell w m (Entry g e) v = memory m.nodes (set m.levels (level_words w * g + 2 + e) v)
set_cell w m (Next i) v = memory (set m.nodes (node_words * i + 1) v) m.levels

-- what an exchange gives: the word that it met, and the memory that it leaves
pub record Exchanged : Type 0 where
  pub word : ℕ
  pub memory : Memory

-- an exchange by its parts
abbrev pub exchanged : ℕ → Memory → Exchanged
exchanged v m = record { word = v; memory = m }

-- ""Exchange x from a to b" writes b only if x holds a."; document 02: "The new board's exchange returns what it found. Let ours do so too."
unfoldable pub exchange : ℕ → Memory → Cell → ℕ → ℕ → Exchanged
exchange w m x a b = exchanged (cell_at w m x) (pick (eqb (cell_at w m x) a) (set_cell w m x b) m)

-- "its digit at depth d picks the entry in a level of depth d": the entry of pixel p in level g
unfoldable pub entry_cell : ℕ → List ℕ → ℕ → ℕ → Cell
entry_cell w levels g p = Entry g (digit w p (depth_at w levels g))

-- node i with its two words
unfoldable pub fill_node : List ℕ → ℕ → ℕ → ℕ → List ℕ
fill_node nodes i pixel next = set (set nodes (node_words * i) pixel) (node_words * i + 1) next

-- level g with its previous level and depth; "An empty entry refers to its own level."
unfoldable pub fill_level : ℕ → List ℕ → ℕ → ℕ → ℕ → List ℕ
fill_level w levels g previous depth =
    fill (set (set levels (level_words w * g) previous) (level_words w * g + 1) depth) (level_words w * g + 2) (base w) (level_ref g)

-- taken: "Nodes and levels are taken in rising number"
unfoldable pub level_taken : Settings → ℕ → Bool
level_taken s g = ltb g s.levels_taken

-- node i is taken
unfoldable pub node_taken : Settings → ℕ → Bool
node_taken s i = ltb i s.nodes_taken

-- a reference "names a taken node or level"
unfoldable pub ref_taken : Settings → ℕ → Bool
ref_taken s r = pick (is_node r) (node_taken s (named r)) (level_taken s (named r))
