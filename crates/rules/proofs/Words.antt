-- The words of nodes and levels show a memory given as functions, and follow it through each write.
-- Relies on areas for the words, on the theory's cells.
use Prim.Native.Nat.{ℕ, ◌+◌, ◌*◌, ◌≤◌, ◌<◌}
use mathlib.Core.Path.{◌≡◌, sym, ◌∙◌}
use native.Mathlib.Decide.{ℕ_discrete}
use native.Mathlib.Omega.{arith}
use lib.ListN.{length, get_or, set, length-set}
use lib.Seq.{get_or-set_same, get_or-set_other}
use Rattle.words.specs.Digits.{base}
use Rattle.settings.specs.Sizes.{node_words, level_words}
use Rattle.areas.specs.Memory.{Memory, memory, level_ref, pixel_at, next_at, previous_at, depth_at, entry_at, cell_at, set_cell, fill_node, fill_level}
use Rattle.areas.specs.declared.Cell.{Cell}
use Rattle.areas.specs.declared.Cell.TheVariants.{Entry, Next}
use Rattle.areas.proofs.Cells.{Proper, Inside, entry_within, cell_same, cell_other, set-length_nodes, set-length_levels, set_pixel, set_previous, set_depth}
use Rattle.trie.proofs.Update as theory
use Rattle.rules.proofs.FilledLevels.{row_lt, filled_length, other_previous, other_depth, other_entry, filled_previous, filled_depth, filled_entry}

-- the theory's cell as a cell of the areas
abbrev pub cell_in : theory.Cell → Cell
cell_in (theory.ent g e) = Entry g e
cell_in (theory.nxt i) = Next i

-- a cell of one of the first n nodes or l levels
abbrev pub Taken : ℕ → ℕ → ℕ → theory.Cell → Type 0
Taken w n l (theory.ent g e) = (g < l) × (e < base w)
Taken w n l (theory.nxt i) = i < n

-- the areas have room for n nodes and l levels, and their words are those of the functions
pub record Shows (w n l : ℕ) (m : Memory) (pixel : ℕ → ℕ) (cell : theory.Cell → ℕ) (prev depth : ℕ → ℕ) : Type 0 where
  pub node_room : node_words * n ≤ length m.nodes
  pub level_room : level_words w * l ≤ length m.levels
  pub pixel_is : (i : ℕ) → i < n → pixel_at m.nodes i ≡ pixel i
  pub next_is : (i : ℕ) → i < n → next_at m.nodes i ≡ cell (theory.nxt i)
  pub prev_is : (g : ℕ) → g < l → previous_at w m.levels g ≡ prev g
  pub depth_is : (g : ℕ) → g < l → depth_at w m.levels g ≡ depth g
  pub entry_is : (g e : ℕ) → g < l → e < base w → entry_at w m.levels g e ≡ cell (theory.ent g e)

-- two cells are one where their cells of the areas are
cell_in_inj : (x y : theory.Cell) → cell_in x ≡ cell_in y → x ≡ y
cell_in_inj (theory.ent g e) (theory.ent h f) q = let a : g ≡ h = cc in let b : e ≡ f = cc in rw (a, b)
cell_in_inj (theory.ent g e) (theory.nxt j) q = let z : ◌≡◌ {A = ℕ} 0 1 = cc in absurd (omega arith)
cell_in_inj (theory.nxt i) (theory.ent h f) q = let z : ◌≡◌ {A = ℕ} 0 1 = cc in absurd (omega arith)
cell_in_inj (theory.nxt i) (theory.nxt j) q = let a : i ≡ j = cc in rw a

module _ {w n l : ℕ} {m : Memory} {pixel : ℕ → ℕ} {cell : theory.Cell → ℕ} {prev depth : ℕ → ℕ} (s : Shows w n l m pixel cell prev depth) where
  -- a cell reads as the function says
  pub shows_at : (x : theory.Cell) → Taken w n l x → cell_at w m (cell_in x) ≡ cell x
  unfolding cell_at
  shows_at (theory.ent g e) h = s.entry_is g e h.0 h.1
  shows_at (theory.nxt i) h = s.next_is i h

  -- a cell is one of the layout, and its word lies within the areas
  proper : (x : theory.Cell) → Taken w n l x → Proper w (cell_in x)
  proper (theory.ent g e) h = h.1
  proper (theory.nxt i) h = tt

  inside : (x : theory.Cell) → Taken w n l x → Inside w m (cell_in x)
  inside (theory.ent g e) h = let t = row_lt (level_words w) h.0 (entry_within w h.1) in omega (arith, s.level_room)
  inside (theory.nxt i) h = omega (arith, s.node_room)

  -- one cell is written
  pub shows_cell : (x : theory.Cell) (v : ℕ) → Taken w n l x → Shows w n l (set_cell w m (cell_in x) v) pixel (theory.upd_c cell x v) prev depth
  unfolding cell_at
  shows_cell x v h =
      record {
        node_room = rw (set-length_nodes w m (cell_in x) v) s.node_room;
        level_room = rw (set-length_levels w m (cell_in x) v) s.level_room;
        pixel_is = λ i k. set_pixel w m (cell_in x) v i ∙ s.pixel_is i k;
        next_is = λ i k. at (theory.nxt i) k (theory.Cell-discrete ℕ_discrete (theory.nxt i) x);
        prev_is = λ g k. set_previous w m (cell_in x) v g (proper x h) ∙ s.prev_is g k;
        depth_is = λ g k. set_depth w m (cell_in x) v g (proper x h) ∙ s.depth_is g k;
        entry_is = λ g e k q. at (theory.ent g e) (k, q) (theory.Cell-discrete ℕ_discrete (theory.ent g e) x);
      }
    where
      at : (y : theory.Cell) → Taken w n l y → Dec (y ≡ x) → cell_at w (set_cell w m (cell_in x) v) (cell_in y) ≡ theory.upd_c cell x v y
      at y k (yes e) = rw e (cell_same w m (cell_in x) v (inside x h) ∙ sym (theory.upd_c_same cell x v))
      at y k (no e) =
          cell_other w m (cell_in x) (cell_in y) v (proper x h) (proper y k) (λ q. e (cell_in_inj y x q))
          ∙ shows_at y k
          ∙ sym (theory.upd_c_other cell x v y e)

  -- a node's pixel number is written
  shows_pixel : (i K : ℕ) → i < n → Shows w n l (memory (set m.nodes (node_words * i) K) m.levels) (theory.upd pixel i K) cell prev depth
  unfolding pixel_at next_at
  shows_pixel i K h =
      record {
        node_room = rw (length-set m.nodes (node_words * i) K) s.node_room;
        level_room = s.level_room;
        pixel_is = λ j k. at j k (ℕ_discrete j i);
        next_is = λ j k. get_or-set_other m.nodes (node_words * i) (node_words * j + 1) K 0 (λ e. omega arith) ∙ s.next_is j k;
        prev_is = s.prev_is;
        depth_is = s.depth_is;
        entry_is = s.entry_is;
      }
    where
      at : (j : ℕ) → j < n → Dec (j ≡ i) → get_or (set m.nodes (node_words * i) K) (node_words * j) 0 ≡ theory.upd pixel i K j
      at j k (yes e) = rw e (get_or-set_same m.nodes (node_words * i) K 0 (omega (arith, s.node_room)) ∙ sym (theory.upd_same pixel i K))
      at j k (no e) = get_or-set_other m.nodes (node_words * i) (node_words * j) K 0 (λ q. e (omega arith)) ∙ s.pixel_is j k ∙ sym (theory.upd_other pixel i K j e)

  -- a level is filled
  pub shows_level : (g p d : ℕ) → g < l → Shows w n l (memory m.nodes (fill_level w m.levels g p d)) pixel (theory.upd_l cell g (level_ref g)) (theory.upd prev g p) (theory.upd depth g d)
  shows_level g p d h =
      record {
        node_room = s.node_room;
        level_room = rw (filled_length w m.levels g p d) s.level_room;
        pixel_is = s.pixel_is;
        next_is = λ i k. s.next_is i k ∙ sym (theory.upd_l_next cell g (level_ref g) i);
        prev_is = λ t k. previous t k (ℕ_discrete t g);
        depth_is = λ t k. deep t k (ℕ_discrete t g);
        entry_is = λ t e k q. entry t e k q (ℕ_discrete t g);
      }
    where
      previous : (t : ℕ) → t < l → Dec (t ≡ g) → previous_at w (fill_level w m.levels g p d) t ≡ theory.upd prev g p t
      previous t k (yes e) = rw e (filled_previous w m.levels g p d l h s.level_room ∙ sym (theory.upd_same prev g p))
      previous t k (no e) = other_previous w m.levels g p d t e ∙ s.prev_is t k ∙ sym (theory.upd_other prev g p t e)

      deep : (t : ℕ) → t < l → Dec (t ≡ g) → depth_at w (fill_level w m.levels g p d) t ≡ theory.upd depth g d t
      deep t k (yes e) = rw e (filled_depth w m.levels g p d l h s.level_room ∙ sym (theory.upd_same depth g d))
      deep t k (no e) = other_depth w m.levels g p d t e ∙ s.depth_is t k ∙ sym (theory.upd_other depth g d t e)

      entry : (t e : ℕ) → t < l → e < base w → Dec (t ≡ g) → entry_at w (fill_level w m.levels g p d) t e ≡ theory.upd_l cell g (level_ref g) (theory.ent t e)
      entry t e k q (yes z) = rw z (filled_entry w m.levels g p d l h s.level_room e q ∙ sym (theory.upd_l_in cell g (level_ref g) e))
      entry t e k q (no z) = other_entry w m.levels g p d t e z q ∙ s.entry_is t e k q ∙ sym (theory.upd_l_other cell g (level_ref g) t e z)

module _ {w n l : ℕ} {m : Memory} {pixel : ℕ → ℕ} {cell : theory.Cell → ℕ} {prev depth : ℕ → ℕ} (s : Shows w n l m pixel cell prev depth) where
  -- a node is filled
  pub shows_node : (i K v : ℕ) → i < n → Shows w n l (memory (fill_node m.nodes i K v) m.levels) (theory.upd pixel i K) (theory.upd_c cell (theory.nxt i) v) prev depth
  unfolding fill_node set_cell
  shows_node i K v h = shows_cell (shows_pixel s i K h) (theory.nxt i) v h
