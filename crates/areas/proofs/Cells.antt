-- Cells over any digit width: a written cell reads as the word, another cell is not changed, nor are pixel numbers, previous levels, depths.
-- Relies on words for digits, on settings for sizes.
use mathlib.Core.Path.{◌≡◌, refl, ap, sym, ◌∙◌}
use mathlib.Core.Logic.{◌≢◌}
use Prim.Native.Nat.{ℕ, ◌+◌, ◌*◌, ◌/◌, ◌%◌, ◌<◌}
use native.Mathlib.Nat.{add-zero, mul-add-div, mul-add-mod_self_left, div-eq_of_lt, mod-eq_of_lt}
use native.Mathlib.Omega.{arith}
use lib.ListN.{length, length-set}
use lib.Seq.{get_or-set_same, get_or-set_other}
use Rattle.words.specs.Digits.{base}
use Rattle.settings.specs.Sizes.{level_words}
use Rattle.areas.specs.declared.Cell.{Cell}
use Rattle.areas.specs.declared.Cell.TheVariants.{Entry, Next}
use Rattle.areas.specs.Memory.{Memory, pixel_at, next_at, previous_at, depth_at, entry_at, cell_at, set_cell}

-- a cell of the layout: an entry's number is less than the number of entries
abbrev pub Proper : ℕ → Cell → Type 0
Proper w (Entry g e) = e < base w
Proper w (Next i) = Unit

-- a cell whose word lies within the areas
abbrev pub Inside : ℕ → Memory → Cell → Type 0
Inside w m (Entry g e) = level_words w * g + 2 + e < length m.levels
Inside w m (Next i) = 2 * i + 1 < length m.nodes

-- a place a * g + x with x below a gives g and x
pub place-number : {a x : ℕ} (g : ℕ) → x < a → (a * g + x) / a ≡ g
place-number {a} {x} g h = let z : 0 < a = omega arith in mul-add-div z g x ∙ (rw (div-eq_of_lt h) (add-zero g))

pub place-word : {a x : ℕ} (g : ℕ) → x < a → (a * g + x) % a ≡ x
place-word {a} {x} g h = mul-add-mod_self_left a g x ∙ mod-eq_of_lt h

module _ (w : ℕ) {x y : ℕ} (g h : ℕ) (p : x < level_words w) (q : y < level_words w) (e : level_words w * g + x ≡ level_words w * h + y) where
  pub same_number : g ≡ h
  same_number = sym (place-number g p) ∙ (ap (λ (n : ℕ). n / level_words w) e ∙ place-number h q)

  pub same_word : x ≡ y
  same_word = sym (place-word g p) ∙ (ap (λ (n : ℕ). n % level_words w) e ∙ place-word h q)

-- entries' words come after the two words of a level, and within it
pub entry_within : (w : ℕ) {e : ℕ} → e < base w → 2 + e < level_words w
unfolding level_words
entry_within w h = omega arith

pub head_within : (w : ℕ) → 1 < level_words w
unfolding level_words
head_within w = omega arith

-- the places of two entries differ where their levels or their numbers do
pub entry_places :
    (w g h : ℕ) {e f : ℕ} → e < base w → f < base w → Entry h f ≢ Entry g e → level_words w * h + 2 + f ≢ level_words w * g + 2 + e
entry_places w g h {e} {f} p q d s =
    let a = entry_within w p in
    let b = entry_within w q in
    let t : level_words w * h + (2 + f) ≡ level_words w * g + (2 + e) = omega arith in
    let n : h ≡ g = same_number w h g b a t in
    let k : 2 + f ≡ 2 + e = same_word w h g b a t in
    let k' : f ≡ e = omega arith in
    d (rw (n, k'))

module _ (w : ℕ) (m : Memory) where
  pub cell_same : (x : Cell) (v : ℕ) → Inside w m x → cell_at w (set_cell w m x v) x ≡ v
  unfolding cell_at set_cell entry_at next_at
  cell_same (Entry g e) v h = get_or-set_same m.levels (level_words w * g + 2 + e) v 0 h
  cell_same (Next i) v h = get_or-set_same m.nodes (2 * i + 1) v 0 h

  pub cell_other : (x y : Cell) (v : ℕ) → Proper w x → Proper w y → y ≢ x → cell_at w (set_cell w m x v) y ≡ cell_at w m y
  unfolding cell_at set_cell entry_at next_at
  cell_other (Entry g e) (Entry h f) v p q d =
      get_or-set_other m.levels (level_words w * g + 2 + e) (level_words w * h + 2 + f) v 0 (entry_places w g h p q d)
  cell_other (Entry g e) (Next j) v p q d = refl
  cell_other (Next i) (Entry h f) v p q d = refl
  cell_other (Next i) (Next j) v p q d =
      get_or-set_other m.nodes (2 * i + 1) (2 * j + 1) v 0 (λ s. let n : j ≡ i = omega arith in d (rw n))

  pub set-length_nodes : (x : Cell) (v : ℕ) → length (set_cell w m x v).nodes ≡ length m.nodes
  unfolding set_cell
  set-length_nodes (Entry g e) v = refl
  set-length_nodes (Next i) v = length-set m.nodes (2 * i + 1) v

  pub set-length_levels : (x : Cell) (v : ℕ) → length (set_cell w m x v).levels ≡ length m.levels
  unfolding set_cell
  set-length_levels (Entry g e) v = length-set m.levels (level_words w * g + 2 + e) v
  set-length_levels (Next i) v = refl

  pub set_pixel : (x : Cell) (v i : ℕ) → pixel_at (set_cell w m x v).nodes i ≡ pixel_at m.nodes i
  unfolding set_cell pixel_at
  set_pixel (Entry g e) v i = refl
  set_pixel (Next j) v i = get_or-set_other m.nodes (2 * j + 1) (2 * i) v 0 (λ s. omega arith)

  pub set_previous : (x : Cell) (v g : ℕ) → Proper w x → previous_at w (set_cell w m x v).levels g ≡ previous_at w m.levels g
  unfolding set_cell previous_at
  set_previous (Next j) v g p = refl
  set_previous (Entry h e) v g p =
      get_or-set_other m.levels (level_words w * h + 2 + e) (level_words w * g) v 0
      (λ s.
      let a = entry_within w p in
      let z = head_within w in
      let t : level_words w * g + 0 ≡ level_words w * h + (2 + e) = omega arith in
      let z' : 0 < level_words w = omega arith in
      let k : 0 ≡ 2 + e = same_word w g h z' a t in
      omega arith)

  pub set_depth : (x : Cell) (v g : ℕ) → Proper w x → depth_at w (set_cell w m x v).levels g ≡ depth_at w m.levels g
  unfolding set_cell depth_at
  set_depth (Next j) v g p = refl
  set_depth (Entry h e) v g p =
      get_or-set_other m.levels (level_words w * h + 2 + e) (level_words w * g + 1) v 0
      (λ s.
      let a = entry_within w p in
      let z = head_within w in
      let t : level_words w * g + 1 ≡ level_words w * h + (2 + e) = omega arith in
      let k : 1 ≡ 2 + e = same_word w g h z a t in
      omega arith)
