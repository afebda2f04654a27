-- What a filled level reads: its own words as written, the words of every other level as they were.
-- Relies on words for blocks, on areas for the layout of a level.
use Prim.Native.Nat.{ℕ, ◌+◌, ◌*◌, ◌≤◌, ◌<◌}
use mathlib.Core.Path.{◌≡◌, refl, ◌∙◌}
use mathlib.Core.Logic.{◌≢◌}
use mathlib.Core.List.{List}
use native.Mathlib.Nat.{add-zero, mul_comm}
use native.Mathlib.Decide.{dec_lt}
use native.Mathlib.Omega.{arith}
use lib.Arith.{digits_lt}
use lib.ListN.{length, get_or, set, length-set}
use lib.Seq.{get_or-set_same, get_or-set_other}
use Rattle.words.specs.Digits.{base}
use Rattle.words.proofs.Blocks.{length-fill, fill_in, fill_below, fill_above}
use Rattle.settings.specs.Sizes.{level_words}
use Rattle.areas.specs.Memory.{level_ref, previous_at, depth_at, entry_at, fill_level}

-- a word of row g lies before row n
pub row_lt : (a : ℕ) {g n x : ℕ} → g < n → x < a → a * g + x < a * n
row_lt a {g} {n} {x} h k = let t = digits_lt {q = g} {m = n} {r = x} {c = a} h k in omega (arith, mul_comm a g, mul_comm a n)

pub level_words_lem : (w : ℕ) → level_words w ≡ 2 + base w
unfolding level_words
level_words_lem w = refl

module _ (w : ℕ) (levels : List ℕ) (g p d : ℕ) where
  -- the two words of its head are written first
  headed : List ℕ
  headed = set (set levels (level_words w * g) p) (level_words w * g + 1) d

  headed_length : length headed ≡ length levels
  unfolding headed
  headed_length = length-set (set levels (level_words w * g) p) (level_words w * g + 1) d ∙ length-set levels (level_words w * g) p

  headed_out : (j : ℕ) → j ≢ level_words w * g → j ≢ level_words w * g + 1 → get_or headed j 0 ≡ get_or levels j 0
  unfolding headed
  headed_out j a b = get_or-set_other (set levels (level_words w * g) p) (level_words w * g + 1) j d 0 b ∙ get_or-set_other levels (level_words w * g) j p 0 a

  pub filled_length : length (fill_level w levels g p d) ≡ length levels
  unfolding fill_level headed
  filled_length = length-fill headed (level_words w * g + 2) (base w) (level_ref g) ∙ headed_length

  -- any word of another level
  other_word : (h x : ℕ) → h ≢ g → x < level_words w → get_or (fill_level w levels g p d) (level_words w * h + x) 0 ≡ get_or levels (level_words w * h + x) 0
  unfolding fill_level headed
  other_word h x n k = by (dec_lt h g)
    where
      by : Dec (h < g) → get_or (fill_level w levels g p d) (level_words w * h + x) 0 ≡ get_or levels (level_words w * h + x) 0
      by (yes l) =
          let t = row_lt (level_words w) l k in
          fill_below headed (level_words w * g + 2) (base w) (level_ref g) (level_words w * h + x) (omega arith)
          ∙ headed_out (level_words w * h + x) (λ e. omega arith) (λ e. omega arith)
      by (no l) =
          let q = level_words_lem w in
          let b : 1 + base w < level_words w = omega arith in
          let l' : g < h = omega arith in
          let t = row_lt (level_words w) l' b in
          fill_above headed (level_words w * g + 2) (base w) (level_ref g) (level_words w * h + x) (omega arith)
          ∙ headed_out (level_words w * h + x) (λ e. omega arith) (λ e. omega arith)

  -- the parts of another level
  pub other_previous : (h : ℕ) → h ≢ g → previous_at w (fill_level w levels g p d) h ≡ previous_at w levels h
  unfolding previous_at
  other_previous h n = let q = level_words_lem w in rw add-zero at (other_word h 0 n (omega arith))

  pub other_depth : (h : ℕ) → h ≢ g → depth_at w (fill_level w levels g p d) h ≡ depth_at w levels h
  unfolding depth_at
  other_depth h n = let q = level_words_lem w in other_word h 1 n (omega arith)

  pub other_entry : (h e : ℕ) → h ≢ g → e < base w → entry_at w (fill_level w levels g p d) h e ≡ entry_at w levels h e
  unfolding entry_at
  other_entry h e n k =
      let q = level_words_lem w in
      let a : level_words w * h + (2 + e) ≡ level_words w * h + 2 + e = omega arith in
      rw a at (other_word h (2 + e) n (omega arith))

  -- the level itself, where there is room for it
  module _ (n : ℕ) (k : g < n) (room : level_words w * n ≤ length levels) where
    fits : level_words w * g + 2 + base w ≤ length levels
    fits =
        let q = level_words_lem w in
        let b : 1 + base w < level_words w = omega arith in
        let t = row_lt (level_words w) k b in
        omega arith

    pub filled_previous : previous_at w (fill_level w levels g p d) g ≡ p
    unfolding previous_at fill_level headed
    filled_previous =
        let r = fits in
        fill_below headed (level_words w * g + 2) (base w) (level_ref g) (level_words w * g) (omega arith)
        ∙ get_or-set_other (set levels (level_words w * g) p) (level_words w * g + 1) (level_words w * g) d 0 (λ e. omega arith)
        ∙ get_or-set_same levels (level_words w * g) p 0 (omega arith)

    pub filled_depth : depth_at w (fill_level w levels g p d) g ≡ d
    unfolding depth_at fill_level headed
    filled_depth =
        let r = fits in
        let l : level_words w * g + 1 < length (set levels (level_words w * g) p) = rw length-set (omega arith) in
        fill_below headed (level_words w * g + 2) (base w) (level_ref g) (level_words w * g + 1) (omega arith)
        ∙ get_or-set_same (set levels (level_words w * g) p) (level_words w * g + 1) d 0 l

    pub filled_entry : (e : ℕ) → e < base w → entry_at w (fill_level w levels g p d) g e ≡ level_ref g
    unfolding entry_at fill_level headed
    filled_entry e h = fill_in (base w) headed (level_words w * g + 2) (level_ref g) e h (rw headed_length fits)
