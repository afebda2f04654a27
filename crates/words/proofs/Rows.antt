-- The divisors of a digit width, depth by depth: the rule of a row is one test that antt computes, one lemma for every width.
-- Relies on Table.
use mathlib.Core.Path.{◌≡◌, refl, ap, sym, subst, ◌∙◌}
use mathlib.Core.Bool.{Bool, true}
use mathlib.Core.List.{List, [], ◌∷◌}
use Prim.Native.Nat.{ℕ, ◌≤◌, ◌<◌, ◌+◌, ◌*◌, ◌-◌, ◌^◌, ◌/◌, ◌%◌}
use native.Mathlib.Nat.{pow-zero}
use native.Mathlib.Omega.{arith}
use lib.Dec.{eqb, leb, ltb}
use lib.ListN.{length, get_or}
use borrow.Author.Tests.{leb-true, eqb-true, ltb-true, ltb-false}
use Rattle.words.specs.Choice.{pick, both}
use Rattle.words.specs.Digits.{DigitWidth, two, three, four, six, base, depths, digit}
use Rattle.words.proofs.Choice.{pick-both, both_left, both_right}
use Rattle.words.proofs.Table.{every_place, at}

-- the rule of a row: the divisor of depth d is 2^(24 − w × (d + 1)), which is the power of the base that the digit's definition divides by
abbrev pub rule : ℕ → ℕ → ℕ → Bool
rule w d x = both (leb 1 x) (both (eqb x (2 ^ (24 - w * (d + 1)))) (eqb x (base w ^ (depths w - 1 - d))))

-- the divisor, 1 past the row
abbrev pub in_row : List ℕ → ℕ → ℕ
in_row xs d = pick (ltb d (length xs)) (get_or xs d 0) 1

module _ (w : ℕ) (xs : List ℕ) (long : length xs ≡ depths w) (test : every_place (rule w) 0 xs ≡ true) (d : ℕ) where
  pub row_positive : 1 ≤ in_row xs d
  row_positive =
      pick-both (λ (x : ℕ). 1 ≤ x) (ltb d (length xs)) (λ e. leb-true _ _ (both_left _ _ (at (rule w) xs test d (ltb-true _ _ e)))) (λ e. omega arith)

  pub row_is : in_row xs d ≡ base w ^ (depths w - 1 - d)
  row_is =
      pick-both (λ (x : ℕ). x ≡ base w ^ (depths w - 1 - d)) (ltb d (length xs))
      (λ e. eqb-true _ _ (both_right (eqb (get_or xs d 0) (2 ^ (24 - w * (d + 1)))) _ (both_right (leb 1 (get_or xs d 0)) _ (at (rule w) xs test d (ltb-true _ _ e)))))
      (λ e.
      let l : length xs ≤ d = ltb-false _ _ e in
      let z : depths w - 1 - d ≡ 0 = omega arith in
      rw (z, pow-zero) refl)

  -- an entry of a row
  pub row_power : d < length xs → get_or xs d 0 ≡ 2 ^ (24 - w * (d + 1))
  row_power l = eqb-true _ _ (both_left _ _ (both_right (leb 1 (get_or xs d 0)) _ (at (rule w) xs test d l)))

-- the rows, as the code hands them on: `digit` is refused where one differs from the code's
abbrev pub twos : List ℕ
twos = 4194304 ∷ 1048576 ∷ 262144 ∷ 65536 ∷ 16384 ∷ 4096 ∷ 1024 ∷ 256 ∷ 64 ∷ 16 ∷ 4 ∷ 1 ∷ []

abbrev pub threes : List ℕ
threes = 2097152 ∷ 262144 ∷ 32768 ∷ 4096 ∷ 512 ∷ 64 ∷ 8 ∷ 1 ∷ []

abbrev pub fours : List ℕ
fours = 1048576 ∷ 65536 ∷ 4096 ∷ 256 ∷ 16 ∷ 1 ∷ []

abbrev pub sixes : List ℕ
sixes = 262144 ∷ 4096 ∷ 64 ∷ 1 ∷ []

-- what the code has of it, the divisor v
module _ (w : ℕ) (xs : List ℕ) (d : ℕ) {v : ℕ} (e : v ≡ in_row xs d) (long : length xs ≡ depths w) (test : every_place (rule w) 0 xs ≡ true) where
  pub divisor_positive : 1 ≤ v
  divisor_positive = subst (λ (x : ℕ). 1 ≤ x) (sym e) (row_positive w xs long test d)

  pub divisor_digit : (p : ℕ) → p / v % base w ≡ digit w p d
  unfolding digit
  divisor_digit p = ap (λ (x : ℕ). p / x % base w) (e ∙ row_is w xs long test d)

-- the last of the widths
pub last-width : {w : ℕ} → DigitWidth w → (w ≡ 3 → ⊥) → (w ≡ 2 → ⊥) → (w ≡ 4 → ⊥) → w ≡ 6
last-width two a b c = absurd (b refl)
last-width three a b c = absurd (a refl)
last-width four a b c = absurd (c refl)
last-width six a b c = refl

-- the digit of a width that is none of the other three
pub last-digit : {w v : ℕ} (p d : ℕ) → DigitWidth w → (w ≡ 3 → ⊥) → (w ≡ 2 → ⊥) → (w ≡ 4 → ⊥) → v ≡ in_row sixes d → p / v % 64 ≡ digit w p d
unfolding base depths both
last-digit p d width a b c e = divisor_digit 6 sixes d e refl refl p ∙ ap (λ (w : ℕ). digit w p d) (sym (last-width width a b c))
