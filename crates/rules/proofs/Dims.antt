-- The theory's sizes for a digit width and a chain limit, and the premise on the width under which demand 3 is proved.
-- Relies on words for the digits and on the theory's sizes.
use Prim.Native.Nat.{ℕ, zero, suc, ◌-◌, ◌^◌, ◌≤◌, ◌<◌}
use mathlib.Core.Path.{◌≡◌, refl}
use native.Mathlib.Omega.{arith}
use native.Mathlib.Nat.{pow-suc, pow-zero, div-le_self}
use Rattle.words.specs.Digits.{DigitWidth, two, three, four, six, base, depths, digit, max_pixel}
use Rattle.settings.specs.Sizes.{max_moves, most_moves}
use Rattle.trie.proofs.Digits as theory

pub base_pos : (w : ℕ) → 0 < base w
unfolding base
base_pos zero = rw pow-zero (omega arith)
base_pos (suc w) = let h = base_pos w in rw pow-suc (omega arith)

-- base, depths, chain limit
abbrev pub dims : ℕ → ℕ → theory.Dims
dims w l = record { base = base w; depths = depths w; limit = l; base_pos = base_pos w }

-- the digits of every pixel number fit the depths, there is a depth, and a worker's words hold the Moves that may be one inside another
pub record Width (w : ℕ) : Type 0 where
  pub some : 0 < depths w
  pub all : base w ^ depths w ≡ suc max_pixel
  pub few : max_moves w ≤ most_moves

-- document 02's four widths are such: the only place of the theory that takes them one by one
pub width_of : {w : ℕ} → DigitWidth w → Width w
unfolding base depths max_moves
width_of two = record { some = omega arith; all = refl; few = omega arith }
width_of three = record { some = omega arith; all = refl; few = omega arith }
width_of four = record { some = omega arith; all = refl; few = omega arith }
width_of six = record { some = omega arith; all = refl; few = omega arith }

pub depths-le : (w : ℕ) → depths w ≤ 24
unfolding depths
depths-le w = div-le_self 24 w

-- document 01's digit is the theory's
pub digit_is : (w l p d : ℕ) → digit w p d ≡ theory.digit (dims w l) p d
unfolding digit theory.digit theory.top
digit_is w l p d = let e : depths w - 1 - d ≡ depths w - suc d = omega arith in rw e refl
