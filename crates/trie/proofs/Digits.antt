-- A key written with D digits to the base B: its digit at a depth, and the number of its first digits.
-- Relies on the language's library alone.
use mathlib.Core.Path.{◌≡◌, sym, ap, ◌∙◌}
use mathlib.Core.Logic.{◌≢◌}
use Prim.Native.Nat.{ℕ, suc, ◌+◌, ◌*◌, ◌-◌, ◌/◌, ◌%◌, ◌^◌, ◌<◌}
use native.Mathlib.Nat.{mod-lt, div-add-mod', div-div-eq-div-mul, div-eq_of_lt, pow-suc, sub-zero, sub_self, pow-zero, div-one}
use native.Mathlib.Decide.{ℕ_discrete}
use native.Mathlib.Omega.{arith}
use lib.Arith.{digits_div, digits_mod}

-- the sizes of a table: the base of the digits, their number, the chain limit
pub record Dims : Type 0 where
  pub base : ℕ
  pub depths : ℕ
  pub limit : ℕ
  pub base_pos : 0 < base

-- the first d digits of K as a number
unfoldable pub top : Dims → ℕ → ℕ → ℕ
top δ K d = K / (δ.base ^ (δ.depths - d))

-- the digit of K at depth d
unfoldable pub digit : Dims → ℕ → ℕ → ℕ
digit δ K d = top δ K (suc d) % δ.base

pub digit_lt : (δ : Dims) (K d : ℕ) → digit δ K d < δ.base
unfolding digit
digit_lt δ K d = mod-lt (top δ K (suc d)) δ.base_pos

pub top-zero : (δ : Dims) (K : ℕ) → K < δ.base ^ δ.depths → top δ K 0 ≡ 0
unfolding top
top-zero δ K h = rw sub-zero (div-eq_of_lt h)

pub top-suc : (δ : Dims) (K d : ℕ) → d < δ.depths → top δ K (suc d) ≡ top δ K d * δ.base + digit δ K d
unfolding top digit
top-suc δ K d h =
    let e : δ.depths - d ≡ suc (δ.depths - suc d) = omega arith in
    rw (e, pow-suc, ← div-div-eq-div-mul) (sym (div-add-mod' _ _))

-- two numbers by quotient and digit
pub digits_split : {q q' m r r' : ℕ} → r < m → r' < m → q * m + r ≡ q' * m + r' → (q ≡ q') × (r ≡ r')
digits_split {q} {q'} {m} {r} {r'} h h' e = (sym (digits_div q h) ∙ ap (λ x. x / m) e ∙ digits_div q' h', sym (digits_mod q h) ∙ ap (λ x. x % m) e ∙ digits_mod q' h')

-- all digits are the number
pub top-all : (δ : Dims) (K : ℕ) → top δ K δ.depths ≡ K
unfolding top
top-all δ K = rw (sub_self, pow-zero) (div-one K)

-- two numbers that differ do not share all digits
pub share_less : (δ : Dims) {K M d : ℕ} → K ≢ M → top δ K (suc d) ≡ top δ M (suc d) → d < δ.depths → suc d < δ.depths
share_less δ {K} {M} {d} n e h = by (ℕ_discrete (suc d) δ.depths)
  where
    by : Dec (suc d ≡ δ.depths) → suc d < δ.depths
    by (yes q) = absurd (n (sym (top-all δ K) ∙ rw q at e ∙ top-all δ M))
    by (no q) = omega arith
