-- A printed number of at most five digits reads as that number.
-- Relies on text for how digits are read.
use Prim.Native.Nat.{ℕ, zero, suc, ◌+◌, ◌-◌, ◌*◌, ◌/◌, ◌%◌, ◌<◌}
use mathlib.Core.Path.{◌≡◌, refl, ◌∙◌}
use mathlib.Core.Bool.{Bool, true, false}
use mathlib.Core.List.{List, [], ◌∷◌, ◌++◌}
use native.Mathlib.Omega.{arith}
use lib.Dec.{ltb}
use Rattle.words.specs.Choice.{pick}
use Rattle.text.specs.Commands.{value_from, number_of}
use Rattle.printing.specs.Printing.{decimal_in, decimal}

-- the least number with more than k + 1 digits
above : ℕ → ℕ
above zero = 10
above (suc k) = 10 * above k

value_last : (v : ℕ) (f : List ℕ) (b : ℕ) → value_from v (f ++ (b ∷ [])) ≡ value_from v f * 10 + (b - 48)
unfolding value_from
value_last v [] b = refl
value_last v (x ∷ f) b = value_last (v * 10 + (x - 48)) f b

digits_read : (k n : ℕ) → n < above k → value_from 0 (decimal_in k n) ≡ n
unfolding value_from decimal_in above pick
digits_read zero n h = let g : n < 10 = h in omega arith
digits_read (suc k) n h = let g : n < 10 * above k = h in by (digits_read k (n / 10) (omega arith)) (ltb n 10) refl
  where
    by : value_from 0 (decimal_in k (n / 10)) ≡ n / 10 → (b : Bool) → ltb n 10 ≡ b → value_from 0 (pick b ((48 + n) ∷ []) (decimal_in k (n / 10) ++ ((48 + n % 10) ∷ []))) ≡ n
    by e true t = omega arith
    by e false t = value_last 0 (decimal_in k (n / 10)) (48 + n % 10) ∙ omega (arith, e)

pub reads_back : (n : ℕ) → n < 100000 → number_of (decimal n) ≡ n
unfolding above
reads_back n h = digits_read 4 n h
