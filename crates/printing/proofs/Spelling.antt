-- The digits of a number, from the last to the first, and how long what is printed is.
-- Relies on the definition of what is printed.
use mathlib.Core.Path.{◌≡◌, refl, ap, sym, ◌∙◌}
use mathlib.Core.Bool.{Bool, true, false}
use mathlib.Core.List.{List, [], ◌∷◌, ◌++◌}
use Prim.Native.Nat.{ℕ, zero, suc, ◌+◌, ◌-◌, ◌/◌, ◌%◌, min, ◌≤◌, ◌<◌}
use native.Mathlib.Omega.{arith}
use borrow.Author.Tests.{lt-ltb, le-ltb}
use lib.Dec.{ltb}
use lib.ListN.{length, take, length-append, length-take}
use Rattle.words.specs.Choice.{pick}
use Rattle.text.specs.Parts.{ascii}
use Rattle.printing.specs.Printing.{decimal_in, call_bytes, bytes_of}
use Rattle.printing.specs.declared.Printed.{Printed}
use Rattle.printing.specs.declared.Printed.TheVariants.{Nothing, Header, New, Found, Full, Absent, Refused, End}

-- put_digits: the last digit behind those of a tenth, a number of one digit, and the last digit alone
pub digits_behind : (k n : ℕ) → 0 < k → 10 ≤ n → decimal_in k n ≡ decimal_in (k - 1) (n / 10) ++ ((48 + n % 10) ∷ [])
unfolding decimal_in pick
digits_behind zero n h j = absurd (omega arith)
digits_behind (suc k) n h j = let e : suc k - 1 ≡ k = omega arith in simp (le-ltb n 10 j, e)

pub digits_one : (k n : ℕ) → n < 10 → decimal_in k n ≡ (48 + n % 10) ∷ []
unfolding decimal_in pick
digits_one zero n h = refl
digits_one (suc k) n h = let e : n % 10 ≡ n = omega arith in simp (lt-ltb n 10 h, e)

pub digits_last : (k n : ℕ) → k ≤ 0 → decimal_in k n ≡ (48 + n % 10) ∷ []
unfolding decimal_in
digits_last zero n h = refl
digits_last (suc k) n h = absurd (omega arith)

-- what is printed at once is short, and the first bytes of a buffer that are all of it are as many
decimal_short : (k n : ℕ) → length (decimal_in k n) ≤ suc k
unfolding decimal_in pick
decimal_short zero n = omega arith
decimal_short (suc k) n = go (ltb n 10) refl (decimal_short k (n / 10))
  where
    go : (t : Bool) → ltb n 10 ≡ t → length (decimal_in k (n / 10)) ≤ suc k → length (decimal_in (suc k) n) ≤ suc (suc k)
    go true e h = simp e (omega arith)
    go false e h = simp (e, length-append) (omega arith)

call_short : (i p : ℕ) → length (call_bytes i p) ≤ 17
unfolding call_bytes
call_short i p = simp length-append (omega (arith, decimal_short 4 i, decimal_short 4 (p / 4096), decimal_short 4 (p % 4096)))

pub short : (p : Printed) → length (bytes_of p) ≤ 40
unfolding bytes_of ascii
short Nothing = omega arith
short Header = omega arith
short (New i p n) = simp length-append (omega (arith, call_short i p, decimal_short 4 n))
short (Found i p n) = simp length-append (omega (arith, call_short i p, decimal_short 4 n))
short (Full i p) = simp length-append (omega (arith, call_short i p))
short (Absent i p) = simp length-append (omega (arith, call_short i p))
short (Refused m n) = simp length-append (omega (arith, decimal_short 4 m, decimal_short 4 n))
short (End m n) = simp length-append (omega (arith, decimal_short 4 m, decimal_short 4 n))

pub spelled-length : (p : Printed) (l : List ℕ) (r : ℕ) → 64 ≤ length l → take r l ≡ bytes_of p → r ≡ length (bytes_of p)
spelled-length p l r h a =
    let e : min r (length l) ≡ length (bytes_of p) = sym (length-take r l) ∙ ap length a in
    omega (arith, short p)
