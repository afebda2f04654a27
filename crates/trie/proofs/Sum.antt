-- Sums over the numbers below n.
-- Relies on Update.
use mathlib.Core.Path.{◌≡◌, refl, sym, ap, ap₂}
use mathlib.Core.Logic.{◌≢◌}
use Prim.Native.Nat.{ℕ, zero, suc, ◌+◌, ◌*◌, ◌/◌, ◌≤◌, ◌<◌}
use native.Mathlib.Nat.{le-div_iff_mul-le, mul_comm}
use native.Mathlib.Decide.{ℕ_discrete}
use native.Mathlib.Omega.{arith}
use Rattle.trie.proofs.Update.{upd, upd_same, upd_other}

pub sum : ℕ → (ℕ → ℕ) → ℕ
sum zero f = 0
sum (suc n) f = sum n f + f n

pub sum_le : (n : ℕ) (f : ℕ → ℕ) (b : ℕ) → ((i : ℕ) → i < n → f i ≤ b) → sum n f ≤ n * b
unfolding sum
sum_le zero f b h = omega arith
sum_le (suc n) f b h = let k = sum_le n f b (λ i l. h i (omega arith)) in let j = h n (omega arith) in omega arith

-- a change above n is not seen
sum_above : (n : ℕ) (f : ℕ → ℕ) (i x : ℕ) → n ≤ i → sum n (upd f i x) ≡ sum n f
unfolding sum
sum_above zero f i x h = refl
sum_above (suc n) f i x h = let k = sum_above n f i x (omega arith) in let j = upd_other f i x n (omega arith) in omega arith

pub sum_upd : (n : ℕ) (f : ℕ → ℕ) (i x : ℕ) → i < n → sum n (upd f i x) + f i ≡ sum n f + x
unfolding sum
sum_upd zero f i x h = absurd (omega arith)
sum_upd (suc n) f i x h = by (ℕ_discrete i n) (λ l. sum_upd n f i x l)
  where
    by : Dec (i ≡ n) → (i < n → sum n (upd f i x) + f i ≡ sum n f + x) → sum n (upd f i x) + upd f i x n + f i ≡ sum n f + f n + x
    by (yes e) k = let a = sum_above n f i x (omega arith) in let b : upd f i x n ≡ x = rw (← e) (upd_same f i x) in let c = ap f e in omega arith
    by (no e) k = let a = k (omega arith) in let b = upd_other f i x n (λ q. e (sym q)) in omega arith

-- n numbers that are 0 or 1, one of them 0
pub sum_spare : (n : ℕ) (f : ℕ → ℕ) (i : ℕ) → i < n → ((j : ℕ) → j < n → f j ≤ 1) → f i ≡ 0 → suc (sum n f) ≤ n
sum_spare n f i l h z =
    let a = sum_upd n f i 1 l in
    let b = sum_le n (upd f i 1) 1 (λ j k. by j k (ℕ_discrete j i)) in
    omega arith
  where
    by : (j : ℕ) → j < n → Dec (j ≡ i) → upd f i 1 j ≤ 1
    by j k (yes e) = let a : upd f i 1 j ≡ 1 = rw e (upd_same f i 1) in omega arith
    by j k (no e) = let a = upd_other f i 1 j e in let b = h j k in omega arith

-- Levels taken: the root, `count` of each depth from 1, and those held. A worker that holds none finds a level left.
pub level-left : (depths limit nodes workers taken : ℕ) (count holds : ℕ → ℕ) (i : ℕ) → 0 < limit → ((d : ℕ) → limit * count d ≤ nodes) → ((j : ℕ) → j < workers → holds j ≤ 1) → i < workers → holds i ≡ 0 → taken ≡ 1 + sum depths (λ d. count (suc d)) + sum workers holds → taken < 1 + depths * (nodes / limit) + workers
level-left depths limit nodes workers taken count holds i pos h k l z e =
    let a = sum_le depths (λ d. count (suc d)) (nodes / limit) (λ d q. (le-div_iff_mul-le pos).1 (rw mul_comm at (h (suc d)))) in
    let b = sum_spare workers holds i l k z in
    omega arith

pub sum_ext : (n : ℕ) (f g : ℕ → ℕ) → ((i : ℕ) → f i ≡ g i) → sum n f ≡ sum n g
unfolding sum
sum_ext zero f g h = refl
sum_ext (suc n) f g h = ap₂ ◌+◌ (sum_ext n f g h) (h n)

-- numbers that are all 0
pub sum_zero : (n : ℕ) (f : ℕ → ℕ) → ((i : ℕ) → f i ≡ 0) → sum n f ≡ 0
unfolding sum
sum_zero zero f h = refl
sum_zero (suc n) f h = let k = sum_zero n f h in let j = h n in omega arith

pub sum_mono : (n : ℕ) (f g : ℕ → ℕ) → ((i : ℕ) → g i ≤ f i) → sum n g ≤ sum n f
unfolding sum
sum_mono zero f g h = omega arith
sum_mono (suc n) f g h = let k = sum_mono n f g h in let j = h n in omega arith

-- no number is greater, and one is less by k
pub sum_less : (n : ℕ) (f g : ℕ → ℕ) (i k : ℕ) → i < n → ((j : ℕ) → j ≢ i → g j ≤ f j) → k + g i ≤ f i → k + sum n g ≤ sum n f
sum_less n f g i k l h e =
    let a = sum_upd n g i (k + g i) l in
    let b = sum_mono n f (upd g i (k + g i)) (λ j. by j (ℕ_discrete j i)) in
    omega arith
  where
    by : (j : ℕ) → Dec (j ≡ i) → upd g i (k + g i) j ≤ f j
    by j (yes q) = rw (q, upd_same g i (k + g i)) e
    by j (no q) = rw (upd_other g i (k + g i) j q) (h j q)
