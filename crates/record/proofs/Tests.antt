-- The ways through the functions that ask whether a record fits its layout, each from what the called functions give.
-- Relies on Pieces for the number of Moves.
use mathlib.Core.Path.{◌≡◌, refl, sym, ◌∙◌}
use mathlib.Core.Bool.{Bool, true, false}
use mathlib.Core.List.{List}
use Prim.Native.Nat.{ℕ, zero, suc, ◌+◌, ◌-◌, ◌≤◌, ◌<◌}
use native.Mathlib.Omega.{arith}
use native.Mathlib.Nat.{add-zero, zero-add}
use lib.Dec.{leb, eqb}
use Rattle.std.specs.Prelude.{◌&&◌}
use Rattle.std.specs.List.{list_all, range_with_len}
use borrow.Author.Tests.{eqb-true, ne_eqb, le-leb, lt-leb}
use Rattle.words.specs.Choice.{pick, both, every}
use Rattle.words.specs.Digits.{last_depth}
use Rattle.settings.specs.Sizes.{max_moves}
use Rattle.settings.specs.declared.Settings.{Settings}
use Rattle.record.specs.declared.Head.{Head}
use Rattle.record.specs.Kinds.{kind_no}
use Rattle.record.specs.Layout.{head_at, moves_at, move_at, first_moves, load}
use Rattle.record.proofs.Numbers.{last_unknown}
use Rattle.record.proofs.Pieces.{length-first}
use Rattle.record.specs.Fits.{call_fits, inner_fits, outer_fits, moves_fit, moving_fits, role_fits, answer_fits, fits_by, fits}

-- outer_fit goes through the Moves from the outermost on
with_true : (x : Bool) → (x && true) ≡ both x true
unfolding both
with_true true = refl
with_true false = refl

past_first : (x y z : Bool) → (x && both y z) ≡ both y (x && z)
unfolding both
past_first true y z = refl
past_first false true z = refl
past_first false false z = refl

all_more : (f : ℕ → Bool) (a n : ℕ) → list_all f (range_with_len a (suc n)) ≡ both (f (a + n)) (list_all f (range_with_len a n))
all_more f a zero = rw add-zero (with_true (f a))
all_more f a (suc n) =
    let e : a + 1 + n ≡ a + suc n = omega arith in
    rw (all_more f (a + 1) n, e) (past_first (f a) (f (a + suc n)) _)

pub all_moves : (s : Settings) (l : List ℕ) (i n : ℕ) → list_all (λ j. outer_fits s (move_at l i j)) (range_with_len 0 n) ≡ every (outer_fits s) (first_moves l i n)
unfolding every first_moves
all_moves s l i zero = refl
all_moves s l i (suc n) =
    all_more (λ j. outer_fits s (move_at l i j)) 0 n ∙ rw (zero-add, all_moves s l i n)

module _ (s : Settings) (k : ℕ) (l : List ℕ) (i : ℕ) where
  pub moves_none : (n : ℕ) → n ≡ 0 → moves_fit s k (first_moves l i n) ≡ false
  unfolding moves_fit first_moves
  moves_none n e = simp e

  pub moves_some :
      (n : ℕ) → (n ≡ 0 → ⊥)
      → moves_fit s k (first_moves l i n) ≡ both (inner_fits s k (move_at l i (n - 1)).count) (every (outer_fits s) (first_moves l i (n - 1)))
  unfolding moves_fit first_moves
  moves_some zero e = absurd (e refl)
  moves_some (suc n) e = let m : suc n - 1 ≡ n = omega arith in simp m

  pub moving_is : (w n : ℕ) → moving_fits w s k (first_moves l i n) ≡ pick (leb n (last_depth w)) (moves_fit s k (first_moves l i n)) false
  unfolding moving_fits max_moves
  moving_is w n = rw length-first

-- search_fits, move_fits and fits: the head h of worker i, with the number k of its kind
-- another worker than a viewer may be at any kind
role_any : (k : ℕ) → role_fits false k ≡ true
unfolding role_fits pick
role_any k = refl

module _ (w : ℕ) (s : Settings) (l : List ℕ) (i : ℕ) where
  abbrev h : Head
  h = head_at l i

  abbrev k : ℕ
  k = kind_no h.kind

  pub search_is : 1 ≤ k → k ≤ 10 → fits w false s (load l i) ≡ both (call_fits s k h) (eqb (moves_at l i) 0)
  unfolding fits fits_by load pick both
  search_is low high = simp (ne_eqb k 0 (λ z. omega arith), le-leb k 10 high, role_any, length-first)

  -- all kinds from 11 on but Unknown are of a Move
  pub move_is :
      11 ≤ k → eqb k 23 ≡ false
      → fits w false s (load l i) ≡ both (call_fits s k h) (moving_fits w s k (first_moves l i (moves_at l i)))
  unfolding fits fits_by load pick both
  move_is low e = simp (ne_eqb k 0 (λ z. omega arith), lt-leb k 10 (omega arith), role_any, last_unknown h.kind, e)

  pub unknown_is : eqb k 23 ≡ true → fits w false s (load l i) ≡ false
  unfolding fits fits_by load pick both
  unknown_is e = let n : k ≡ 23 = eqb-true _ _ e in simp (n, role_any)

  -- an idle worker's record, and that of an open call: its kind is one of its sort of worker, and it fits as any other worker's
  pub idle_is : (v : Bool) → eqb k 0 ≡ true → fits w v s (load l i) ≡ answer_fits v h.answer
  unfolding fits fits_by load pick
  idle_is v e = simp e

  pub role_is : (v : Bool) → eqb k 0 ≡ false → role_fits v k ≡ true → fits w v s (load l i) ≡ fits w false s (load l i)
  unfolding fits fits_by load pick both
  role_is v e r = simp (e, r, role_any)

  pub no_role_is : (v : Bool) → eqb k 0 ≡ false → role_fits v k ≡ false → fits w v s (load l i) ≡ false
  unfolding fits fits_by load pick both
  no_role_is v e r = simp (e, r)

-- the same of a kind by its number, from what the called functions give
module _ (w : ℕ) (v : Bool) (s : Settings) (l : List ℕ) (i : ℕ) {k : ℕ} {h : Head} where
  pub fits-idle : {b : Bool} → b ≡ answer_fits v h.answer → eqb k 0 ≡ true → k ≡ kind_no h.kind → h ≡ head_at l i → b ≡ fits w v s (load l i)
  fits-idle a t e f = a ∙ rw f (sym (idle_is w s l i v (rw (← f, ← e) t)))

  pub fits_role : {b z : Bool} → b ≡ fits w false s (load l i) → z ≡ role_fits v k → z ≡ true → (k ≡ 0 → ⊥) → k ≡ kind_no h.kind → h ≡ head_at l i → b ≡ fits w v s (load l i)
  fits_role a y t n e f = a ∙ sym (role_is w s l i v (rw (← f, ← e) (ne_eqb k 0 n)) (rw (← f, ← e) (sym y ∙ t)))

  pub fits_no_role : {z : Bool} → z ≡ role_fits v k → z ≡ false → (k ≡ 0 → ⊥) → k ≡ kind_no h.kind → h ≡ head_at l i → false ≡ fits w v s (load l i)
  fits_no_role y t n e f = sym (no_role_is w s l i v (rw (← f, ← e) (ne_eqb k 0 n)) (rw (← f, ← e) (sym y ∙ t)))
