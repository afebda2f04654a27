-- The ways through the functions: the library's words for the same cuts, the digits of a number, and the numbers of a line.
-- Relies on the laws of the parts.
use mathlib.Core.Path.{◌≡◌, refl, ap, sym, ◌∙◌}
use mathlib.Core.Bool.{Bool, true, false, not, ◌&&◌, cond}
use mathlib.Core.List.{List, [], ◌∷◌, ◌++◌}
use Prim.Native.Nat.{ℕ, zero, suc, ◌+◌, ◌-◌, ◌*◌, ◌^◌, ◌≤◌, ◌<◌, min}
use native.Mathlib.Nat.{pow-suc, pow-le-pow_right}
use native.Mathlib.Numerals.{add-one}
use native.Mathlib.Omega.{arith}
use borrow.Author.Tests.{leb-true, ltb-true, ltb-false, lt-ltb, le-ltb, eqb-true, eqb-false, eq-eqb}
use lib.Dec.{eqb, ltb, leb}
use lib.ListN.{length, get_or, set, take, drop}
pub use lib.ListN.{length-drop, drop_of_length-le}
use lib.Seq.{drop-cons, take-suc-set}
pub use lib.Seq.{take_all}
use Rattle.std.specs.List.{list_all, filter, position, position_or_len, slice_split, onto_first}
use Rattle.std.specs.Prelude.{Some, None}
use Rattle.std.proofs.lemmas.Bool.{ne_eqb}
use Rattle.std.proofs.lemmas.List.{length-take}
use Rattle.std.proofs.lemmas.List.Sums.{length-filter}
use Rattle.std.proofs.lemmas.List.Splits.{length-slice_split}
use Rattle.std.proofs.lemmas.Option.{none-some, same_Some}
use Rattle.std.specs.Char.{is_ascii_digit}
use Rattle.words.specs.Choice.{pick, both, every}
use Rattle.words.proofs.Choice.{both_left, both_right}
use Rattle.text.specs.Parts.{comma, split, longer}
use Rattle.text.specs.Commands.{is_digit, is_number, value_from, number_of, field, field_count, all_numbers, values}
use Rattle.text.specs.Cut.{up_to, past, has}
use Rattle.text.proofs.Parts.{past-drop, up_to-take, up_to-none, up_to_shorter, part-first, part_next}

-- the library's words for the same cuts and tests
both_no : (a : Bool) → both a false ≡ false
unfolding both
both_no true = refl
both_no false = refl

both-and : (a b : Bool) → both a b ≡ (a && b)
unfolding both
both-and true b = refl
both-and false b = refl

pub digits_every : (l : List ℕ) → list_all is_ascii_digit l ≡ every is_digit l
unfolding every both
digits_every [] = refl
digits_every (x ∷ l) = rw (digits_every l) (sym (both-and (is_digit x) (every is_digit l)) ∙ ap (λ t. both t (every is_digit l)) (sym (both-and (leb 48 x) (leb x 57))))

module _ (b : ℕ) where
  onto-longer : (x : ℕ) (q : List (List ℕ)) → onto_first x q ≡ longer x q
  unfolding longer
  onto-longer x [] = refl
  onto-longer x (y ∷ q) = refl

  pub split_slices : (l : List ℕ) → slice_split (λ x. eqb x b) l ≡ split b l
  unfolding split longer pick
  split_slices [] = refl
  split_slices (x ∷ l) = go (slice_split (λ y. eqb y b) l) (split b l) (split_slices l)
    where
      go : (p q : List (List ℕ)) → p ≡ q → cond (eqb x b) ([] ∷ p) (onto_first x p) ≡ pick (eqb x b) ([] ∷ q) (longer x q)
      go p q e =
          rw e
          (elim (eqb x b) as (λ t. cond t ([] ∷ q) (onto_first x q) ≡ pick t ([] ∷ q) (longer x q)) [ true ↦ refl | false ↦ onto-longer x q ])

  -- where the first byte b stands
  pub place : (l : List ℕ) → position_or_len (λ x. eqb x b) l ≡ length (up_to b l)
  unfolding up_to pick
  place [] = refl
  place (x ∷ l) =
      elim (eqb x b) as (λ t. cond (not t) (1 + position_or_len (λ y. eqb y b) l) 0 ≡ length (pick t [] (x ∷ up_to b l))) [
        | true ↦ refl
        | false ↦ omega (arith, place l)
      ]

  -- what that place says of the text, and what it says that there is none
  pub find_some : (l : List ℕ) {n : ℕ} → position (λ x. eqb x b) l ≡ Some n → (has b l ≡ true) × (n ≡ length (up_to b l))
  find_some l {n} e = go (has b l) refl
    where
      go : (t : Bool) → has b l ≡ t → (has b l ≡ true) × (n ≡ length (up_to b l))
      go true h = (h, sym (same_Some _ _ (simp (place l, lt-ltb _ _ (up_to_shorter b l h)) at e)))
      go false h = absurd (none-some _ (simp (place l, up_to-none b l h, le-ltb (length l) (length l) (omega arith)) at e))

  pub find_none : (l : List ℕ) → position (λ x. eqb x b) l ≡ None → has b l ≡ false
  find_none l e = go (has b l) refl
    where
      go : (t : Bool) → has b l ≡ t → has b l ≡ false
      go true h = absurd (none-some _ (sym (simp (place l, lt-ltb _ _ (up_to_shorter b l h)) at e)))
      go false h = h

  pub up_to_before : (l : List ℕ) → up_to b l ≡ take (position_or_len (λ x. eqb x b) l) l
  up_to_before l = rw (place l) (up_to-take b l)

  pub past_after : (l : List ℕ) → past b l ≡ drop (position_or_len (λ x. eqb x b) l + 1) l
  past_after l = rw (place l, add-one) (past-drop b l)

pub ruleset up_to_steps = (up_to_before, take_all)

pub ruleset past_steps = (past_after, take_all, length-drop, drop_of_length-le)

-- what a number's test says: the length and each byte
pub digits_few : (l : List ℕ) → is_number l ≡ true → length l ≤ 4
unfolding is_number
digits_few l e = leb-true _ _ (both_right _ _ (both_left _ _ e))

every-place : (f : ℕ → Bool) (l : List ℕ) (k : ℕ) → every f l ≡ true → k < length l → f (get_or l k 0) ≡ true
unfolding every
every-place f [] k e h = absurd (omega arith)
every-place f (x ∷ l) zero e h = both_left _ _ e
every-place f (x ∷ l) (suc k) e h = every-place f l k (both_right (f x) _ e) (omega arith)

pub digit_in : (l : List ℕ) (k : ℕ) → is_number l ≡ true → k < length l → (48 ≤ get_or l k 0) × (get_or l k 0 ≤ 57)
unfolding is_number
digit_in l k e h =
    let d : is_digit (get_or l k 0) ≡ true = every-place is_digit l k (both_left _ _ (both_right _ _ e)) h in
    (leb-true _ _ (both_left _ _ d), leb-true _ _ (both_right _ _ d))

-- number_of: one digit more, and all
pub value_more :
    (l : List ℕ) (n k : ℕ) → k < length l → value_from n (drop k l) ≡ value_from (n * 10 + (get_or l k 0 - 48)) (drop (k + 1) l)
unfolding value_from
value_more l n k h = rw (add-one, drop-cons l k 0 h)

pub value_end : (l : List ℕ) (n k : ℕ) → length l ≤ k → value_from n (drop k l) ≡ n
unfolding value_from
value_end l n k h = simp (drop_of_length-le l h)

pub power_more : (k : ℕ) → 10 ^ (k + 1) ≡ 10 * 10 ^ k
power_more k = rw (add-one, pow-suc) (omega arith)

pub power_few : (k : ℕ) → k ≤ 4 → 10 ^ k ≤ 10000
power_few k h = pow-le-pow_right {n = 10} (omega arith) h

pub value_grows : (n k v : ℕ) → n < 10 ^ k → v ≤ 9 → n * 10 + v < 10 ^ (k + 1)
value_grows n k v h j = rw (add-one, pow-suc) (omega arith)

pub value_small : (n k : ℕ) → n < 10 ^ k → k ≤ 4 → n ≤ 9999
value_small n k h j = let u : 10 ^ k ≤ 10 ^ 4 = pow-le-pow_right {n = 10} (omega arith) j in omega arith

pub ruleset digit_steps = (digit_in, digits_few, value_more, value_end, power_more, power_few)

-- field: the first, and one more
pub field_first : (l : List ℕ) (k : ℕ) → k ≡ 0 → field k l ≡ up_to comma l
field_first l k e = rw e (part-first comma l)

pub field_next : (l : List ℕ) (k : ℕ) → (k ≡ 0 → ⊥) → field k l ≡ field (k - 1) (past comma l)
field_next l zero h = absurd (h refl)
field_next l (suc k) h = let e : suc k - 1 ≡ k = omega arith in rw e (part_next comma l k)

pub ruleset field_steps = (field_first, field_next)

-- has_fields: the commas up to comma n tell whether there are n fields
same_test : (a b n : ℕ) → (a ≡ n → b ≡ n) → (b ≡ n → a ≡ n) → eqb a n ≡ eqb b n
same_test a b n f g = go (eqb b n) refl
  where
    go : (t : Bool) → eqb b n ≡ t → eqb a n ≡ eqb b n
    go true e = eq-eqb a n (g (eqb-true b n e)) ∙ sym e
    go false e = ne_eqb a n (λ h. eqb-false b n e (f h)) ∙ sym e

pub fields_told : (l : List ℕ) (n : ℕ) → eqb (length (take n (filter (λ x. eqb x comma) l)) + 1) n ≡ eqb (field_count l) n
fields_told l n =
    let k : field_count l ≡ length (filter (λ x. eqb x comma) l) + 1 =
    ap length (sym (split_slices comma l)) ∙ length-slice_split (λ x. eqb x comma) l ∙ ap (λ m. m + 1) (sym (length-filter (λ x. eqb x comma) l)) in
    let t : length (take n (filter (λ x. eqb x comma) l)) ≡ min n (length (filter (λ x. eqb x comma) l)) = length-take n (filter (λ x. eqb x comma) l) in
    same_test _ _ n (λ h. omega arith) (λ h. omega arith)

-- numbers: one number more, one that is none, and all
pub take_more : (v : ℕ) (all : List ℕ) (k : ℕ) → k < length all → take (k + 1) (set all k v) ≡ take k all ++ (v ∷ [])
take_more v all k h = rw add-one (take-suc-set all k v h)

pub values_more : (l : List ℕ) (k : ℕ) → values (k + 1) l ≡ values k l ++ (number_of (field (k + 1) l) ∷ [])
unfolding values
values_more l k = rw add-one refl

pub all_more : (l : List ℕ) (k : ℕ) → all_numbers (k + 1) l ≡ both (all_numbers k l) (is_number (field (k + 1) l))
unfolding all_numbers
all_more l k = rw add-one refl

-- a field that is no number
pub not_all : (l : List ℕ) (k n : ℕ) → is_number (field (k + 1) l) ≡ false → k < n → all_numbers n l ≡ false
unfolding all_numbers both
not_all l k zero e h = absurd (omega arith)
not_all l k (suc n) e h = go (ltb k n) refl (not_all l k n e)
  where
    go : (t : Bool) → ltb k n ≡ t → (k < n → all_numbers n l ≡ false) → both (all_numbers n l) (is_number (field (suc n) l)) ≡ false
    go true t f = simp (f (ltb-true k n t))
    go false t f = let u : suc n ≡ k + 1 = (let g = ltb-false k n t in omega arith) in rw (u, e) (both_no _)

pub ruleset numbers_steps = (take_more, take_all, values_more, all_more, not_all)
