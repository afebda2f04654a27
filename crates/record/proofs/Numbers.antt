-- Kinds and answers by number: a kind's number gives the kind again, what a number past the last kind gives, and a kind known among several.
-- Relies on words for a rule of all entries of a table.
use mathlib.Core.Path.{◌≡◌, refl, sym, ap, ◌∙◌}
use mathlib.Core.Bool.{Bool, true, false, not}
use mathlib.Core.List.{List, [], ◌∷◌}
use Prim.Native.Nat.{ℕ, ◌≤◌}
use native.Mathlib.Omega.{arith}
use lib.Dec.{leb, eqb}
use lib.ListN.{get_or-eq_default, replicate}
use borrow.Author.Tests.{eqb-true, ne_eqb, leb-true, leb-false}
use Rattle.words.specs.Choice.{pick, both}
use Rattle.words.proofs.Choice.{pick_false}
use Rattle.words.proofs.Table.{every_place, at}
use Rattle.record.specs.declared.Kind.{Kind}
use Rattle.record.specs.declared.Kind.TheVariants.{Unknown}
use denote.Enum.Declared.{tag_of}
use Rattle.record.specs.contracts.Kind.{the_type}
use Rattle.record.specs.Kinds.{kinds, kind_of, kind_no}

-- a kind's number gives the kind again
pub kind_back : (k : Kind) → kind_of (kind_no k) ≡ k
unfolding kind_of kind_no kinds
kind_back k = grind arith

-- and it is the place of the variant, by which `==` compares kinds
pub tag_no : (k : Kind) → tag_of the_type k ≡ kind_no k
unfolding kind_no
tag_no k = grind arith

-- and a number up to that of the last kind is the number of its kind
pub number_known : (n : ℕ) → n ≤ 22 → kind_no (kind_of n) ≡ n
unfolding kind_of kind_no kinds both
number_known n h = eqb-true _ _ (at (λ k x. eqb (kind_no (kind_of k)) k) (replicate 23 0) refl n (omega arith))

-- any other number gives Unknown
pub unknown : {n : ℕ} → 23 ≤ n → Unknown ≡ kind_of n
unfolding kind_of kinds
unknown {n} h = sym (get_or-eq_default kinds Unknown h)

-- 0 alone is the number of Idle
pub number_zero : (n : ℕ) → eqb (kind_no (kind_of n)) 0 ≡ eqb n 0
unfolding kind_no
number_zero n = by (leb n 22) refl
  where
    by : (b : Bool) → leb n 22 ≡ b → eqb (kind_no (kind_of n)) 0 ≡ eqb n 0
    by true e = ap (λ (k : ℕ). eqb k 0) (number_known n (leb-true _ _ e))
    by false e =
        let h : 23 ≤ n = leb-false _ _ e in
        ap (λ (k : Kind). eqb (kind_no k) 0) (sym (unknown h)) ∙ sym (ne_eqb n 0 (λ z. omega arith))

-- no kind has a number past 23
number_most : (k : Kind) → leb (kind_no k) 23 ≡ true
unfolding kind_no
number_most k = grind arith

-- 23 is that of Unknown, which is no kind of turn
pub last_unknown : (k : Kind) → leb (kind_no k) 22 ≡ not (eqb (kind_no k) 23)
unfolding kind_no
last_unknown k = grind arith

-- whether a number is one of several
abbrev one_of : ℕ → List ℕ → Bool
one_of n [] = false
one_of n (m ∷ ms) = pick (eqb n m) true (one_of n ms)

-- a kind is none of those with these numbers
abbrev pub NoneOf : Kind → List ℕ → Type 0
NoneOf k [] = Unit
NoneOf k (n ∷ ns) = (k ≡ kind_of n → ⊥) × NoneOf k ns

not_one_of : (k : Kind) (ns : List ℕ) → NoneOf k ns → one_of (kind_no k) ns ≡ false
not_one_of k [] h = refl
not_one_of k (n ∷ ns) h =
    let d : eqb (kind_no k) n ≡ false = ne_eqb _ _ (λ e. h.0 (sym (kind_back k) ∙ ap kind_of e)) in
    pick_false _ _ _ d ∙ not_one_of k ns h.1

-- what holds of every number but these holds of the number of a kind that a `match` knows to be none of them
pub kind_but : (k : Kind) (f : ℕ → Bool) (ns : List ℕ) → NoneOf k ns → every_place (λ n x. pick (one_of n ns) true (f n)) 0 (replicate 24 0) ≡ true → f (kind_no k) ≡ true
kind_but k f ns h e =
    sym (pick_false _ _ _ (not_one_of k ns h))
    ∙ at (λ n x. pick (one_of n ns) true (f n)) (replicate 24 0) e (kind_no k) (let l = leb-true _ _ (number_most k) in omega arith)
