-- The parts of a text are cut off one after the other, at the first byte b.
-- Relies on words for the choice by a test.
use mathlib.Core.Path.{◌≡◌, refl, ap, sym, ◌∙◌}
use mathlib.Core.Bool.{Bool, true, false, not}
use mathlib.Core.List.{List, [], ◌∷◌}
use Prim.Native.Nat.{ℕ, zero, suc, ◌<◌}
use native.Mathlib.Omega.{arith}
use borrow.Author.Tests.{eq-eqb, ne_eqb, eqb-true, eqb-false}
use lib.Dec.{eqb}
use lib.ListN.{length, take, drop}
use Rattle.words.specs.Choice.{pick, both}
use Rattle.text.specs.Parts.{split, longer, part}
use Rattle.text.specs.Cut.{up_to, past, has}

-- a byte b stands there: the part before it, and the parts of what is behind it
pub split-has : (b : ℕ) (l : List ℕ) → has b l ≡ true → split b l ≡ up_to b l ∷ split b (past b l)
unfolding split up_to past has pick longer
split-has b [] h = let z : ◌≡◌ {A = Bool} false true = h in cc
split-has b (x ∷ l) h = go (eqb x b) refl (split-has b l)
  where
    go :
        (t : Bool) → eqb x b ≡ t → (has b l ≡ true → split b l ≡ up_to b l ∷ split b (past b l))
        → split b (x ∷ l) ≡ up_to b (x ∷ l) ∷ split b (past b (x ∷ l))
    go true e more = simp e
    go false e more = simp (e, more (simp e at h))

-- none stands there: the text is one part
pub up_to-none : (b : ℕ) (l : List ℕ) → has b l ≡ false → up_to b l ≡ l
unfolding up_to has pick
up_to-none b [] h = refl
up_to-none b (x ∷ l) h = go (eqb x b) refl (up_to-none b l)
  where
    go : (t : Bool) → eqb x b ≡ t → (has b l ≡ false → up_to b l ≡ l) → up_to b (x ∷ l) ≡ x ∷ l
    go true e more = let z : ◌≡◌ {A = Bool} true false = simp e at h in cc
    go false e more = simp (e, more (simp e at h))

pub split-none : (b : ℕ) (l : List ℕ) → has b l ≡ false → split b l ≡ l ∷ []
unfolding split has pick longer
split-none b [] h = refl
split-none b (x ∷ l) h = go (eqb x b) refl (split-none b l)
  where
    go : (t : Bool) → eqb x b ≡ t → (has b l ≡ false → split b l ≡ l ∷ []) → split b (x ∷ l) ≡ (x ∷ l) ∷ []
    go true e more = let z : ◌≡◌ {A = Bool} true false = simp e at h in cc
    go false e more = simp (e, more (simp e at h))

-- there is always a first part
pub split-more : (b : ℕ) (l : List ℕ) → (p : List ℕ) × (ps : List (List ℕ)) × (split b l ≡ p ∷ ps)
split-more b l = go (has b l) refl
  where
    go : (t : Bool) → has b l ≡ t → (p : List ℕ) × (ps : List (List ℕ)) × (split b l ≡ p ∷ ps)
    go true e = (up_to b l, split b (past b l), split-has b l e)
    go false e = (l, [], split-none b l e)

-- the part before the first b is shorter than the whole
pub up_to_shorter : (b : ℕ) (l : List ℕ) → has b l ≡ true → length (up_to b l) < length l
unfolding up_to has pick
up_to_shorter b [] h = let z : ◌≡◌ {A = Bool} false true = h in let y : ◌≡◌ {A = ℕ} 0 1 = cc in omega arith
up_to_shorter b (x ∷ l) h = go (eqb x b) refl (up_to_shorter b l)
  where
    go : (t : Bool) → eqb x b ≡ t → (has b l ≡ true → length (up_to b l) < length l) → length (up_to b (x ∷ l)) < suc (length l)
    go true e more = simp e (omega arith)
    go false e more = let i : length (up_to b l) < length l = more (simp e at h) in simp e (omega arith)

-- where the parts lie in the text
pub past-drop : (b : ℕ) (l : List ℕ) → past b l ≡ drop (suc (length (up_to b l))) l
unfolding past up_to pick
past-drop b [] = refl
past-drop b (x ∷ l) = go (eqb x b) refl (past-drop b l)
  where
    go :
        (t : Bool) → eqb x b ≡ t → past b l ≡ drop (suc (length (up_to b l))) l
        → past b (x ∷ l) ≡ drop (suc (length (up_to b (x ∷ l)))) (x ∷ l)
    go true e more = simp e
    go false e more = simp e more

pub up_to-take : (b : ℕ) (l : List ℕ) → up_to b l ≡ take (length (up_to b l)) l
unfolding up_to pick
up_to-take b [] = refl
up_to-take b (x ∷ l) = go (eqb x b) refl (up_to-take b l)
  where
    go : (t : Bool) → eqb x b ≡ t → up_to b l ≡ take (length (up_to b l)) l → up_to b (x ∷ l) ≡ take (length (up_to b (x ∷ l))) (x ∷ l)
    go true e more = simp e
    go false e more = simp e (ap (λ (r : List ℕ). x ∷ r) more)

-- the parts by their numbers: each is what lies before the next b, of what lies behind the b before it
pub part-first : (b : ℕ) (l : List ℕ) → part 0 (split b l) ≡ up_to b l
unfolding part
part-first b l = go (has b l) refl
  where
    go : (t : Bool) → has b l ≡ t → part 0 (split b l) ≡ up_to b l
    go true e = simp (split-has b l e)
    go false e = simp (split-none b l e, up_to-none b l e)

past-none : (b : ℕ) (l : List ℕ) → has b l ≡ false → past b l ≡ []
unfolding past has pick
past-none b [] h = refl
past-none b (x ∷ l) h = go (eqb x b) refl (past-none b l)
  where
    go : (t : Bool) → eqb x b ≡ t → (has b l ≡ false → past b l ≡ []) → past b (x ∷ l) ≡ []
    go true e more = let z : ◌≡◌ {A = Bool} true false = simp e at h in cc
    go false e more = simp (e, more (simp e at h))

part_empty : (b n : ℕ) → part n (split b []) ≡ []
unfolding part split
part_empty b zero = refl
part_empty b (suc n) = refl

pub part_next : (b : ℕ) (l : List ℕ) (n : ℕ) → part (suc n) (split b l) ≡ part n (split b (past b l))
unfolding part
part_next b l n = go (has b l) refl
  where
    go : (t : Bool) → has b l ≡ t → part (suc n) (split b l) ≡ part n (split b (past b l))
    go true e = simp (split-has b l e)
    go false e = simp (split-none b l e, past-none b l e) (sym (part_empty b n))

-- how many parts there are: one, or one more than behind the first b
pub count_one : (b : ℕ) (l : List ℕ) → eqb (length (split b l)) 1 ≡ not (has b l)
count_one b l = go (has b l) refl
  where
    go : (t : Bool) → has b l ≡ t → eqb (length (split b l)) 1 ≡ not (has b l)
    go true e =
        let m = split-more b (past b l) in
        rw (split-has b l e, e, m.2) (ne_eqb (suc (suc (length m.1))) 1 (λ z. omega arith))
    go false e = simp (split-none b l e, e)

next_same : (m n : ℕ) → eqb (suc m) (suc n) ≡ eqb m n
next_same m n = go (eqb m n) refl
  where
    go : (t : Bool) → eqb m n ≡ t → eqb (suc m) (suc n) ≡ eqb m n
    go true e = eq-eqb (suc m) (suc n) (ap suc (eqb-true m n e)) ∙ sym e
    go false e = ne_eqb (suc m) (suc n) (λ (z : suc m ≡ suc n). eqb-false m n e (omega arith)) ∙ sym e

pub count-more : (b : ℕ) (l : List ℕ) (n : ℕ) → eqb (length (split b l)) (suc (suc n)) ≡ both (has b l) (eqb (length (split b (past b l))) (suc n))
unfolding both
count-more b l n = go (has b l) refl
  where
    go : (t : Bool) → has b l ≡ t → eqb (length (split b l)) (suc (suc n)) ≡ both (has b l) (eqb (length (split b (past b l))) (suc n))
    go true e = rw (split-has b l e, e) (next_same (length (split b (past b l))) (suc n))
    go false e = rw (split-none b l e, e) (ne_eqb 1 (suc (suc n)) (λ z. omega arith))
