-- Laws of the entries that a list of turns reaches: they end at the first 6, which changes nothing and is not counted.
-- Relies on the definition of a list of turns and on what a refused turn leaves.
use Prim.Native.Nat.{ℕ, zero, suc, ◌+◌}
use mathlib.Core.Path.{◌≡◌, refl, sym, ap, ◌∙◌}
use mathlib.Core.Bool.{Bool, true, false, not}
use mathlib.Core.List.{List, [], ◌∷◌, ◌++◌}
use native.Mathlib.Omega.{arith}
use borrow.Author.Tests.{eqb-true}
use Rattle.words.specs.Choice.{both, every}
use Rattle.words.proofs.Choice.{pick_true, pick_false, both_true, both_false_left}
use Rattle.rules.specs.Lists.{State, after, Visit, visit, turn_at, left_after, visits, end_state, met_six, counts, turns_done}
use Rattle.rules.proofs.OneTurn.{six-leaves}

-- no entry meets 6
abbrev pub NoSix : ℕ → List Visit → Type 0
NoSix w vs = every (λ v. not (met_six w v)) vs ≡ true

-- an entry of the list that meets 6, between those before it and the rest
pub record SixAmong (w : ℕ) (vs : List Visit) : Type 0 where
  pub before : List Visit
  pub entry : Visit
  pub rest : List Visit
  pub parts : vs ≡ before ++ entry ∷ rest
  pub six : met_six w entry ≡ true

-- the same with one more entry in front
six-later : (w : ℕ) (v : Visit) {vs : List Visit} → SixAmong w vs → SixAmong w (v ∷ vs)
six-later w v f =
    record {
      before = v ∷ f.before;
      entry = f.entry;
      rest = f.rest;
      parts = ap (λ us. v ∷ us) f.parts;
      six = f.six;
    }

-- a list that does not pass the test has such an entry
pub some_six : (w : ℕ) (vs : List Visit) → every (λ v. not (met_six w v)) vs ≡ false → SixAmong w vs
unfolding every both
some_six w [] e = let y : ◌≡◌ {A = ℕ} 0 1 = cc in absurd (omega arith)
some_six w (v ∷ vs) e = go (met_six w v) refl (some_six w vs)
  where
    go : (b : Bool) → met_six w v ≡ b → (every (λ v. not (met_six w v)) vs ≡ false → SixAmong w vs) → SixAmong w (v ∷ vs)
    go true p f = record { before = []; entry = v; rest = vs; parts = refl; six = p }
    go false p f = six-later w v (f (rw p at e))

-- a test with a part that fails
both_no : (a : Bool) {b : Bool} → b ≡ false → both a b ≡ false
unfolding both
both_no true p = p
both_no false p = refl

-- a list with an entry that meets 6 does not pass the test
pub six_in : (w : ℕ) (before : List Visit) (v : Visit) (rest : List Visit) → met_six w v ≡ true → every (λ u. not (met_six w u)) (before ++ v ∷ rest) ≡ false
unfolding every
six_in w [] v rest e = both_false_left _ (ap not e)
six_in w (u ∷ before) v rest e = both_no _ (six_in w before v rest e)

-- with no turn left nothing is reached
pub none_left : (w : ℕ) (l : List ℕ) (x : State) → visits w l 0 x ≡ []
unfolding visits
none_left w [] x = refl
none_left w (i ∷ l) x = refl

-- after a 6 no turn may be done
six-ends : (w : ℕ) (v : Visit) (n : ℕ) → met_six w v ≡ true → left_after (turn_at w v).reply.number n ≡ 0
unfolding left_after met_six
six-ends w v n h = pick_true _ _ _ h

-- so after a 6 nothing is reached
pub six_stops : (w : ℕ) (v : Visit) (l : List ℕ) (n : ℕ) (x : State) → met_six w v ≡ true → visits w l (left_after (turn_at w v).reply.number n) x ≡ []
six_stops w v l n x h = ap (λ m. visits w l m x) (six-ends w v n h) ∙ none_left w l x

-- a list with an entry is not empty
pub not_empty : (before : List Visit) (v : Visit) (rest : List Visit) → [] ≡ before ++ v ∷ rest → ⊥
not_empty [] v rest e = let y : ◌≡◌ {A = ℕ} 0 1 = cc in omega arith
not_empty (u ∷ before) v rest e = let y : ◌≡◌ {A = ℕ} 0 1 = cc in omega arith

-- an entry u after which another is reached has not met 6
goes_on_lem : (w : ℕ) (u : Visit) (l : List ℕ) (n : ℕ) (x : State) (before : List Visit) (v : Visit) (rest : List Visit) → visits w l (left_after (turn_at w u).reply.number n) x ≡ before ++ v ∷ rest → not (met_six w u) ≡ true
goes_on_lem w u l n x before v rest e = go (met_six w u) refl
  where
    go : (b : Bool) → met_six w u ≡ b → not (met_six w u) ≡ true
    go true p = absurd (not_empty before v rest (sym (six_stops w u l n x p) ∙ e))
    go false p = ap not p

-- an entry that meets 6 is the last that is reached, and none before it meets 6
pub six_is_last : (w : ℕ) (l : List ℕ) (n : ℕ) (x : State) (before : List Visit) (v : Visit) (rest : List Visit) → visits w l n x ≡ before ++ v ∷ rest → met_six w v ≡ true → (rest ≡ []) × NoSix w before
unfolding visits every
six_is_last w [] n x before v rest e h = absurd (not_empty before v rest e)
six_is_last w (i ∷ l) zero x before v rest e h = absurd (not_empty before v rest e)
six_is_last w (i ∷ l) (suc n) x [] v rest e h =
    let p : visit i x ≡ v = cc in
    let q : visits w l (left_after (turn_at w (visit i x)).reply.number n) (after (turn_at w (visit i x))) ≡ rest = cc in
    (sym q ∙ six_stops w (visit i x) l n _ (ap (met_six w) p ∙ h), refl)
six_is_last w (i ∷ l) (suc n) x (u ∷ before) v rest e h =
    let p : visit i x ≡ u = cc in
    let q : visits w l (left_after (turn_at w (visit i x)).reply.number n) (after (turn_at w (visit i x))) ≡ before ++ v ∷ rest = cc in
    let (r, o) = six_is_last w l _ _ before v rest q h in
    (r, both_true (ap (λ y. not (met_six w y)) (sym p) ∙ goes_on_lem w (visit i x) l n _ before v rest q) o)

-- the state after the last entry is what its turn leaves
pub end-last : (w : ℕ) (x : State) (before : List Visit) (v : Visit) → end_state w x (before ++ v ∷ []) ≡ after (turn_at w v)
unfolding end_state
end-last w x [] v = refl
end-last w x (u ∷ before) v = end-last w (after (turn_at w u)) before v

-- an entry that meets 6 leaves the state that it finds
pub end_at_six : (w : ℕ) (x : State) (before : List Visit) (v : Visit) → met_six w v ≡ true → end_state w x (before ++ v ∷ []) ≡ v.before
unfolding met_six
end_at_six w x before v h = end-last w x before v ∙ six-leaves w _ _ _ (eqb-true _ _ h)

-- the turns done at the entries of two lists
pub done_append : (w : ℕ) (vs us : List Visit) → turns_done w (vs ++ us) ≡ turns_done w vs + turns_done w us
unfolding turns_done
done_append w [] us = omega arith
done_append w (v ∷ vs) us = omega (arith, done_append w vs us)

-- an entry that meets 6 is not counted
pub six_uncounted : (w : ℕ) (v : Visit) → met_six w v ≡ true → counts w v ≡ false
unfolding counts
six_uncounted w v h = both_no _ (ap not h)

-- so the turns done are those before it
pub done_at_six : (w : ℕ) (before : List Visit) (v : Visit) → met_six w v ≡ true → turns_done w (before ++ v ∷ []) ≡ turns_done w before
unfolding turns_done
done_at_six w before v h =
    done_append w before (v ∷ []) ∙ omega (arith, pick_false {A = ℕ} (counts w v) 1 0 (six_uncounted w v h))
