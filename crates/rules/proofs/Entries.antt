-- An entry that a list of turns reaches, by its turn's number: whether it counts, and what is reached behind it.
-- Relies on the definition of a list of turns and on the laws of the first no.
use Prim.Native.Nat.{ℕ, suc, ◌≤◌}
use mathlib.Core.Path.{◌≡◌, refl, sym, ap, ◌∙◌}
use mathlib.Core.Logic.{◌≢◌, ◌⊎◌, inl, inr}
use mathlib.Core.Bool.{Bool, true, false, not}
use mathlib.Core.List.{List, [], ◌∷◌}
use native.Mathlib.Omega.{arith}
use borrow.Author.Tests.{eq-eqb, ne_eqb}
use Rattle.words.specs.Choice.{asks, every, first_no}
use Rattle.words.proofs.Choice.{pick_true, pick_false, both_true, both_false_left}
use Rattle.settings.specs.Sizes.{question1, question3, views}
use Rattle.rules.specs.Asked.{question4, question6, question8, question9}
use Rattle.rules.specs.Operations.{question2_of, record_of, memory_of, turn_questions, turn}
use Rattle.rules.specs.Lists.{State, after, Visit, visit, turn_at, left_after, visits, met_six, counts}
use Rattle.rules.specs.Refusals.{here, later}
use Rattle.rules.proofs.Questions.{first-later, first_yes, gives-first_no, all_yes, none-given}
use Rattle.rules.proofs.OneTurn.{turn-number, eight-leaves}
use Rattle.rules.proofs.Visits.{none_left}

module _ (w : ℕ) (x : State) (i : ℕ) where
  abbrev number : ℕ
  number = (turn w x.settings i x.areas).reply.number

  -- the entry's questions 6, 8 and 9
  abbrev six : Bool
  six = question6 w (views x.settings i) x.settings (record_of x.areas i) (memory_of x.areas)

  abbrev eight : Bool
  eight = question8 (record_of x.areas i)

  abbrev nine : Bool
  nine = question9 x.settings (record_of x.areas i)

  -- questions 1 to 6 have other numbers
  past_6 : {n : ℕ} → ((k : ℕ) → 1 ≤ k → k ≤ 6 → k ≢ n) → number ≡ n → first_no (asks 8 eight ∷ asks 9 nine ∷ []) ≡ n
  unfolding turn_questions
  past_6 d e =
      let (y₁, e₁) = first-later 1 _ _ (d 1 (omega arith) (omega arith)) (sym (turn-number w x.settings i x.areas) ∙ e) in
      let (y₂, e₂) = first-later 2 _ _ (d 2 (omega arith) (omega arith)) e₁ in
      let (y₃, e₃) = first-later 3 _ _ (d 3 (omega arith) (omega arith)) e₂ in
      let (y₄, e₄) = first-later 4 _ _ (d 4 (omega arith) (omega arith)) e₃ in
      (first-later 6 _ _ (d 6 (omega arith) (omega arith)) e₄).1

  -- 8: the worker is idle
  pub eight-idle : number ≡ 8 → eight ≡ false
  eight-idle e = by eight refl
    where
      by : (b : Bool) → eight ≡ b → eight ≡ false
      by false q = q
      by true q = absurd (none-given (λ z. omega arith) (first-later 9 _ _ (λ z. omega arith) (sym (first_yes 8 _ q) ∙ past_6 (λ k l h z. omega arith) e)).1)

  -- 0 and 9: it has a call open
  pub done_open : (number ≡ 0) ⊎ (number ≡ 9) → eight ≡ true
  done_open (inl e) = (first-later 8 _ _ (λ z. omega arith) (past_6 (λ k l h z. omega arith) e)).0
  done_open (inr e) = (first-later 8 _ _ (λ z. omega arith) (past_6 (λ k l h z. omega arith) e)).0

  -- the numbers of an entry whose questions 1 to 4 are answered yes
  abbrev pub Outcome : Type 0
  Outcome = (number ≡ 0) ⊎ ((number ≡ 9) ⊎ ((number ≡ 8) ⊎ (number ≡ 6)))

  module _ (y₁ : question1 x.settings ≡ true) (y₂ : question2_of w x.settings x.areas ≡ true) (y₃ : question3 w x.settings ≡ true) (y₄ : question4 x.settings i ≡ true) where
    from_6 : number ≡ first_no (asks 6 six ∷ asks 8 eight ∷ asks 9 nine ∷ [])
    unfolding turn_questions
    from_6 =
        turn-number w x.settings i x.areas
        ∙ first_yes 1 _ y₁ ∙ first_yes 2 _ y₂ ∙ first_yes 3 _ y₃ ∙ first_yes 4 _ y₄

    pub outcome : Outcome
    unfolding every
    outcome = by six refl eight refl nine refl
      where
        by : (a : Bool) → six ≡ a → (b : Bool) → eight ≡ b → (c : Bool) → nine ≡ c → Outcome
        by false p b q c r = inr (inr (inr (from_6 ∙ gives-first_no (here refl p))))
        by true p false q c r = inr (inr (inl (from_6 ∙ gives-first_no (later p (here refl q)))))
        by true p true q false r = inr (inl (from_6 ∙ gives-first_no (later p (later q (here refl r)))))
        by true p true q true r = inl (from_6 ∙ first_yes 6 _ p ∙ first_yes 8 _ q ∙ first_yes 9 _ r ∙ all_yes [] refl)

    -- neither 6 nor 8: it has a call open
    pub open_8 : number ≢ 6 → number ≢ 8 → eight ≡ true
    open_8 h g = by outcome
      where
        by : Outcome → eight ≡ true
        by (inl z) = done_open (inl z)
        by (inr (inl z)) = done_open (inr z)
        by (inr (inr (inl z))) = absurd (g z)
        by (inr (inr (inr z))) = absurd (h z)

  -- whether it counts
  pub eight_uncounted : number ≡ 8 → counts w (visit i x) ≡ false
  unfolding counts
  eight_uncounted e = both_false_left _ (eight-idle e)

  pub open_counted : eight ≡ true → number ≢ 6 → counts w (visit i x) ≡ true
  unfolding counts met_six
  open_counted q h = both_true q (ap not (ne_eqb _ 6 h))

  pub no_six : number ≢ 6 → met_six w (visit i x) ≡ false
  unfolding met_six
  no_six h = ne_eqb _ 6 h

  pub is_six : number ≡ 6 → met_six w (visit i x) ≡ true
  unfolding met_six
  is_six e = eq-eqb _ 6 e

-- the turns that are left behind an entry, by its turn's number
pub left-six : (m n : ℕ) → m ≡ 6 → left_after m n ≡ 0
unfolding left_after
left-six m n e = pick_true _ _ _ (eq-eqb m 6 e)

pub left-eight : (m n : ℕ) → m ≡ 8 → left_after m n ≡ suc n
unfolding left_after
left-eight m n e = pick_false _ _ _ (ne_eqb m 6 (λ z. omega arith)) ∙ pick_true _ _ _ (eq-eqb m 8 e)

pub left_other : (m n : ℕ) → m ≢ 6 → m ≢ 8 → left_after m n ≡ n
unfolding left_after
left_other m n h g = pick_false _ _ _ (ne_eqb m 6 h) ∙ pick_false _ _ _ (ne_eqb m 8 g)

-- the entries reached behind one that met 6, was skipped, or was done
module _ (w : ℕ) (i n : ℕ) (l : List ℕ) (x : State) where
  abbrev v : Visit
  v = visit i x

  pub visits-six : (turn_at w v).reply.number ≡ 6 → visits w (i ∷ l) (suc n) x ≡ v ∷ []
  unfolding visits
  visits-six e = ap (λ k. v ∷ visits w l k (after (turn_at w v))) (left-six _ n e) ∙ ap (λ vs. v ∷ vs) (none_left w l _)

  pub visits-eight : (turn_at w v).reply.number ≡ 8 → visits w (i ∷ l) (suc n) x ≡ v ∷ visits w l (suc n) x
  unfolding visits
  visits-eight e =
      ap (λ k. v ∷ visits w l k (after (turn_at w v))) (left-eight _ n e)
      ∙ ap (λ y. v ∷ visits w l (suc n) y) (eight-leaves w x.settings i x.areas e)

  pub visits_other : (turn_at w v).reply.number ≢ 6 → (turn_at w v).reply.number ≢ 8 → visits w (i ∷ l) (suc n) x ≡ v ∷ visits w l n (after (turn_at w v))
  unfolding visits
  visits_other h g = ap (λ k. v ∷ visits w l k (after (turn_at w v))) (left_other _ n h g)
