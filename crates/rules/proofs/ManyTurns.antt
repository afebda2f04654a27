-- Demand 1 of a list of turns: 1 to 4 as of any operation, else 6 exactly where an entry meets it; what stays of it then.
-- Relies on the laws of the first no and of the entries reached.
use Prim.Native.Nat.{ℕ}
use mathlib.Core.Path.{◌≡◌, refl, sym, ap, ◌∙◌}
use mathlib.Core.Logic.{◌≢◌}
use mathlib.Core.Bool.{true, false, not}
use mathlib.Core.List.{List, [], ◌∷◌, ◌++◌}
use native.Mathlib.Decide.{ℕ_discrete}
use native.Mathlib.Omega.{arith}
use Rattle.words.specs.Choice.{both, every, first_no}
use Rattle.words.proofs.Choice.{pick-both, pick_true, pick_false}
use Rattle.settings.specs.declared.Settings.{Settings}
use Rattle.areas.specs.Memory.{Areas}
use Rattle.rules.specs.Operations.{refused}
use Rattle.rules.specs.Lists.{state, after, Visit, visits, end_state, met_six, turns_done, list_number, turns_result, list_questions, turns}
use Rattle.rules.specs.Refusals.{FirstNo, AllYes, Iff, MetSix, RefusesList}
use Rattle.rules.proofs.Questions.{Without, first_no_lem, gives-first_no, all_yes, gives-all_yes, never_first, unless_carried, unless_refused_lem, unless_unchanged, unless_other, unless_zero}
use Rattle.rules.proofs.Visits.{some_six, six_in, six_is_last, end_at_six, done_at_six}

-- the number of the entries reached is 0 or 6
zero-or-six : (w : ℕ) (vs : List Visit) {n : ℕ} → n ≢ 0 → n ≢ 6 → n ≢ list_number w vs
unfolding list_number
zero-or-six w vs {n} h g = pick-both (λ m. n ≢ m) _ (λ e. h) (λ e. g)

-- 6 where an entry meets it, and only there
pub gives-six : (w : ℕ) (vs : List Visit) → every (λ v. not (met_six w v)) vs ≡ false → list_number w vs ≡ 6
unfolding list_number
gives-six w vs = pick_false _ _ _

pub six-given : (w : ℕ) (vs : List Visit) → list_number w vs ≡ 6 → every (λ v. not (met_six w v)) vs ≡ false
unfolding list_number
six-given w vs = pick-both (λ m. m ≡ 6 → every (λ v. not (met_six w v)) vs ≡ false) _ (λ e d. absurd (omega arith)) (λ e d. e)

-- 0 where none does, and only there
gives_none : (w : ℕ) (vs : List Visit) → every (λ v. not (met_six w v)) vs ≡ true → list_number w vs ≡ 0
unfolding list_number
gives_none w vs = pick_true _ _ _

none-given : (w : ℕ) (vs : List Visit) → list_number w vs ≡ 0 → every (λ v. not (met_six w v)) vs ≡ true
unfolding list_number
none-given w vs = pick-both (λ m. m ≡ 0 → every (λ v. not (met_six w v)) vs ≡ true) _ (λ e d. e) (λ e d. absurd (omega arith))

module _ (w : ℕ) (s : Settings) (l : List ℕ) (limit : ℕ) (a : Areas) where
  -- the questions have the numbers 1 to 4
  list_asks : Without 0 (list_questions w s l a)
  unfolding list_questions every both
  list_asks = refl

  -- and none has 6
  list_asks_no_6 : Without 6 (list_questions w s l a)
  unfolding list_questions every both
  list_asks_no_6 = refl

  -- the number of the turns that are done
  result-number : (turns_result w (state s a) (visits w l limit (state s a))).reply.number ≡ list_number w (visits w l limit (state s a))
  unfolding turns_result
  result-number = refl

  -- where every answer is yes the turns are done
  pub list_carried : first_no (list_questions w s l a) ≡ 0 → turns w s l limit a ≡ turns_result w (state s a) (visits w l limit (state s a))
  unfolding turns
  list_carried z = unless_carried s a _ _ z

  -- 0: every answer was yes
  zero-carried : (turns w s l limit a).reply.number ≡ 0 → first_no (list_questions w s l a) ≡ 0
  unfolding turns
  zero-carried e = by (ℕ_discrete (first_no (list_questions w s l a)) 0)
    where
      by : Dec (first_no (list_questions w s l a) ≡ 0) → first_no (list_questions w s l a) ≡ 0
      by (yes z) = z
      by (no z) = absurd (z (sym (ap (λ r. r.reply.number) (unless_refused_lem s a _ _ z)) ∙ e))

  list_zero : Iff ((turns w s l limit a).reply.number ≡ 0) (AllYes (list_questions w s l a) × (every (λ v. not (met_six w v)) (visits w l limit (state s a)) ≡ true))
  list_zero = (
    λ e.
        let z = zero-carried e in
        (gives-all_yes _ list_asks z, none-given w _ (sym result-number ∙ (ap (λ r. r.reply.number) (sym (list_carried z)) ∙ e))),
    λ (y, o). ap (λ r. r.reply.number) (list_carried (all_yes _ y)) ∙ (result-number ∙ gives_none w _ o),
  )

  -- 1 to 4: the first no
  list_refusal : (n : ℕ) → n ≢ 0 → n ≢ 6 → Iff ((turns w s l limit a).reply.number ≡ n) (FirstNo n (list_questions w s l a))
  unfolding turns
  list_refusal n h g = (
    λ e. first_no_lem _ h (unless_other s a _ _ (λ d. zero-or-six w _ h g (d ∙ result-number)) e),
    λ f. ap (λ r. r.reply.number) (unless_refused_lem s a _ _ (λ z. h (sym (gives-first_no f) ∙ z))) ∙ gives-first_no f,
  )

  -- and then nothing is changed
  list_unchanged : (turns w s l limit a).reply.number ≢ 0 → (turns w s l limit a).reply.number ≢ 6 → turns w s l limit a ≡ refused (turns w s l limit a).reply.number s a
  unfolding turns
  list_unchanged h g = unless_unchanged s a _ _ (λ e. zero-or-six w _ h g (e ∙ result-number))

  -- a number 6 is an entry's, not a question's
  six-carried : (turns w s l limit a).reply.number ≡ 6 → first_no (list_questions w s l a) ≡ 0
  unfolding turns
  six-carried e = unless_zero s a _ _ (λ d. never_first list_asks_no_6 (first_no_lem _ (λ z. omega arith) d)) e

  -- where the entries reached end in one that met 6
  at_six : (before : List Visit) (last : Visit) → turns w s l limit a ≡ turns_result w (state s a) (visits w l limit (state s a)) → visits w l limit (state s a) ≡ before ++ last ∷ [] → met_six w last ≡ true → every (λ v. not (met_six w v)) before ≡ true → MetSix w s l limit a
  unfolding turns_result
  at_six before last c e h o =
      record {
        before = before;
        last = last;
        reached = e;
        six = h;
        none_before = o;
        left = ap after c ∙ ap (end_state w (state s a)) e ∙ end_at_six w (state s a) before last h;
        done = ap (λ r. r.reply.turns) c ∙ ap (turns_done w) e ∙ done_at_six w before last h;
      }

  -- 6 is given: an entry meets it
  met-six : (turns w s l limit a).reply.number ≡ 6 → MetSix w s l limit a
  met-six e =
      let c : turns w s l limit a ≡ turns_result w (state s a) (visits w l limit (state s a)) = list_carried (six-carried e) in
      let f = some_six w _ (six-given w _ (sym result-number ∙ ap (λ r. r.reply.number) (sym c) ∙ e)) in
      let (r, o) = six_is_last w l limit (state s a) f.before f.entry f.rest f.parts f.six in
      at_six f.before f.entry c (f.parts ∙ ap (λ vs. f.before ++ f.entry ∷ vs) r) f.six o

  -- an entry meets 6: it is given
  gives-met-six : AllYes (list_questions w s l a) → MetSix w s l limit a → (turns w s l limit a).reply.number ≡ 6
  gives-met-six y m =
      ap (λ r. r.reply.number) (list_carried (all_yes _ y))
      ∙ result-number
      ∙ gives-six w _ (ap (every (λ v. not (met_six w v))) m.reached ∙ six_in w m.before m.last [] m.six)

  -- demand 1 of a list of turns
  pub refuses_list : RefusesList w s l limit a
  refuses_list =
      record {
        carried = list_zero;
        refusal = list_refusal;
        unchanged = λ h g. (list_unchanged h g, ap after (list_unchanged h g));
        six = (λ e. (gives-all_yes _ list_asks (six-carried e), met-six e), λ (y, m). gives-met-six y m);
      }
