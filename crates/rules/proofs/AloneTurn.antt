-- A turn of a worker that has a call open, in a state of the invariant: it is taken, or the call ends "full". No other number is given.
-- Relies on that every kind of turn keeps the invariant, and on the questions that are answered yes.
use Rattle.settings.specs.Sizes.{views}
use Prim.Native.Nat.{ℕ, ◌<◌}
use mathlib.Core.Path.{◌≡◌, refl, sym, subst, ◌∙◌}
use mathlib.Core.Bool.{Bool, true, false}
use mathlib.Core.List.{[], ◌∷◌}
use Rattle.words.specs.Choice.{asks, first_no}
use Rattle.words.proofs.Choice.{pick_true, pick_false}
use Rattle.settings.specs.declared.Settings.{Settings}
use Rattle.rules.specs.Acts.{act}
use Rattle.rules.specs.Asked.{question7, question9}
use Rattle.rules.specs.Operations.{Result, record_of, memory_of, turn_questions, taken, full, turn}
use Rattle.rules.specs.Lists.{State, after}
use Rattle.trie.proofs.Update.{upd}
use Rattle.trie.proofs.Whole.{Worker}
use Rattle.rules.proofs.Questions.{first_yes}
use Rattle.rules.proofs.OneTurn.{turn-number, done_number, nine_is_full}
use Rattle.rules.proofs.Invariant.{WorldOf, TurnOk, Fine, at}
use Rattle.rules.proofs.FineQuestions.{yes_1, yes_2, yes_3, yes_4}
use Rattle.rules.proofs.Idle.{open_of}
use Rattle.rules.proofs.Asking.{asks_ok, turn_ok}
use Rattle.rules.proofs.Stored.{fine_after}
use Rattle.rules.proofs.Roles.{turn_role}

first_of_nine : (b : Bool) → b ≡ true → first_no (asks 9 b ∷ []) ≡ 0
unfolding first_no
first_of_nine b e = pick_true _ _ _ e

nine-first : (b : Bool) → b ≡ false → first_no (asks 9 b ∷ []) ≡ 9
unfolding first_no
nine-first b e = pick_false _ _ _ e

module _ {w : ℕ} {s₀ : Settings} {x : State} {W : WorldOf w s₀} {ws : ℕ → Worker} (F : Fine w s₀ x W ws) (i : ℕ) (here : i < s₀.workers) (busy : question7 (record_of x.areas i) ≡ false) where
  -- question 9 alone can be answered no
  number_is : (turn w x.settings i x.areas).reply.number ≡ first_no (asks 9 (question9 x.settings (record_of x.areas i)) ∷ [])
  unfolding turn_questions
  number_is =
      turn-number w x.settings i x.areas
      ∙ first_yes 1 _ (yes_1 F) ∙ first_yes 2 _ (yes_2 F) ∙ first_yes 3 _ (yes_3 F) ∙ first_yes 4 _ (yes_4 F i here)
      ∙ first_yes 6 _ (asks_ok (at F i here)) ∙ first_yes 8 _ (open_of (record_of x.areas i) busy)

  pub data TurnIs : Type 0 where
    carried : turn w x.settings i x.areas ≡ taken (act w (views x.settings i) x.settings (record_of x.areas i) (memory_of x.areas)) i x.areas.workers → TurnOk w s₀ W ws i (act w (views x.settings i) x.settings (record_of x.areas i) (memory_of x.areas)) → TurnIs
    filled : turn w x.settings i x.areas ≡ full x.settings i x.areas → question9 x.settings (record_of x.areas i) ≡ false → TurnIs

  pub turn_is : TurnIs
  turn_is = by (question9 x.settings (record_of x.areas i)) refl
    where
      by : (b : Bool) → question9 x.settings (record_of x.areas i) ≡ b → TurnIs
      by true q = carried (done_number w x.settings i x.areas (number_is ∙ first_of_nine _ q)) (turn_ok (at F i here) busy q)
      by false q = filled (nine_is_full w x.settings i x.areas (number_is ∙ nine-first _ q)) q

  -- the state after a turn that is taken
  pub fine_taken : (K : TurnOk w s₀ W ws i (act w (views x.settings i) x.settings (record_of x.areas i) (memory_of x.areas))) → Fine w s₀ (after (taken (act w (views x.settings i) x.settings (record_of x.areas i) (memory_of x.areas)) i x.areas.workers)) K.world (upd ws i K.worker)
  unfolding taken
  fine_taken K = fine_after F i here K.table K.inv K.levels K.matches (turn_role F i here busy)

  -- said of the turn itself
  pub fine_turned : (K : TurnOk w s₀ W ws i (act w (views x.settings i) x.settings (record_of x.areas i) (memory_of x.areas))) → turn w x.settings i x.areas ≡ taken (act w (views x.settings i) x.settings (record_of x.areas i) (memory_of x.areas)) i x.areas.workers → Fine w s₀ (after (turn w x.settings i x.areas)) K.world (upd ws i K.worker)
  fine_turned K e = subst (λ (r : Result). Fine w s₀ (after r) K.world (upd ws i K.worker)) (sym e) (fine_taken K)
