-- Demand 1 of one turn: its number is the first no, a refusal leaves settings and areas, and number 9 alone ends the call.
-- Relies on the definition of a turn and on the laws of the first no.
use Rattle.settings.specs.Sizes.{views}
use Prim.Native.Nat.{ℕ}
use mathlib.Core.Path.{◌≡◌, refl, sym, ap, ◌∙◌}
use mathlib.Core.Logic.{◌≢◌}
use native.Mathlib.Omega.{arith}
use borrow.Author.Tests.{eqb-true, eq-eqb}
use Rattle.words.specs.Choice.{both, every, first_no}
use Rattle.words.proofs.Choice.{pick-both, pick_true}
use Rattle.settings.specs.declared.Settings.{Settings}
use Rattle.areas.specs.Memory.{Areas}
use Rattle.rules.specs.Acts.{act}
use Rattle.rules.specs.Operations.{Result, refused, record_of, memory_of, turn_questions, taken, full, turn}
use Rattle.rules.specs.Lists.{state, after}
use Rattle.rules.specs.Refusals.{RefusesTurn}
use Rattle.rules.proofs.Questions.{Without, numbered, unless_number, unless_done, unless_unchanged}

module _ (w : ℕ) (s : Settings) (i : ℕ) (a : Areas) where
  -- the questions have numbers from 1
  turn-asks : Without 0 (turn_questions w s i a)
  unfolding turn_questions every both
  turn-asks = refl

  -- a turn that is carried out gives 0
  taken-number : (taken (act w (views s i) s (record_of a i) (memory_of a)) i a.workers).reply.number ≡ 0
  unfolding taken
  taken-number = refl

  -- a turn that ends in "full" gives 9
  full-number : (full s i a).reply.number ≡ 9
  unfolding full
  full-number = refl

  -- the number of a turn is its first no
  pub turn-number : (turn w s i a).reply.number ≡ first_no (turn_questions w s i a)
  unfolding turn
  turn-number =
      pick-both (λ (r : Result). r.reply.number ≡ first_no (turn_questions w s i a)) _
      (λ e. full-number ∙ sym (eqb-true _ _ e))
      (λ e. unless_number s a _ _ taken-number)

  -- number 0: the turn is taken
  pub done_number : (turn w s i a).reply.number ≡ 0 → turn w s i a ≡ taken (act w (views s i) s (record_of a i) (memory_of a)) i a.workers
  unfolding turn
  done_number =
      pick-both (λ (r : Result). r.reply.number ≡ 0 → r ≡ taken (act w (views s i) s (record_of a i) (memory_of a)) i a.workers) _
      (λ e z. absurd (omega (arith, full-number)))
      (λ e z. unless_done s a _ _ taken-number z)

  -- number 9: the call ends with answer "full"
  pub nine_is_full : (turn w s i a).reply.number ≡ 9 → turn w s i a ≡ full s i a
  unfolding turn
  nine_is_full e = pick_true _ _ _ (eq-eqb _ _ (sym turn-number ∙ e))

  -- any other number: a refusal
  pub turn-refused : (turn w s i a).reply.number ≢ 0 → (turn w s i a).reply.number ≢ 9 → turn w s i a ≡ refused (turn w s i a).reply.number s a
  unfolding turn
  turn-refused =
      pick-both (λ (r : Result). r.reply.number ≢ 0 → r.reply.number ≢ 9 → r ≡ refused r.reply.number s a) _
      (λ e h g. absurd (g full-number))
      (λ e h g. unless_unchanged s a _ _ (λ d. h (d ∙ taken-number)))

  -- a refused turn leaves the settings and the areas to the next operation as they came
  pub turn-leaves : (turn w s i a).reply.number ≢ 0 → (turn w s i a).reply.number ≢ 9 → after (turn w s i a) ≡ state s a
  turn-leaves h g = ap after (turn-refused h g)

  -- a call that ends "full" keeps the settings
  full_settings : turn w s i a ≡ full s i a → (turn w s i a).reply.settings ≡ s
  unfolding full
  full_settings e = ap (λ r. r.reply.settings) e

  -- demand 1 of one turn
  pub refuses-turn : RefusesTurn w s i a
  refuses-turn =
      record {
        numbered = numbered _ _ turn-asks turn-number;
        unchanged = λ h g. (turn-refused h g, turn-leaves h g);
        full-ends = λ e. (nine_is_full e, full_settings (nine_is_full e));
      }

  -- a turn that meets 6 changes nothing
  pub six-leaves : (turn w s i a).reply.number ≡ 6 → after (turn w s i a) ≡ state s a
  six-leaves e = turn-leaves (λ z. omega arith) (λ z. omega arith)

  -- a turn of an idle worker changes nothing
  pub eight-leaves : (turn w s i a).reply.number ≡ 8 → after (turn w s i a) ≡ state s a
  eight-leaves e = turn-leaves (λ z. omega arith) (λ z. omega arith)
