-- The ways through a last answer: its questions in their order, and the answer that a record holds.
-- Relies on Questions for the first four.
use mathlib.Core.Path.{◌≡◌}
use mathlib.Core.Bool.{true, false, Bool}
use mathlib.Core.List.{List, [], ◌∷◌}
use Prim.Native.Nat.{ℕ}
use lib.Dec.{eqb}
use lib.ListN.{length}
use borrow.Author.Tests.{ne_eqb}
use Rattle.words.specs.Choice.{pick, asks, first_no}
use Rattle.settings.specs.declared.Settings.{Settings}
use Rattle.settings.specs.Sizes.{question1, question2, question3, views}
use Rattle.settings.specs.Cut.{first_three}
use Rattle.areas.specs.Memory.{areas}
use Rattle.record.specs.declared.Answer.{Answer}
use Rattle.record.specs.declared.Answer.TheVariants.{Nothing, Open}
use Rattle.record.specs.declared.Head.{Head}
use Rattle.record.specs.declared.Reply.{Reply}
use Rattle.record.specs.Kinds.{kind_no, answer_of}
use Rattle.record.specs.Layout.{load, head_at}
use Rattle.record.specs.Fits.{fits}
use Rattle.rules.specs.Asked.{question4, question6_record}
use Rattle.rules.specs.Operations.{result_of, reply, unless_refused, last_questions, last_of, last_answer}
use Rattle.table.specs.Cut.{first_four}
use Rattle.table.proofs.Questions.{after_four}

module _ (w : ℕ) (s : Settings) (i : ℕ) (n g k : List ℕ) where
  -- the first no of a last answer's questions
  pub last_number :
      let f = first_four w s i (length n) (length g) (length k) in
      first_no (last_questions w s i (areas n g k)) ≡ pick (eqb f 0) (pick (fits w (views s i) s (load k i)) 0 6) f
  unfolding last_questions first_four first_three question6_record first_no
  last_number =
      after_four (question1 s) (question2 w s (length n) (length g) (length k)) (question3 w s) (question4 s i)
      (asks 6 (fits w (views s i) s (load k i)) ∷ [])

  -- the ways through a last answer
  pub last_done :
      {r : Reply} {a : Answer} {h : Head} {q : ℕ}
      → r ≡ reply 0 a 0 s → a ≡ last_of h → h ≡ head_at k i → q ≡ first_no (last_questions w s i (areas n g k)) → q ≡ 0
      → result_of r (areas n g k) ≡ last_answer w s i (areas n g k)
  unfolding last_answer unless_refused load pick
  last_done a b c d e = simp (← d, e, a, b, c)

  pub last_refused :
      {r : Reply} {q : ℕ}
      → r ≡ reply q Nothing 0 s → q ≡ first_no (last_questions w s i (areas n g k)) → (q ≡ 0 → ⊥)
      → result_of r (areas n g k) ≡ last_answer w s i (areas n g k)
  unfolding last_answer unless_refused pick
  last_refused a d e = simp (← d, ne_eqb _ _ e, a)
