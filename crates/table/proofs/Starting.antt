-- The ways through a start: its questions in their order, and the record that is written.
-- Relies on Questions for the first four.
use mathlib.Core.Path.{◌≡◌, sym, ◌∙◌}
use mathlib.Core.Bool.{Bool, true, false}
use mathlib.Core.List.{List, [], ◌∷◌}
use Prim.Native.Nat.{ℕ, ◌≤◌}
use lib.Dec.{eqb, leb}
use lib.ListN.{length}
use borrow.Author.Tests.{ne_eqb, leb-true}
use Rattle.words.specs.Choice.{pick, both, asks, first_no}
use Rattle.words.specs.Digits.{max_side, pixel_number}
use Rattle.words.proofs.Choice.{both_left, both_right}
use Rattle.settings.specs.declared.Settings.{Settings}
use Rattle.settings.specs.Sizes.{question1, question2, question3, views}
use Rattle.settings.specs.Cut.{first_three}
use Rattle.settings.proofs.Laws.{pick-zero}
use Rattle.areas.specs.Memory.{areas}
use Rattle.record.specs.declared.Answer.TheVariants.{Nothing, Open}
use Rattle.record.specs.declared.Head.{Head}
use Rattle.record.specs.declared.Reply.{Reply}
use Rattle.record.specs.Kinds.{kind_no}
use Rattle.record.specs.Layout.{load, head_at, store, store_head, store_moves}
use Rattle.record.specs.Fits.{answer_fits, fits_by, fits}
use Rattle.rules.specs.Heads.{started}
use Rattle.rules.specs.Asked.{question4, question5, question6_record, question7, question17}
use Rattle.rules.specs.Operations.{result_of, reply, unless_refused, start_questions, started_areas, start}
use Rattle.table.specs.Cut.{first_four, after_five, begun}
use Rattle.table.proofs.Questions.{both_zero, after_four}

-- question 5
module _ (row column : ℕ) where
  pub frame_row : question5 row column ≡ true → row ≤ 4095
  unfolding question5
  frame_row t = leb-true _ _ (both_left _ _ t)

  pub frame_column : question5 row column ≡ true → column ≤ 4095
  unfolding question5
  frame_column t = leb-true _ _ (both_right (leb row max_side) _ t)

module _ (w : ℕ) (s : Settings) (looks : Bool) (i row column : ℕ) (n g k : List ℕ) where
  -- the first no of a start's questions
  pub start_number :
      let f = first_four w s i (length n) (length g) (length k) in
      first_no (start_questions w s looks i row column (areas n g k))
      ≡ pick (eqb f 0) (pick (question5 row column) (after_five w s looks i (load k i)) 5) f
  unfolding start_questions first_four first_three after_five question6_record first_no
  start_number =
      after_four (question1 s) (question2 w s (length n) (length g) (length k)) (question3 w s) (question4 s i)
      (asks 5 (question5 row column) ∷ asks 17 (question17 s looks i) ∷ asks 6 (fits w (views s i) s (load k i)) ∷ asks 7 (question7 (load k i)) ∷ [])

  -- a yes to all: row and column are in range
  start_yes : {q : ℕ} → q ≡ first_no (start_questions w s looks i row column (areas n g k)) → q ≡ 0 → question5 row column ≡ true
  start_yes a e =
      let x = pick (question5 row column) (after_five w s looks i (load k i)) 5 in
      let z = both_zero (first_four w s i (length n) (length g) (length k)) x (sym start_number ∙ sym a ∙ e) in
      pick-zero (question5 row column) (after_five w s looks i (load k i)) 4 z.1

  pub start_row : {q : ℕ} → q ≡ first_no (start_questions w s looks i row column (areas n g k)) → q ≡ 0 → row ≤ 4095
  start_row a e = frame_row row column (start_yes a e)

  pub start_column : {q : ℕ} → q ≡ first_no (start_questions w s looks i row column (areas n g k)) → q ≡ 0 → column ≤ 4095
  start_column a e = frame_column row column (start_yes a e)

  -- the ways through a start
  pub start_done :
      {r : Reply} {k' : List ℕ} {q : ℕ}
      → r ≡ reply 0 Open 0 s → k' ≡ begun i row column k → q ≡ first_no (start_questions w s looks i row column (areas n g k)) → q ≡ 0
      → result_of r (areas n g k') ≡ start w s looks i row column (areas n g k)
  unfolding start unless_refused started_areas begun store store_moves load pick
  start_done a b c e = simp (← c, e, a, b)

  pub start_refused :
      {r : Reply} {q : ℕ}
      → r ≡ reply q Nothing 0 s → q ≡ first_no (start_questions w s looks i row column (areas n g k)) → (q ≡ 0 → ⊥)
      → result_of r (areas n g k) ≡ start w s looks i row column (areas n g k)
  unfolding start unless_refused pick
  start_refused a c e = simp (← c, ne_eqb _ _ e, a)
