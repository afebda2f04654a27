-- At every moment of a sequence an operation that reads is not refused: questions 1 to 3 are answered yes, and every reached reference names something taken.
-- Relies on rules for what holds along a sequence.
use Prim.Native.Nat.{ℕ}
use mathlib.Core.Path.{◌≡◌, refl, sym, ◌∙◌}
use mathlib.Core.List.{List}
use Rattle.words.specs.Choice.{every, first_no}
use Rattle.words.proofs.Choice.{both_true, true_false}
use Rattle.settings.specs.declared.Settings.{Settings}
use Rattle.areas.specs.Memory.{Areas}
use Rattle.rules.specs.Operations.{opening, memory_of}
use Rattle.rules.specs.Calls.{Event}
use Rattle.rules.proofs.Dims.{Width}
use Rattle.rules.proofs.Questions.{all_yes}
use Rattle.rules.proofs.Staying.{moment, taken_at, yes_1_at, yes_3_at, rooms_at}
use Rattle.reach.specs.Reachable.{Dangling}
use Rattle.reach.specs.Reading.{question2_read, reading_questions, questions_of}

module _ {w : ℕ} (width : Width w) (s : Settings) (a : Areas) (z : (opening w s a).reply.number ≡ 0) (es : List Event) where
  pub answered_at : first_no (questions_of w (moment w s a es).settings (memory_of (moment w s a es).areas)) ≡ 0
  unfolding reading_questions question2_read every
  answered_at =
      let (n, g) = rooms_at width s a z es in
      all_yes _ (both_true (yes_1_at width s a z es) (both_true (both_true n g) (both_true (yes_3_at width s a z es) refl)))

  pub none-dangles_at : ¬ (Dangling w (moment w s a es).settings (memory_of (moment w s a es).areas))
  none-dangles_at d = true_false (sym (taken_at width s a z es d.reached) ∙ d.names_nothing)
