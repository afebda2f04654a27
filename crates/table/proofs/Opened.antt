-- The ways through an opening.
-- Relies on settings for questions 1 and 2, on rules for the opening.
use mathlib.Core.Path.{◌≡◌, refl, sym, ◌∙◌}
use mathlib.Core.List.{List}
use Prim.Native.Nat.{ℕ, ◌+◌, ◌*◌}
use native.Mathlib.Nat.{add-zero}
use lib.ListN.{length}
use borrow.Author.Tests.{ne_eqb}
use Rattle.words.specs.Choice.{pick, first_no}
use Rattle.words.specs.Blocks.{fill}
use Rattle.words.specs.Digits.{DigitWidth}
use Rattle.settings.specs.declared.Settings.{Settings}
use Rattle.settings.specs.Sizes.{fresh, worker_words, question1}
use Rattle.settings.specs.Cut.{opening_two}
use Rattle.settings.proofs.Laws.{ranges, pick-zero}
use Rattle.areas.specs.Memory.{areas, fill_level, none}
use Rattle.record.specs.declared.Answer.TheVariants.{Nothing}
use Rattle.record.specs.declared.Reply.{Reply}
use Rattle.rules.specs.Opening.{opened_settings, opened_areas}
use Rattle.rules.specs.Operations.{result_of, reply, unless_refused, opening_questions, opening}

module _ (w : ℕ) (s : Settings) (n g k : List ℕ) where
  -- the first no of an opening's questions
  pub opening_number : first_no (opening_questions w s (areas n g k)) ≡ opening_two w s (length n) (length g) (length k)
  unfolding opening_questions opening_two
  opening_number = refl

  pub open_done :
      {r : Reply} {t : Settings} {g' k' : List ℕ} {m q : ℕ}
      → r ≡ reply 0 Nothing 0 t → t ≡ fresh s.workers s.limit s.nodes s.viewers s.width → k' ≡ fill k 0 m 0 → m ≡ worker_words * s.workers
      → g' ≡ fill_level w g 0 none 0 → q ≡ opening_two w s (length n) (length g) (length k) → q ≡ 0
      → result_of r (areas n g' k') ≡ opening w s (areas n g k)
  unfolding opening unless_refused opened_settings opened_areas pick
  open_done a b c d e f z = simp (opening_number, ← f, z, a, b, c, d, e)

  pub open_refused :
      {r : Reply} {q : ℕ}
      → r ≡ reply q Nothing 0 s → q ≡ opening_two w s (length n) (length g) (length k) → (q ≡ 0 → ⊥)
      → result_of r (areas n g k) ≡ opening w s (areas n g k)
  unfolding opening unless_refused pick
  open_refused a f z = simp (opening_number, ← f, ne_eqb _ _ z, a)

-- an opening that is carried out has one of the widths
pub open_wide : (w : ℕ) (s : Settings) (n g k : ℕ) {q : ℕ} → q ≡ opening_two w s n g k → q ≡ 0 → DigitWidth s.width
unfolding opening_two first_no
open_wide w s n g k a e = (ranges s (pick-zero (question1 s) _ 0 (sym a ∙ e))).width

-- the end of the workers' words
pub worker_words_lem : (s : Settings) {m : ℕ} → m ≡ worker_words * s.workers + 0 → m ≡ worker_words * s.workers
worker_words_lem s a = simp (a, add-zero)
