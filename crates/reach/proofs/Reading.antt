-- Questions 1 to 3 of the operations that read nodes and levels alone: how they are asked, and what a yes says.
-- Relies on settings for the questions, on rules for their order.
use mathlib.Core.Path.{◌≡◌, refl, sym, ap, ◌∙◌}
use mathlib.Core.Logic.{◌≢◌}
use mathlib.Core.Bool.{Bool, true, false}
use mathlib.Core.List.{List, [], ◌∷◌}
use Prim.Native.Nat.{ℕ, ◌*◌}
use lib.ListN.{get_or}
use native.Mathlib.Nat.{le_refl}
use native.Mathlib.Omega.{arith}
use lib.Dec.{leb}
use borrow.Author.Tests.{le-leb}
use Rattle.words.specs.Choice.{both, every, first_no}
use Rattle.words.proofs.Choice.{pick-both}
use Rattle.words.specs.Digits.{DigitWidth}
use Rattle.settings.specs.declared.Settings.{Settings}
use Rattle.settings.specs.declared.Refusal.{Refusal}
use Rattle.settings.specs.declared.Refusal.TheVariants.{Settings as Ranges, Area, Counts}
use Rattle.settings.specs.Refusals.{refusal_no}
use Rattle.settings.specs.Sizes.{node_words, level_words, worker_words, level_count, question2}
use Rattle.settings.specs.Cut.{first_three}
use Rattle.settings.proofs.Laws.{sized}
use Rattle.areas.specs.Memory.{Memory}
use Rattle.rules.specs.Refusals.{FirstNo, AllYes}
use Rattle.rules.proofs.Questions.{all_yes, gives-all_yes, never_first}
use Rattle.reach.specs.Marked.{Fits, things}
use Rattle.reach.specs.Reading.{question2_read, reading_questions, questions_of}

both_end : (a b : Bool) {c : Bool} → c ≡ true → both a (both b c) ≡ both a b
unfolding both
both_end true true e = e
both_end true false e = refl
both_end false b e = refl

-- with as many words of workers as are asked for they are the questions of an operation on all three areas
same_three : (w : ℕ) (s : Settings) (n g : ℕ) → first_three w s n g (worker_words * s.workers) ≡ first_no (reading_questions w s n g)
unfolding first_three reading_questions question2_read first_no question2
same_three w s n g =
    let k : ℕ = worker_words * s.workers in
    rw (both_end (leb (node_words * s.nodes) n) (leb (level_words w * level_count w s) g) (le-leb k k (le_refl k))) refl

pub reading_steps : (w : ℕ) (s : Settings) (n g : ℕ) {q : ℕ} → q ≡ first_three w s n g (worker_words * s.workers) → q ≡ first_no (reading_questions w s n g)
reading_steps w s n g a = a ∙ same_three w s n g

module _ (s : Settings) (n g : ℕ) (z : 0 ≡ first_no (reading_questions s.width s n g)) where
  yes : first_three s.width s n g (worker_words * s.workers) ≡ 0
  yes = same_three s.width s n g ∙ sym z

  -- a yes says that the width is one of the four
  pub reading_wide : DigitWidth s.width
  reading_wide = (sized s n g (worker_words * s.workers) yes).ranges.width

  -- and that the search has room
  pub reading_fits : Fits s things
  reading_fits =
      let d = sized s n g (worker_words * s.workers) yes in
      let r = d.ranges.nodes.high in
      record { nodes = omega (arith, d.nodes); levels = omega (arith, d.levels) }

-- no number is given where every answer is yes, and only there; and 6 is none of these questions
module _ (w : ℕ) (s : Settings) (m : Memory) where
  pub all-answered : first_no (questions_of w s m) ≡ 0 → AllYes (questions_of w s m)
  unfolding reading_questions every both
  all-answered z = gives-all_yes _ refl z

  pub not-answered : {n : ℕ} → first_no (questions_of w s m) ≡ n → n ≢ 0 → ¬ (AllYes (questions_of w s m))
  not-answered e h y = h (sym e ∙ all_yes _ y)

  pub not-six : ¬ (FirstNo 6 (questions_of w s m))
  unfolding reading_questions every both
  not-six f = never_first refl f

-- a no to questions 1 to 3 is a refusal's number
pub asked_refusal : (w : ℕ) (s : Settings) (n g : ℕ) → first_no (reading_questions w s n g) ≢ 0 → (r : Refusal) × (first_no (reading_questions w s n g) ≡ refusal_no r)
unfolding reading_questions first_no
asked_refusal w s n g =
    pick-both Named _
    (λ _. pick-both Named _ (λ _. pick-both Named _ (λ _ h. absurd (h refl)) (λ _ h. (Counts, refl))) (λ _ h. (Area, refl)))
    (λ _ h. (Ranges, refl))
  where
    Named : ℕ → Type 0
    Named k = k ≢ 0 → (r : Refusal) × (k ≡ refusal_no r)
