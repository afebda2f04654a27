-- What a turn was asked before question 9: answered yes, where its number is none of theirs.
-- Relies on the order of a turn's questions and on the laws of the first no.
use Prim.Native.Nat.{ℕ, ◌≤◌}
use mathlib.Core.Path.{◌≡◌}
use mathlib.Core.Logic.{◌≢◌}
use mathlib.Core.Bool.{true, false}
use mathlib.Core.List.{[], ◌∷◌}
use native.Mathlib.Omega.{arith}
use borrow.Author.Tests.{not-true}
use Rattle.words.specs.Choice.{asks, first_no}
use Rattle.settings.specs.Sizes.{question1, question3, views}
use Rattle.settings.specs.declared.Settings.{Settings}
use Rattle.areas.specs.Memory.{Areas}
use Rattle.rules.specs.Asked.{question4, question6, question7, question8, question9}
use Rattle.rules.specs.Operations.{question2_of, record_of, memory_of, turn_questions}
use Rattle.rules.proofs.Questions.{first-later}

-- n is what is left to be said by question 9
pub record TurnAsked (w : ℕ) (s : Settings) (i : ℕ) (a : Areas) (n : ℕ) : Type 0 where
  pub one : question1 s ≡ true
  pub two : question2_of w s a ≡ true
  pub three : question3 w s ≡ true
  pub four : question4 s i ≡ true
  pub six : question6 w (views s i) s (record_of a i) (memory_of a) ≡ true
  pub busy : question7 (record_of a i) ≡ false
  pub nine : first_no (asks 9 (question9 s (record_of a i)) ∷ []) ≡ n

pub turn-asked : (w : ℕ) (s : Settings) (i : ℕ) (a : Areas) {n : ℕ} → ((k : ℕ) → 1 ≤ k → k ≤ 8 → k ≢ n) → first_no (turn_questions w s i a) ≡ n → TurnAsked w s i a n
unfolding turn_questions question8
turn-asked w s i a d e =
    let (y₁, e₁) = first-later 1 _ _ (d 1 (omega arith) (omega arith)) e in
    let (y₂, e₂) = first-later 2 _ _ (d 2 (omega arith) (omega arith)) e₁ in
    let (y₃, e₃) = first-later 3 _ _ (d 3 (omega arith) (omega arith)) e₂ in
    let (y₄, e₄) = first-later 4 _ _ (d 4 (omega arith) (omega arith)) e₃ in
    let (y₆, e₆) = first-later 6 _ _ (d 6 (omega arith) (omega arith)) e₄ in
    let (y₈, e₈) = first-later 8 _ _ (d 8 (omega arith) (omega arith)) e₆ in
    record { one = y₁; two = y₂; three = y₃; four = y₄; six = y₆; busy = not-true _ y₈; nine = e₈ }
