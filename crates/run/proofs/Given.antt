-- The numbers that the operations give are 0 to 9 and 17, over settings and memory of any content.
-- Relies on rules: the number given is the first no.
use Prim.Native.Nat.{ℕ, ◌≤◌}
use mathlib.Core.Path.{◌≡◌, refl}
use mathlib.Core.Logic.{◌≢◌}
use mathlib.Core.Bool.{Bool, true}
use mathlib.Core.List.{List, [], ◌∷◌}
use native.Mathlib.Omega.{arith}
use lib.Dec.{eqb, leb}
use borrow.Author.Tests.{leb-true, eqb-true}
use Rattle.words.specs.Choice.{pick, both, every, Question, first_no}
use Rattle.words.proofs.Choice.{pick-both, both_left, both_right}
use Rattle.settings.specs.declared.Settings.{Settings}
use Rattle.areas.specs.Memory.{Areas}
use Rattle.rules.specs.Operations.{Result, unless_refused, opening, opening_questions, start, start_questions, turn, turn_questions}
use Rattle.rules.proofs.Questions.{unless_number}
use Rattle.rules.proofs.OneTurn.{turn-number}

-- 0, document 01's questions of an operation, and 17
unfoldable pub given : ℕ → Bool
given n = pick (leb n 9) true (eqb n 17)

pub given_most : {n : ℕ} → given n ≡ true → n ≤ 17
unfolding given
given_most {n} =
    pick-both (λ (b : Bool). b ≡ true → n ≤ 17) (leb n 9) (λ e y. let l : n ≤ 9 = leb-true _ _ e in omega arith) (λ e y. let q : n ≡ 17 = eqb-true _ _ y in omega arith)

pub given-not_10 : {n : ℕ} → given n ≡ true → n ≢ 10
unfolding given
given-not_10 {n} =
    pick-both (λ (b : Bool). b ≡ true → n ≢ 10) (leb n 9) (λ e y z. let l : n ≤ 9 = leb-true _ _ e in omega arith) (λ e y z. let q : n ≡ 17 = eqb-true _ _ y in omega arith)

-- the first no is one of the questions' numbers
first-given : (qs : List Question) → every (λ q. given q.number) qs ≡ true → given (first_no qs) ≡ true
unfolding first_no every given pick
first-given [] y = refl
first-given (q ∷ qs) y =
    pick-both (λ (m : ℕ). given m ≡ true) q.yes (λ e. first-given qs (both_right (given q.number) _ y)) (λ e. both_left _ _ y)

unless_given : (qs : List Question) (s : Settings) (a : Areas) (done : Result) → done.reply.number ≡ 0 → every (λ q. given q.number) qs ≡ true → given (unless_refused (first_no qs) s a done).reply.number ≡ true
unless_given qs s a done z y = rw (unless_number s a done (first_no qs) z) (first-given qs y)

pub opening-gives : (w : ℕ) (s : Settings) (a : Areas) → given (opening w s a).reply.number ≡ true
unfolding opening opening_questions every both given pick
opening-gives w s a = unless_given _ s a _ refl refl

pub start_gives : (w : ℕ) (s : Settings) (looks : Bool) (i row column : ℕ) (a : Areas) → given (start w s looks i row column a).reply.number ≡ true
unfolding start start_questions every both given pick
start_gives w s looks i row column a = unless_given _ s a _ refl refl

pub turn-gives : (w : ℕ) (s : Settings) (i : ℕ) (a : Areas) → given (turn w s i a).reply.number ≡ true
unfolding turn_questions every both given pick
turn-gives w s i a = rw (turn-number w s i a) (first-given (turn_questions w s i a) refl)
