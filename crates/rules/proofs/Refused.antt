-- Demand 1 of every operation: which number is given in which case, and what a refusal changes.
-- Relies on the law of an operation that asks first, on one turn's and on a list of turns'.
use Prim.Native.Nat.{ℕ}
use mathlib.Core.Path.{refl}
use mathlib.Core.Bool.{Bool}
use Rattle.words.specs.Choice.{both, every}
use Rattle.settings.specs.declared.Settings.{Settings}
use Rattle.areas.specs.Memory.{Areas}
use Rattle.rules.specs.Operations.{opening, opening_questions, start, start_questions, last_answer, last_questions}
use Rattle.rules.specs.Refusals.{Refuses, Demand1}
use Rattle.rules.proofs.Questions.{refuses}
use Rattle.rules.proofs.OneTurn.{refuses-turn}
use Rattle.rules.proofs.ManyTurns.{refuses_list}

pub refuses-opening : (w : ℕ) (s : Settings) (a : Areas) → Refuses (opening_questions w s a) s a (opening w s a)
unfolding opening opening_questions every both
refuses-opening w s a = refuses _ s a _ refl refl

pub refuses-start : (w : ℕ) (s : Settings) (looks : Bool) (i row column : ℕ) (a : Areas) → Refuses (start_questions w s looks i row column a) s a (start w s looks i row column a)
unfolding start start_questions every both
refuses-start w s looks i row column a = refuses _ s a _ refl refl

pub refuses-last : (w : ℕ) (s : Settings) (i : ℕ) (a : Areas) → Refuses (last_questions w s i a) s a (last_answer w s i a)
unfolding last_answer last_questions every both
refuses-last w s i a = refuses _ s a _ refl refl

pub demand1 : (w : ℕ) → Demand1 w
demand1 w =
    record {
      of_opening = refuses-opening w;
      of_start = refuses-start w;
      of_turn = refuses-turn w;
      of_turns = refuses_list w;
      of_last = refuses-last w;
    }
