-- A start or a turn of worker i writes no other worker's words.
-- Relies on that a record is stored in its own words, and on what a turn's kinds leave where its questions are answered yes.
use Prim.Native.Nat.{ℕ, ◌≤◌}
use mathlib.Core.Path.{◌≡◌, refl}
use mathlib.Core.Bool.{Bool, true}
use mathlib.Core.List.{List}
use native.Mathlib.Omega.{arith}
use borrow.Author.Tests.{eqb-true}
use Rattle.words.specs.Choice.{first_no}
use Rattle.words.proofs.Choice.{pick-both}
use Rattle.settings.specs.Sizes.{max_moves, most_moves, views, question1}
use Rattle.settings.specs.declared.Settings.{Settings}
use Rattle.areas.specs.Memory.{Areas}
use Rattle.record.specs.Layout.{Record, store}
use Rattle.record.proofs.Records.{length-store}
use Rattle.rules.specs.Acts.{act}
use Rattle.rules.specs.Operations.{AtWidth, Result, unless_refused, record_of, memory_of, started_areas, start, turn_questions, taken, full_record, full, turn}
use Rattle.rules.specs.OwnRecord.{OthersStay, OwnRecord}
use Rattle.rules.proofs.TurnAsked.{turn-asked}
use Rattle.rules.proofs.ExcessRecords.{FitWords, store-others, fit_none}
use Rattle.rules.proofs.Excess.{moves_fit_lem, act-leaves}

stored : (w : ℕ) (r : Record) (i : ℕ) (l : List ℕ) → FitWords r.moves → OthersStay i l (store r i l)
stored w r i l f = record { size = length-store w r i l; words = store-others w r i l f }

same : (i : ℕ) (l : List ℕ) → OthersStay i l l
same i l = record { size = refl; words = λ k o. refl }

start_own : (w : ℕ) (s : Settings) (looks : Bool) (i row column : ℕ) (a : Areas) → OthersStay i a.workers (start w s looks i row column a).areas.workers
unfolding start unless_refused started_areas
start_own w s looks i row column a =
    pick-both (λ (r : Result). OthersStay i a.workers r.areas.workers) _
    (λ e. stored w _ i a.workers (fit_none))
    (λ e. same i a.workers)

turn_own : (w : ℕ) (s : Settings) → (question1 s ≡ true → max_moves w ≤ most_moves) → (i : ℕ) (a : Areas) → OthersStay i a.workers (turn w s i a).areas.workers
unfolding turn unless_refused full full_record taken
turn_own w s few i a =
    pick-both (λ (r : Result). OthersStay i a.workers r.areas.workers) _
    (λ e. stored w _ i a.workers (fit_none))
    (λ e. pick-both (λ (r : Result). OthersStay i a.workers r.areas.workers) _ (λ z. is_taken (eqb-true _ _ z)) (λ z. same i a.workers))
  where
    is_taken : first_no (turn_questions w s i a) ≡ 0 → OthersStay i a.workers (store (act w (views s i) s (record_of a i) (memory_of a)).record' i a.workers)
    is_taken e = let y = turn-asked w s i a (λ k l h z. omega arith) e in stored w _ i a.workers (act-leaves w s (few y.one) i a y).moves

pub own_record : AtWidth OwnRecord
own_record s = record { of_start = start_own s.width s; of_turn = turn_own s.width s (moves_fit_lem s) }
