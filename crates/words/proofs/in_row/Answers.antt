-- `words::in_row` meets its contract: a literal place is the place that was asked for.
-- Relies on nothing.
use mathlib.Core.Path.{◌≡◌, sym, ap}
use mathlib.Core.List.{List}
use Prim.Native.Nat.{ℕ}
use lib.ListN.{get_or}
use borrow.Author.Rules.{rules}
use Rattle.words.proofs.in_row.Goals as goal

same_place : (xs : List ℕ) (i k : ℕ) → i ≡ k → get_or xs k 0 ≡ get_or xs i 0
same_place xs i k e = ap (λ (j : ℕ). get_or xs j 0) (sym e)

pub returns-in-0 : goal.returns-in-0
returns-in-0 c = search (rules, same_place)

pub returns-in-1 : goal.returns-in-1
returns-in-1 c = search (rules, same_place)

pub returns-in-2 : goal.returns-in-2
returns-in-2 c = search (rules, same_place)

pub returns-in-3 : goal.returns-in-3
returns-in-3 c = search (rules, same_place)

pub returns-in-4 : goal.returns-in-4
returns-in-4 c = search (rules, same_place)

pub returns-in-5 : goal.returns-in-5
returns-in-5 c = search (rules, same_place)

pub returns-in-6 : goal.returns-in-6
returns-in-6 c = search (rules, same_place)

pub returns-in-7 : goal.returns-in-7
returns-in-7 c = search (rules, same_place)

pub returns-in-8 : goal.returns-in-8
returns-in-8 c = search (rules, same_place)

pub returns-in-9 : goal.returns-in-9
returns-in-9 c = search (rules, same_place)

pub returns-in-10 : goal.returns-in-10
returns-in-10 c = search (rules, same_place)

pub returns-in-11 : goal.returns-in-11
returns-in-11 c = search (rules, same_place)
