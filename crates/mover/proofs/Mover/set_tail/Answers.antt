-- `mover::Mover::set_tail` meets its contract.
-- Relies on Turns.
use Rattle.mover.proofs.Turns.{tail_gives}
use borrow.Author.Rules.{rules}
use Rattle.mover.proofs.Mover.set_tail.Goals as goal

pub returns : goal.returns
returns c = search (rules, tail_gives)
