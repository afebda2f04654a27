-- `mover::Mover::set_read` meets its contract.
-- Relies on Turns.
use Rattle.mover.proofs.Turns.{read_gives}
use borrow.Author.Rules.{rules}
use Rattle.mover.proofs.Mover.set_read.Goals as goal

pub returns : goal.returns
returns c = search (rules, read_gives)
