-- `mover::Mover::set_look` meets its contract.
-- Relies on Turns.
use Rattle.mover.proofs.Turns.{look_gives}
use borrow.Author.Rules.{rules}
use Rattle.mover.proofs.Mover.set_look.Goals as goal

pub returns : goal.returns
returns c = search (rules, look_gives)
