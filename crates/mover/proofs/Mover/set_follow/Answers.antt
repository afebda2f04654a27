-- `mover::Mover::set_follow` meets its contract.
-- Relies on Turns.
use Rattle.mover.proofs.Turns.{follow_gives}
use borrow.Author.Rules.{rules}
use Rattle.mover.proofs.Mover.set_follow.Goals as goal

pub returns : goal.returns
returns c = search (rules, follow_gives)
