-- `run::next` meets its contract.
-- Relies on the ways through a stage.
use Rattle.words.proofs.Choice.{via}
use Rattle.run.proofs.Stages.{next_nowhere}
use borrow.Author.Rules.{rules}
use Rattle.run.proofs.next.Goals as goal

pub returns-else-can_stand : goal.returns-else-can_stand
returns-else-can_stand c = search (rules, via, next_nowhere)
