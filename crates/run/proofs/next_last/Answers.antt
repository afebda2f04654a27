-- `run::next_last` meets its contract.
-- Relies on the ways through a stage.
use borrow.Author.Rules.{rules}
use Rattle.run.proofs.Stages.{last_told}
use Rattle.run.proofs.next_last.Goals as goal

pub returns : goal.returns
returns c = search (rules, last_told)
