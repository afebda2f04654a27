-- `run::next_first` meets its contract.
-- Relies on the ways through a stage.
use borrow.Author.Rules.{rules}
use Rattle.run.proofs.Stages.{first_told, first_none}
use Rattle.run.proofs.next_first.Goals as goal

pub returns-in-Some : goal.returns-in-Some
returns-in-Some c = search (rules, first_told)

pub returns-in-None : goal.returns-in-None
returns-in-None c = search (rules, first_none)
