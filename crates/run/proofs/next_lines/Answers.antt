-- `run::next_lines` meets its contract.
-- Relies on the ways through a stage.
use borrow.Author.Rules.{rules}
use Rattle.run.proofs.Stages.{line_told, rest_told, rest_cut}
use Rattle.run.proofs.next_lines.Goals as goal

pub returns-in-Some : goal.returns-in-Some
returns-in-Some c = search (rules, line_told, rest_cut)

pub returns-in-None : goal.returns-in-None
returns-in-None c = search (rules, rest_told, rest_cut)
