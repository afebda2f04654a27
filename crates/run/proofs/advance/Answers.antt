-- `run::advance` meets its contract.
-- Relies on the ways through a stage.
use borrow.Author.Rules.{rules}
use Rattle.run.specs.Remaining.{goes_on}
use Rattle.run.proofs.Stages.{too_long, next_goes, next_done}
use Rattle.run.proofs.advance.Goals as goal

pub returns-in-Begin : goal.returns-in-Begin
unfolding goes_on
returns-in-Begin c = search (rules, next_goes, c.next_begin.ensures)

pub returns-in-TooLong : goal.returns-in-TooLong
unfolding goes_on
returns-in-TooLong c = search (rules, next_goes, too_long)

pub returns-in-First : goal.returns-in-First
unfolding goes_on
returns-in-First c = search (rules, next_goes)

pub returns-in-Lines : goal.returns-in-Lines
unfolding goes_on
returns-in-Lines c = search (rules, next_goes)

pub returns-in-Last : goal.returns-in-Last
unfolding goes_on
returns-in-Last c = search (rules, next_goes, c.next_last.ensures)

pub returns-in-Done : goal.returns-in-Done
returns-in-Done c = search (rules, next_done)
