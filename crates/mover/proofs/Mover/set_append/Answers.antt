-- `mover::Mover::set_append` meets its contract.
-- Relies on Asked, on Turns.
use Rattle.mover.proofs.Asked.{appends_asked}
use Rattle.mover.proofs.Turns.{append_gives, refused_gives}
use Rattle.rules.specs.Asked.{set_appends}
use Rattle.words.proofs.Choice.{both_false_left}
use borrow.Author.Rules.{rules}
use Rattle.mover.proofs.Mover.set_append.Goals as goal

pub returns-then-stands_setting : goal.returns-then-stands_setting
returns-then-stands_setting c = search (rules, append_gives)

pub returns-else-stands_setting : goal.returns-else-stands_setting
unfolding set_appends
returns-else-stands_setting c = search (rules, refused_gives, both_false_left, appends_asked)
