-- `mover::Mover::set_put` meets its contract.
-- Relies on Asked, on Turns.
use Rattle.mover.proofs.Asked.{puts_asked}
use Rattle.mover.proofs.Turns.{put_gives, refused_gives}
use Rattle.rules.specs.Asked.{set_puts}
use Rattle.words.proofs.Choice.{both_false_left}
use borrow.Author.Rules.{rules}
use Rattle.mover.proofs.Mover.set_put.Goals as goal

pub returns-then-set_entry : goal.returns-then-set_entry
returns-then-set_entry c = search (rules, put_gives)

pub returns-else-set_entry : goal.returns-else-set_entry
unfolding set_puts
returns-else-set_entry c = search (rules, refused_gives, both_false_left, puts_asked)
