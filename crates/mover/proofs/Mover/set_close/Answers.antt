-- `mover::Mover::set_close` meets its contract.
-- Relies on Turns.
use Rattle.mover.proofs.Turns.{close_gives, no_room_gives, refused_gives}
use Rattle.rules.specs.Asked.{set_closes}
use Rattle.words.proofs.Choice.{both_false_left, via}
use borrow.Author.Rules.{rules}
use Rattle.mover.proofs.Mover.set_close.Goals as goal

pub returns-then-self-last_depth : goal.returns-then-self-last_depth
returns-then-self-last_depth c = search (rules, close_gives)

pub returns-else-self-last_depth : goal.returns-else-self-last_depth
returns-else-self-last_depth c = search (rules, no_room_gives)

pub returns-else-stands_with : goal.returns-else-stands_with
unfolding set_closes
returns-else-stands_with c = search (rules, refused_gives, both_false_left, via)
