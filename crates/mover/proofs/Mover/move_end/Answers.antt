-- `mover::Mover::move_end` meets its contract.
-- Relies on Asked, on Bounds, on Turns.
use Rattle.mover.proofs.Asked.{ends_asked}
use Rattle.mover.proofs.Bounds.{bounded_end}
use Rattle.mover.proofs.Turns.{done_gives, end_is, refused_gives}
use borrow.Author.Rules.{rules}
use Rattle.mover.proofs.Mover.move_end.Goals as goal

pub returns-then-move_ends : goal.returns-then-move_ends
returns-then-move_ends c = search (rules, done_gives, bounded_end, ends_asked, end_is)

pub returns-else-move_ends : goal.returns-else-move_ends
returns-else-move_ends c = search (rules, refused_gives, ends_asked)
