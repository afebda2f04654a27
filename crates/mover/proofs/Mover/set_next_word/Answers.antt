-- `mover::Mover::set_next_word` meets its contract.
-- Relies on Asked, on Bounds, on Turns.
use Rattle.mover.proofs.Asked.{set_asked}
use Rattle.mover.proofs.Bounds.{bounded_stay}
use Rattle.mover.proofs.Turns.{done_gives, next_is, refused_gives}
use borrow.Author.Rules.{rules}
use Rattle.mover.proofs.Mover.set_next_word.Goals as goal

pub returns-then-set_nexts : goal.returns-then-set_nexts
returns-then-set_nexts c = search (rules, done_gives, bounded_stay, set_asked, next_is)

pub returns-else-set_nexts : goal.returns-else-set_nexts
returns-else-set_nexts c = search (rules, refused_gives, set_asked)
