-- `mover::Mover::set_level` meets its contract.
-- Relies on Bounds, on Turns.
use Rattle.mover.proofs.Bounds.{bounded_stay}
use Rattle.mover.proofs.Turns.{done_gives, level_is, refused_gives}
use Rattle.rules.specs.Moving.{set_level}
use Rattle.steps.proofs.Asked.{takes_held_level}
use Rattle.steps.proofs.Steps.{taken-fits}
use Rattle.words.proofs.Choice.{via}
use borrow.Author.Rules.{rules}
use Rattle.mover.proofs.Mover.set_level.Goals as goal

pub overflow_add-g : goal.overflow_add-g
overflow_add-g c = search (rules, taken-fits, takes_held_level)

pub returns-then-takes_level : goal.returns-then-takes_level
unfolding set_level
returns-then-takes_level c = search (rules, done_gives, bounded_stay, via, level_is)

pub returns-else-takes_level : goal.returns-else-takes_level
returns-else-takes_level c = search (rules, refused_gives, via)
