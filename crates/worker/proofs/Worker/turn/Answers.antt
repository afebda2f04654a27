-- `worker::Worker::turn` meets its contract.
-- Relies on Turns for a kind that is none of a search.
use Rattle.words.specs.Choice.{pick, both}
use Rattle.steps.specs.Tried.{unless_six}
use Rattle.worker.specs.Searching.{search_tried}
use Rattle.worker.proofs.Turns.{not_searching}
use borrow.Author.Rules.{rules}
use Rattle.worker.proofs.Worker.turn.Goals as goal

pub returns-in_default : goal.returns-in_default
unfolding search_tried unless_six both pick
returns-in_default c = grind (rules, not_searching)
