-- `words::divisor` meets its contract.
-- Relies on the laws named below.
use Rattle.words.proofs.Auto.{tests}
use Rattle.words.specs.Choice.{pick}
use Rattle.words.proofs.divisor.Goals as goal

pub returns-then-i-row : goal.returns-then-i-row
unfolding pick
returns-then-i-row c = search tests

pub returns-else-i-row : goal.returns-else-i-row
unfolding pick
returns-else-i-row c = search tests
