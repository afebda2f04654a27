-- `settings::Settings::check_sizes` meets its contract.
-- Relies on Laws for what a yes to question 1 says.
use borrow.Author.Rules.{rules}
use Rattle.words.proofs.Choice.{via}
use Rattle.settings.proofs.Laws.{ranges}
use Rattle.settings.proofs.Settings.check_sizes.Goals as goal

pub level_count-n-requires : goal.level_count-n-requires
level_count-n-requires c = search (rules, via, ranges)

pub has_room-requires-clause-ranges : goal.has_room-requires-clause-ranges
has_room-requires-clause-ranges c = search (rules, via, ranges)
