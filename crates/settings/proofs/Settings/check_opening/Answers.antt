-- `settings::Settings::check_opening` meets its contract.
-- Relies on Laws for what a yes to question 1 says.
use borrow.Author.Rules.{rules}
use Rattle.words.proofs.Choice.{via}
use Rattle.settings.proofs.Laws.{ranges}
use Rattle.settings.proofs.Settings.check_opening.Goals as goal

pub level_count-requires : goal.level_count-requires
level_count-requires c = search (rules, via, ranges)

pub has_room-requires-clause-ranges : goal.has_room-requires-clause-ranges
has_room-requires-clause-ranges c = search (rules, via, ranges)
