-- `export::leafdrum_level_count` meets its contract.
-- Relies on settings for what a yes to question 1 says.
use borrow.Author.Rules.{rules}
use Rattle.words.proofs.Choice.{via}
use Rattle.settings.proofs.Laws.{ranges}
use Rattle.export.proofs.leafdrum_level_count.Goals as goal

pub level_count-requires : goal.level_count-requires
level_count-requires c = search (rules, via, ranges)
