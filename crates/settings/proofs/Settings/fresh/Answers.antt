-- `settings::Settings::fresh` meets its contract.
-- Relies on nothing.
use borrow.Author.Rules.{rules}
use Rattle.settings.specs.Sizes.{fresh}
use Rattle.settings.proofs.Settings.fresh.Goals as goal

pub returns : goal.returns
unfolding fresh
returns c = search rules
