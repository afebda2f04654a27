-- `settings::Settings::with_counts` meets its contract.
-- Relies on nothing.
use borrow.Author.Rules.{rules}
use Rattle.settings.specs.Cut.{counted}
use Rattle.settings.proofs.Settings.with_counts.Goals as goal

pub returns : goal.returns
unfolding counted
returns c = search rules
