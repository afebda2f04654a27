-- `settings::Settings::level_count` meets its contract.
-- Relies on the laws named below.
use Rattle.settings.specs.Sizes.{level_count}
use Rattle.settings.proofs.Laws.{product_fits, count_one, count_two, count_bound}
use borrow.Author.Rules.{rules}
use Rattle.settings.proofs.Settings.level_count.Goals as goal

pub overflow_mul-result : goal.overflow_mul-result
overflow_mul-result c = search (rules, product_fits)

pub overflow_add-result : goal.overflow_add-result
overflow_add-result c = search (rules, count_one)

pub overflow_add-result-2 : goal.overflow_add-result-2
overflow_add-result-2 c = search (rules, count_two)

pub returns : goal.returns
unfolding level_count
returns c = (cc, search (rules, count_bound))
