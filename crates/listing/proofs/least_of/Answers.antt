-- `listing::least_of` meets its contract.
-- Relies on nothing.
use mathlib.Core.Path.{sym, ◌∙◌}
use Rattle.std.proofs.Common.{rules, tests, arith}
use Rattle.std.proofs.lemmas.Iterator.{YieldsList-from_range, YieldsList-from_map}
use Rattle.std.proofs.lemmas.Iterator.Consumers.{YieldsList-at, YieldsList-from_filter, min_from_yields_List}
use Rattle.std.proofs.lemmas.Iterator.Adapters.{option_map_id}
use Rattle.listing.specs.Cut.{least_of}
use Rattle.listing.proofs.least_of.Goals as goal

pub returns : goal.returns
unfolding least_of
returns c =
    sym (option_map_id c.min.result) ∙ min_from_yields_List _ c.min.result c.min.ensures.ran
    (YieldsList-from_filter _ _
    (YieldsList-at c.filter-2.ensures.source (YieldsList-from_map _ _
    (YieldsList-at c.map.ensures.source (YieldsList-from_filter _ _ (YieldsList-from_range 0 c.args.n c.args.n c.filter.ensures.source (omega arith)) c.filter.ensures.closure (λ x b q k. search (rules, tests))))
    c.map.ensures.closure (λ x b q k. search rules)))
    c.filter-2.ensures.closure (λ x b q k. search (rules, tests)))
