-- `lists::refused_tally` meets its contract.
-- Relies on Ways for a refusal that ends no list.
use Rattle.lists.specs.Cut.{stand}
use Rattle.lists.proofs.Ways.{open_refused}
use Rattle.lists.proofs.refused_tally.Goals as goal

pub returns-in_default : goal.returns-in_default
returns-in_default c = open_refused (stand 0 c.args.t) c.args.r c.next_tally.ensures c.in_default.not-Memory
