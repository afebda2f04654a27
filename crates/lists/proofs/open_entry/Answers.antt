-- `lists::open_entry` meets its contract.
-- Relies on Ways for what a turn requires and for an entry whose worker has a call open.
use mathlib.Core.Path.{refl}
use Rattle.lists.specs.Cut.{stand}
use Rattle.lists.proofs.Ways.{entry_sized, entry_inside, entry_turn}
use Rattle.lists.proofs.open_entry.Goals as goal

pub open_here-d-requires : goal.open_here-d-requires
open_here-d-requires c =
    let p = c.requires in
    record { sized = entry_sized _ (stand 0 c.args.t) c.args.i _ _ _ c.with_counts-n.ensures p.workers_value; worker_words_in_bounds = entry_inside _ (stand 0 c.args.t) _ _ _ _ p.workers_value p.i_lt_workers; bound = p.bound }

pub returns : goal.returns
returns c =
    let p = c.requires in
    entry_turn _ _ (stand 0 c.args.t) _ _ _ _ refl p.le_left p.workers_value p.i_lt_workers c.open_here-d.result c.tallied.ensures c.open_here-d.ensures c.with_counts-n.ensures refl p.i_value p.bound
