-- `lists::entry` meets its contract.
-- Relies on the ways through a list of turns.
use Rattle.turns.proofs.Ways.{not-idle}
use Rattle.lists.proofs.Ways.{entry_idle, entry_turn, entry_sized, views_so}
use mathlib.Core.Path.{refl}
use Rattle.lists.specs.Cut.{stand}
use borrow.Author.Rules.{rules}
use Rattle.lists.proofs.entry.Goals as goal

pub view_here-d-requires : goal.view_here-d-requires
view_here-d-requires c = record { sized = search (rules, entry_sized); bound = search (rules, not-idle) }

pub open_entry-requires : goal.open_entry-requires
open_entry-requires c = record { le_left = search rules; left_bound = search rules; workers_value = search rules; i_lt_workers = search rules; bound = search (rules, not-idle); i_value = search (rules, views_so) }

pub returns-then-idle_at : goal.returns-then-idle_at
returns-then-idle_at c = search (rules, entry_idle)

pub returns-then-views : goal.returns-then-views
returns-then-views c =
    let p = c.requires in
    let a : _ = views_so _ _ c.views-else-idle_at.ensures c.if-views.true in
    let o : _ = not-idle _ _ c.idle_at.ensures c.if-idle_at.false in
    entry_turn _ _ (stand 0 c.args.t) _ _ _ _ refl p.le_left p.workers_value p.i_lt_workers c.view_here-d.result c.tallied.ensures c.view_here-d.ensures.workers_after c.with_counts-n.ensures refl a o
