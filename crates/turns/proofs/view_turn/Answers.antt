-- `turns::view_turn` meets its contract.
-- Relies on Views for a turn that is done.
use Rattle.turns.proofs.Views.{view_done}
use Rattle.turns.proofs.view_turn.Goals as goal

pub returns-clause-workers_after : goal.returns-clause-workers_after
returns-clause-workers_after c = rw c.turn_done.ensures (view_done _ _ _ _ _ _ _ c.requires.kind_value c.in_ok-t.t c.store.ensures c.in_ok-t.ensures)
