-- `export::leafdrum_turn` meets its contract.
-- Relies on lists for each way in which a turn ends.
use mathlib.Core.Path.{refl, sym}
use Rattle.std.specs.Prelude.{Ok}
use Rattle.settings.proofs.Refusals.{refusal_positive}
use Rattle.turns.specs.Cut.{done_of}
use Rattle.lists.specs.Cut.{ended}
use Rattle.lists.proofs.Ways.{turn_refused}
use Rattle.lists.proofs.One.{one_three, one_below, one_sized, alone_open, view_told, one_told, one_open}
use Rattle.export.proofs.Exported.{export_steps, not_six, six_ended, view_refused}
use borrow.Author.Rules.{rules}
use Rattle.export.proofs.leafdrum_turn.Goals as goal

pub returns-in-Err : goal.returns-in-Err
returns-in-Err c = export_steps c.ended_refused.ensures (turn_refused _ _ _ _ _ _ refl c.in-Err.ensures (refusal_positive c.in-Err.r))

pub view_here-requires-clause-sized : goal.view_here-requires-clause-sized
view_here-requires-clause-sized c = one_sized _ _ _ _ _ (sym c.in_default.ensures)

pub view_here-requires-clause-bound : goal.view_here-requires-clause-bound
view_here-requires-clause-bound c = alone_open _ _ _ _ _ (sym c.in_default.ensures)

pub returns-in-Ok : goal.returns-in-Ok
returns-in-Ok c =
    export_steps c.ended_told.ensures (view_told _ _ _ _ _ (sym c.in_default.ensures) (done_of c.args.settings (Ok c.in-Ok.field-0)) c.in-Ok.ensures.workers_after c.views.ensures c.if-views.true refl c.in-Ok.ensures.counts (not_six {o = Ok c.in-Ok.field-0} refl))

pub returns-in-Err-view_here : goal.returns-in-Err-view_here
returns-in-Err-view_here c =
    export_steps c.ended_refused-in-Err-view_here.ensures (view_refused _ _ _ _ _ (sym c.in_default.ensures) c.views.ensures c.if-views.true c.in-Err-view_here.r c.in-Err-view_here.ensures.workers_after refl)

pub run_list-ran-requires-clause-workers_value : goal.run_list-ran-requires-clause-workers_value
run_list-ran-requires-clause-workers_value c = one_three _ _ _ _ _ (sym c.in_default.ensures)

pub run_list-ran-requires-clause-rest_value : goal.run_list-ran-requires-clause-rest_value
run_list-ran-requires-clause-rest_value c = one_below _ _ _ _ _ (sym c.in_default.ensures) refl

pub returns-in-Err-outcome : goal.returns-in-Err-outcome
returns-in-Err-outcome c = six_ended _ _ _ _ _ c.run_list-ran.result c.in-Err-outcome.is (search rules) c.run_list-ran.ensures c.in_default.ensures

pub returns-then-idle_at : goal.returns-then-idle_at
returns-then-idle_at c =
    export_steps c.ended_told-then-idle_at.ensures (one_told _ _ _ _ _ (sym c.in_default.ensures) (ended c.run_list-ran.result) c.run_list-ran.ensures refl refl c.with_counts-s.ensures (not_six c.in_default-outcome.is))

pub returns : goal.returns
returns c =
    export_steps c.ended_open.ensures (one_open _ _ _ _ _ (sym c.in_default.ensures) (ended c.run_list-ran.result) c.run_list-ran.ensures refl refl c.idle_at.ensures c.if-idle_at.false c.with_counts-s.ensures (not_six c.in_default-outcome.is))
