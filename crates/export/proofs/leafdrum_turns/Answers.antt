-- `export::leafdrum_turns` meets its contract.
-- Relies on lists for each way in which a list ends.
use mathlib.Core.Path.{refl}
use Rattle.settings.proofs.Refusals.{refusal_positive}
use Rattle.lists.specs.Cut.{ended}
use Rattle.lists.proofs.Ways.{asked_three, asked_below, list_refused}
use Rattle.export.proofs.Exported.{list_steps, apart_below, apart_done, none_done}
use borrow.Author.Rules.{rules}
use Rattle.export.proofs.leafdrum_turns.Goals as goal

pub returns-in-Err : goal.returns-in-Err
returns-in-Err c = list_steps c.ended_refused.ensures (list_refused _ _ _ _ _ _ _ c.in-Err.ensures (refusal_positive c.in-Err.r))

pub returns-in_default-list : goal.returns-in_default-list
returns-in_default-list c = search (rules, none_done)

pub run_list-ran-requires-clause-workers_value : goal.run_list-ran-requires-clause-workers_value
run_list-ran-requires-clause-workers_value c = asked_three _ _ _ _ _ _ c.in_default.ensures refl

pub run_list-ran-requires-clause-rest_value : goal.run_list-ran-requires-clause-rest_value
run_list-ran-requires-clause-rest_value c = apart_below _ c.from-first.ensures c.in-len1-up.len_at_least _ (asked_below _ _ _ _ _ _ c.in_default.ensures refl)

pub returns : goal.returns
returns c =
    list_steps c.ended_list.ensures (apart_done _ c.from-first.ensures c.in-len1-up.len_at_least _ _ _ _ _ (ended c.run_list-ran.result) c.in_default.ensures refl c.run_list-ran.ensures c.with_counts.ensures)
