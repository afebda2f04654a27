-- `reach::Search::meet_entries` meets its contract.
-- Relies on Ways.
use mathlib.Core.Path.{refl, ◌∙◌}
use Rattle.std.proofs.Common.{arith}
use Rattle.std.proofs.lemmas.Result.{err_from_is_err_and}
use Rattle.reach.specs.Cut.{met_entries}
use Rattle.reach.proofs.Ways.{entries_more, entries_dangle}
use Rattle.reach.proofs.Search.meet_entries.Goals as goal

pub loop-e-init : goal.loop-e-init
unfolding met_entries
loop-e-init c = (refl, refl)

pub returns-in_err-meet-clause-after : goal.returns-in_err-meet-clause-after
returns-in_err-meet-clause-after c =
    let p = err_from_is_err_and c.from_residual.result c.from_residual.ensures.1 in
    let (d, h) = c.in_err-meet.ensures.after in
    let i = entries_dangle _ _ _ _ _ c.loop-e.e c.at.ensures c.level_place-first.ensures.value c.loop-e.invariant.1 (omega (arith, c.loop-e-test.true, c.entries-e-end.ensures.0)) h in
    rw (p.1, p.2) (d, i)

pub loop-e-preserved : goal.loop-e-preserved
loop-e-preserved c =
    (c.meet.ensures.same_marks ∙ c.loop-e.invariant.0, entries_more _ _ _ _ _ c.loop-e.e c.at.ensures c.level_place-first.ensures.value c.loop-e.invariant.1 c.in_ok-meet.ensures.after)
