-- `reach::Search::explore` meets its contract.
-- Relies on Ways.
use mathlib.Core.Path.{refl, ◌∙◌}
use Prim.Native.Nat.{◌+◌}
use Rattle.std.proofs.Common.{arith}
use Rattle.std.proofs.lemmas.Result.{err_from_is_err_and}
use Rattle.reach.proofs.Ways.{rounds_none, rounds_more, rounds_dangle, rounds_over, within_things}
use Rattle.reach.proofs.Search.explore.Goals as goal

pub returns-in_err-meet-clause-found : goal.returns-in_err-meet-clause-found
returns-in_err-meet-clause-found c =
    let p = err_from_is_err_and c.from_residual.result c.from_residual.ensures.1 in
    let (d, h) = c.in_err-meet.ensures.after in
    rw (p.1, p.2) (d, rounds_dangle _ _ _ _ _ 0 c.requires.fits (rounds_none _ _ _ _ _ h c.requires.marks_value c.requires.queue_value))

pub loop-t-init : goal.loop-t-init
loop-t-init c = (omega arith, refl, rounds_none _ _ _ _ _ c.in_ok-meet.ensures.after c.requires.marks_value c.requires.queue_value)

pub returns-in_err-expand-clause-found : goal.returns-in_err-expand-clause-found
returns-in_err-expand-clause-found c =
    let p = err_from_is_err_and c.from_residual-in_err-expand.result c.from_residual-in_err-expand.ensures.1 in
    let (d, h) = c.in_err-expand.ensures.after in
    let (l, v) = rw c.deref.ensures.0 at c.in-Some.ensures.lookup.3 in
    rw (p.1, p.2) (d, rounds_dangle _ _ _ _ _ (c.loop-t.k + 1) c.requires.fits (rounds_more _ _ _ _ _ c.loop-t.k c.loop-t.invariant.2 h (c.from.ensures ∙ v 0) l))

pub loop-t-preserved : goal.loop-t-preserved
loop-t-preserved c =
    let (l, v) = rw c.deref.ensures.0 at c.in-Some.ensures.lookup.3 in
    (within_things _ _ c.loop-t.self.room l, c.expand.ensures.same_marks ∙ c.loop-t.invariant.1, rounds_more _ _ _ _ _ c.loop-t.k c.loop-t.invariant.2 c.in_ok-expand.ensures.after (c.from.ensures ∙ v 0) l)

pub returns-clause-found : goal.returns-clause-found
returns-clause-found c = rounds_over _ _ _ _ _ c.loop-t.k c.requires.fits c.loop-t.invariant.2 (rw c.deref.ensures.0 at c.in_default.ensures.lookup.3)
