-- `turns::search_turn` meets its contract.
-- Relies on Finish for each way in which a searching turn ends.
use mathlib.Core.Bool.{false}
use Rattle.std.proofs.lemmas.Result.{err_from_is_err_and}
use Rattle.turns.proofs.Finish.{search_refused, search_full, search_open}
use Rattle.turns.proofs.search_turn.Goals as goal

pub returns-in_err-t : goal.returns-in_err-t
returns-in_err-t c =
    let p = err_from_is_err_and c.from_residual.result c.from_residual.ensures.1 in
    rw (p.1, p.2) (search_refused _ _ _ _ _ _ _ false c.requires.bound c.requires.kind_bound c.in_err-t.field-0.0 c.in_err-t.ensures)

pub returns-in-Full : goal.returns-in-Full
returns-in-Full c = search_full _ _ _ _ _ _ _ false c.requires.bound c.requires.kind_bound c.in_ok-t.t c.in-Full.is c.keep_search.ensures c.in_ok-t.ensures

pub returns-in_default : goal.returns-in_default
returns-in_default c =
    rw c.turn_done.ensures
    (search_open _ _ _ _ _ _ _ false c.requires.bound c.requires.kind_bound c.in_ok-t.t c.in_default.not-Full c.came_to.ensures c.keep_search.ensures c.in_ok-t.ensures)
