-- `turns::keep_search` meets its contract.
-- Relies on Finish for a Move that has begun.
use Rattle.turns.proofs.Finish.{keep_begun}
use Rattle.turns.proofs.keep_search.Goals as goal

pub returns-in-Some : goal.returns-in-Some
returns-in-Some c = rw c.in-Some.is (keep_begun _ _ _ _ c.store-in-Some-2.ensures c.fresh.ensures c.store-in-Some.ensures)
