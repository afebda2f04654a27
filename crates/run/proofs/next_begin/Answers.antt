-- `run::next_begin` meets its contract.
-- Relies on the ways through a stage.
use Rattle.std.proofs.Common.{arith}
use Rattle.run.proofs.Stages.{begin_short, begin_long}
use Rattle.run.proofs.next_begin.Goals as goal

pub returns-then-is_short : goal.returns-then-is_short
returns-then-is_short c a = begin_short _ _ a c.tell.ensures c.requires (omega arith)

pub returns-else-is_short : goal.returns-else-is_short
returns-else-is_short c a = begin_long _ _ a c.tell-else-is_short.ensures c.requires (omega arith)
