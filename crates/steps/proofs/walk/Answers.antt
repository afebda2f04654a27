-- `steps::walk` meets its contract.
-- Relies on Back for the way's end.
use Rattle.std.proofs.Common.{arith}
use Rattle.steps.proofs.Back.{walk_none}
use Rattle.steps.proofs.walk.Goals as goal

pub returns : goal.returns
returns c = grind (arith, walk_none)
