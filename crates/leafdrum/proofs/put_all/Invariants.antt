-- What the loop of `leafdrum::put_all` counts down.
-- Relies on run: each thing printed takes from what is left.
use Rattle.run.specs.Remaining.{left}
use Rattle.leafdrum.proofs.put_all.Given as goal

abbrev pub decreases-loop-p : goal.decreases-loop-p
decreases-loop-p l = left l.p l.input
