-- What the loop of `words::copy_out` keeps, and what it counts down.
-- Relies on Blocks for no word, one word more, and all.
use mathlib.Core.Path.{◌≡◌}
use Prim.Native.Nat.{◌≤◌, ◌-◌}
use mathlib.Core.List.{◌++◌}
use lib.ListN.{length, drop}
use Rattle.words.specs.Blocks.{cells}
use Rattle.words.proofs.copy_out.Given as goal

abbrev pub invariant-loop-k : goal.invariant-loop-k
invariant-loop-k l = (l.k ≤ length l.initial.dst) × (length l.dst ≡ length l.initial.dst) × (l.dst ≡ cells l.s l.i l.k ++ drop l.k l.initial.dst)

abbrev pub decreases-loop-k : goal.decreases-loop-k
decreases-loop-k l = length l.initial.dst - l.k
