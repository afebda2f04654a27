-- What the loop of `words::copy_in` keeps, and what it counts down.
-- Relies on Blocks for one word more and for all.
use mathlib.Core.Path.{◌≡◌}
use Prim.Native.Nat.{◌≤◌, ◌-◌}
use lib.ListN.{length, take}
use lib.Seq.{sets}
use Rattle.words.proofs.copy_in.Given as goal

abbrev pub invariant-loop-k : goal.invariant-loop-k
invariant-loop-k l = (l.k ≤ length l.src) × (length l.s ≡ length l.initial.s) × (l.s ≡ sets l.initial.s l.i (take l.k l.src))

abbrev pub decreases-loop-k : goal.decreases-loop-k
decreases-loop-k l = length l.src - l.k
