-- What the loop of `words::fill_words` keeps, and what it counts down.
-- Relies on Blocks for one word more and for all.
use mathlib.Core.Path.{◌≡◌}
use Prim.Native.Nat.{◌≤◌, ◌-◌}
use lib.ListN.{length, replicate}
use lib.Seq.{sets}
use Rattle.words.proofs.fill_words.Given as goal

abbrev pub invariant-loop-k : goal.invariant-loop-k
invariant-loop-k l = (l.k ≤ l.n) × (length l.s ≡ length l.initial.s) × (l.s ≡ sets l.initial.s l.i (replicate l.k l.v))

abbrev pub decreases-loop-k : goal.decreases-loop-k
decreases-loop-k l = l.n - l.k
