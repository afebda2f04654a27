-- What the loop of `lists::run_list` keeps, and what it counts down.
-- Relies on the ways through a list of turns.
use Prim.Native.Nat.{◌+◌, ◌≤◌}
use mathlib.Core.Path.{◌≡◌}
use mathlib.Core.Bool.{true}
use mathlib.Core.List.{◌∷◌}
use lib.Dec.{ltb}
use lib.ListN.{length}
use Rattle.std.specs.Slice.Iter.{iter_rest}
use Rattle.words.specs.Choice.{every}
use Rattle.areas.specs.Memory.{areas}
use Rattle.rules.specs.Lists.{state}
use Rattle.lists.specs.Cut.{run, stand, counted_by, ran_of, ran_list}
use Rattle.rules.proofs.Three.{Three}
use Rattle.lists.proofs.run_list.Given as goal

abbrev pub invariant-loop-t : goal.invariant-loop-t
invariant-loop-t l = (length l.nodes ≡ length l.initial.nodes)
    × (length l.levels ≡ length l.initial.levels)
    × (length l.workers ≡ length l.initial.workers)
    × (every (λ j. ltb j l.s.workers) (l.i ∷ iter_rest l.after) ≡ true)
    × (l.t.done + l.t.failed + l.t.left ≤ 4294967295)
    × Three l.s.width l.s.workers (state (counted_by l.s (stand 0 l.t)) (areas l.nodes l.levels l.workers))
    × (ran_list l.s.width (l.i ∷ iter_rest l.after) (ran_of l.s (stand 0 l.t) (areas l.nodes l.levels l.workers)) ≡ ran_list l.s.width (l.first ∷ l.rest) (run 0 (state l.s (areas l.initial.nodes l.initial.levels l.initial.workers)) l.limit 0 0))

abbrev pub decreases-loop-t : goal.decreases-loop-t
decreases-loop-t l = length (iter_rest l.after)
