-- What the loop of `reach::Search::explore` keeps, and what it counts down.
-- Relies on the definitions of the search.
use mathlib.Core.Path.{◌≡◌}
use mathlib.Core.Bool.{false}
use Prim.Native.Nat.{◌-◌, ◌≤◌}
use Rattle.areas.specs.Memory.{memory}
use Rattle.reach.specs.Cut.{searched, rounds}
use Rattle.reach.specs.Marked.{things}
use Rattle.reach.proofs.Search.explore.Given as goal

abbrev pub invariant-loop-t : goal.invariant-loop-t
invariant-loop-t l =
    (l.k ≤ things) × (l.self.marks.ghost_name ≡ l.initial.self.marks.ghost_name)
    × (rounds l.s.width l.s (memory l.nodes l.levels) things l.k ≡ searched l.self.marks.now l.self.queue.items false)

abbrev pub decreases-loop-t : goal.decreases-loop-t
decreases-loop-t l = things - l.k
