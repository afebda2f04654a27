-- What the loop of `reach::Search::meet_entries` keeps.
-- Relies on the definitions of the search.
use mathlib.Core.Path.{◌≡◌}
use mathlib.Core.Bool.{false}
use Rattle.reach.specs.Cut.{searched, met_entries}
use Rattle.reach.proofs.Search.meet_entries.Given as goal

abbrev pub invariant-loop-e : goal.invariant-loop-e
invariant-loop-e l =
    (l.self.marks.ghost_name ≡ l.initial.self.marks.ghost_name)
    × (met_entries l.s.width l.s l.levels l.g (searched l.initial.self.marks.now l.initial.self.queue.items false) l.e ≡ searched l.self.marks.now l.self.queue.items false)
