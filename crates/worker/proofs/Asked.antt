-- Question 6 of Take and TakeTail in the code: what a yes says of numbers.
-- Relies on words for tests with parts, on steps for bounds.
use mathlib.Core.Path.{◌≡◌}
use mathlib.Core.Bool.{Bool, true}
use Prim.Native.Nat.{◌≤◌}
use Rattle.words.proofs.Choice.{via, both_left, both_right}
use Rattle.settings.specs.declared.Settings.{Settings}
use Rattle.settings.specs.Sizes.{max_nodes, most_levels}
use Rattle.settings.specs.Cut.{Sized}
use Rattle.areas.specs.Memory.{level_taken}
use Rattle.record.specs.declared.Head.{Head}
use Rattle.rules.specs.Asked.{spare, takes}
use Rattle.steps.proofs.Asked.{level_most, node_most}

module _ (s : Settings) (h : Head) {r : Bool} where
  pub takes_level_lem : r ≡ takes s h → r ≡ true → Sized s → h.level ≤ most_levels
  unfolding takes
  takes_level_lem a e z = level_most s h.level (both_left _ _ (via a e)) z

  pub takes_held : r ≡ takes s h → r ≡ true → Sized s → h.held_node ≤ max_nodes
  unfolding takes spare
  takes_held a e z = node_most s h.held_node (both_right (level_taken s h.level) _ (via a e)) z
