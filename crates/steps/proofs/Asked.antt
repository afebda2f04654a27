-- Question 6 in the code: the ways through a test with parts, over any cell and any test beside it, and what a yes says of numbers.
-- Relies on words for tests with parts, on settings for bounds.
use mathlib.Core.Path.{◌≡◌}
use mathlib.Core.Bool.{Bool, true}
use mathlib.Core.List.{List}
use Prim.Native.Nat.{ℕ, ◌-◌, ◌≤◌}
use lib.Dec.{leb}
use borrow.Author.Tests.{leb-true, ltb-true}
use native.Mathlib.Omega.{arith}
use Rattle.words.specs.Choice.{both}
use Rattle.words.specs.Digits.{DigitWidth}
use Rattle.words.proofs.Choice.{via, both_left, both_right}
use Rattle.settings.specs.declared.Settings.{Settings}
use Rattle.settings.specs.Sizes.{max_nodes, most_depth, most_levels}
use Rattle.settings.proofs.Laws.{depths_most}
use Rattle.settings.specs.Cut.{Sized}
use Rattle.areas.specs.Memory.{depth_at, level_taken}
use Rattle.record.specs.declared.Head.{Head}
use Rattle.rules.specs.Asked.{in_hand, spare, picks_in, level_left, stands_at, stands_with, picks_with, takes_level}

-- what a yes says of numbers
pub level_most : (s : Settings) (g : ℕ) → level_taken s g ≡ true → Sized s → g ≤ most_levels
unfolding level_taken
level_most s g e z = omega (arith, ltb-true _ _ e)

pub node_most : (s : Settings) (n : ℕ) → leb n s.nodes_taken ≡ true → Sized s → n ≤ max_nodes
node_most s n e z = omega (arith, leb-true _ _ e)

pub held_most : (s : Settings) (n : ℕ) → leb n s.levels_taken ≡ true → Sized s → n ≤ most_levels
held_most s n e z = omega (arith, leb-true _ _ e)

-- a node in hand
module _ (s : Settings) (held : ℕ) where
  in_hand_one : in_hand held s.nodes_taken ≡ true → 1 ≤ held
  unfolding in_hand
  in_hand_one e = leb-true _ _ (both_left _ _ e)

  in_hand_less : in_hand held s.nodes_taken ≡ true → Sized s → held - 1 ≤ 4096
  unfolding in_hand
  in_hand_less e z = omega (arith, node_most s held (both_right (leb 1 held) _ e) z)

module _ (s : Settings) (h : Head) {r : Bool} where
  -- the level is taken: Put; Append, Close, SetClose
  pub picks_most : (w : ℕ) (levels : List ℕ) → r ≡ picks_with w s h levels → r ≡ true → Sized s → h.level ≤ most_levels
  unfolding picks_with picks_in
  picks_most w levels a e z = level_most s h.level (both_left _ _ (both_left _ (in_hand h.held_node s.nodes_taken) (via a e))) z

  pub stands_most : (held taken : ℕ) → r ≡ stands_with s h held taken → r ≡ true → Sized s → h.level ≤ most_levels
  unfolding stands_with stands_at
  stands_most held taken a e z = level_most s h.level (both_left _ _ (both_left _ (in_hand held taken) (via a e))) z

  -- a node in hand: Put; Append
  pub picks_one : (w : ℕ) (levels : List ℕ) → r ≡ picks_with w s h levels → r ≡ true → 1 ≤ h.held_node
  unfolding picks_with
  picks_one w levels a e = in_hand_one s h.held_node (both_right (picks_in w s h.level levels) _ (via a e))

  pub picks_less : (w : ℕ) (levels : List ℕ) → r ≡ picks_with w s h levels → r ≡ true → Sized s → h.held_node - 1 ≤ max_nodes
  unfolding picks_with
  picks_less w levels a e z = in_hand_less s h.held_node (both_right (picks_in w s h.level levels) _ (via a e)) z

  pub node_one : r ≡ stands_with s h h.held_node s.nodes_taken → r ≡ true → 1 ≤ h.held_node
  unfolding stands_with
  node_one a e = in_hand_one s h.held_node (both_right (stands_at s h) _ (via a e))

  pub node_less : r ≡ stands_with s h h.held_node s.nodes_taken → r ≡ true → Sized s → h.held_node - 1 ≤ max_nodes
  unfolding stands_with
  node_less a e z = in_hand_less s h.held_node (both_right (stands_at s h) _ (via a e)) z

  -- a level in hand: Close, SetClose
  pub level_one : r ≡ stands_with s h h.held_level s.levels_taken → r ≡ true → 1 ≤ h.held_level
  unfolding stands_with in_hand
  level_one a e = leb-true _ _ (both_left _ _ (both_right (stands_at s h) _ (via a e)))

  pub level_less : r ≡ stands_with s h h.held_level s.levels_taken → r ≡ true → Sized s → h.held_level - 1 ≤ most_levels
  unfolding stands_with in_hand
  level_less a e z = omega (arith, held_most s h.held_level (both_right (leb 1 h.held_level) _ (both_right (stands_at s h) _ (via a e))) z)

  -- a level is taken: Level, SetLevel
  pub takes_held_level : (w : ℕ) (levels : List ℕ) → r ≡ takes_level w s h levels → r ≡ true → Sized s → h.held_level ≤ most_levels
  unfolding takes_level spare
  takes_held_level w levels a e z =
      held_most s h.held_level (both_left _ _ (both_right (level_taken s h.level) _ (via a e))) z

  pub takes_deep : (w : ℕ) (levels : List ℕ) → r ≡ takes_level w s h levels → r ≡ true → DigitWidth w → depth_at w levels h.level ≤ most_depth
  unfolding takes_level level_left
  takes_deep w levels a e v =
      let b = both_right (spare h.held_level s.levels_taken) _ (both_right (level_taken s h.level) _ (via a e)) in
      omega (arith, leb-true _ _ (both_left _ _ b), depths_most v)
