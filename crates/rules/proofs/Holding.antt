-- What a worker holds is taken, and a level is left for one that holds none: the parts of question 6 on nodes and levels in hand or spare.
-- Relies on the theory's owners and count of levels, and on the counters.
use Prim.Native.Nat.{ℕ, zero, suc, ◌≤◌, ◌<◌}
use mathlib.Core.Path.{◌≡◌, refl, sym, ◌∙◌}
use mathlib.Core.Logic.{◌≢◌}
use mathlib.Core.Bool.{true}
use native.Mathlib.Omega.{arith}
use borrow.Author.Tests.{le-leb}
use Rattle.words.proofs.Choice.{both_true}
use Rattle.settings.specs.Sizes.{level_count}
use Rattle.settings.specs.declared.Settings.{Settings}
use Rattle.areas.specs.Memory.{Memory}
use Rattle.record.specs.Layout.{Record}
use Rattle.rules.specs.Asked.{in_hand, spare}
use Rattle.trie.proofs.Fresh.{owned_taken}
use Rattle.trie.proofs.Levels.{one_left}
use Rattle.trie.proofs.Whole.{Worker, owner}
use Rattle.rules.proofs.Invariant.{WorldOf, At}
use Rattle.rules.proofs.Reading.{not_free, node_room}
use Rattle.rules.proofs.Turned.{limit_pos}

-- a number + 1 that is held, or 0, is at most the counter
held_le : (held taken : ℕ) → ((n : ℕ) → held ≡ suc n → n < taken) → held ≤ taken
held_le zero taken f = omega arith
held_le (suc n) taken f = let l = f n refl in omega arith

module _ {w : ℕ} {s₀ s : Settings} {m : Memory} {W : WorldOf w s₀} {ws : ℕ → Worker} {i : ℕ} {r : Record} (a : At w s₀ s m W ws i r) where
  -- what the worker holds is its own, and not free
  pub node_owner_lem : {n : ℕ} → (ws i).node ≡ suc n → W.node_owner n ≡ owner i
  node_owner_lem {n} e = ((a.inv.each i).holds_node n).1 e

  pub node_owned : {n : ℕ} → (ws i).node ≡ suc n → W.node_owner n ≢ 1
  node_owned e y = let z = node_owner_lem e in omega arith

  pub level-owner : {g : ℕ} → (ws i).level ≡ suc g → W.tree.level_owner g ≡ owner i
  level-owner {g} e = ((a.inv.each i).holds_level g).1 e

  pub level_owned : {g : ℕ} → (ws i).level ≡ suc g → W.tree.level_owner g ≢ 1
  level_owned e y = let z = level-owner e in omega arith

  node_le : r.head.held_node ≤ s.nodes_taken
  node_le = held_le r.head.held_node s.nodes_taken (λ n e. owned_taken a.table.nodes_fresh n (node_owned (sym a.matches.node_is ∙ e)))

  level-le : r.head.held_level ≤ s.levels_taken
  level-le = held_le r.head.held_level s.levels_taken (λ n e. owned_taken a.table.levels_fresh n (level_owned (sym a.matches.level_is ∙ e)))

  -- a spare one, if any
  pub spare_node_ok : spare r.head.held_node s.nodes_taken ≡ true
  unfolding spare
  spare_node_ok = le-leb _ _ node_le

  pub spare-level_ok : spare r.head.held_level s.levels_taken ≡ true
  unfolding spare
  spare-level_ok = le-leb _ _ level-le

  -- one in hand
  pub node_hand_ok : {n : ℕ} → (ws i).node ≡ suc n → in_hand r.head.held_node s.nodes_taken ≡ true
  unfolding in_hand
  node_hand_ok e = let h = a.matches.node_is ∙ e in both_true (le-leb 1 r.head.held_node (omega arith)) (le-leb _ _ node_le)

  pub level_hand_ok : {g : ℕ} → (ws i).level ≡ suc g → in_hand r.head.held_level s.levels_taken ≡ true
  unfolding in_hand
  level_hand_ok e = let h = a.matches.level_is ∙ e in both_true (le-leb 1 r.head.held_level (omega arith)) (le-leb _ _ level-le)

  -- a worker that holds no level finds one left
  pub level-left : (ws i).level ≡ 0 → s.levels_taken < level_count w s₀
  unfolding level_count
  level-left z = one_left a.levels i a.here s₀.nodes (limit_pos a) (λ n p. node_room a.table n (not_free p)) z

  pub same_count : level_count w s ≡ level_count w s₀
  unfolding level_count
  same_count = let e = a.table.same in rw (e.nodes_is, e.limit_is, e.workers_is) refl
