-- What the words reach from the root is what the world has published and placed.
-- Relies on what the words show and on the theory's own reached.
use Prim.Native.Nat.{ℕ, ◌*◌, ◌-◌, ◌/◌, ◌≤◌, ◌<◌}
use mathlib.Core.Path.{◌≡◌, refl, sym, ap, ◌∙◌}
use mathlib.Core.Logic.{◌≢◌}
use mathlib.Core.Bool.{true}
use native.Mathlib.Omega.{arith}
use native.Mathlib.Nat.{mul-le-mul}
use Rattle.words.specs.Digits.{depths}
use Rattle.settings.specs.Sizes.{level_count}
use Rattle.settings.specs.declared.Settings.{Settings}
use Rattle.areas.specs.Memory.{Memory, level_ref, node_ref, none, previous_at, ref_taken}
use Rattle.rules.specs.Reached.{Reached, root, by_entry, by_next, by_previous}
use Rattle.trie.proofs.Tree.{Published}
use Rattle.trie.proofs.World.{Placed, Structure}
use Rattle.trie.proofs.Reached as theory
use Rattle.settings.proofs.Laws.{ranges}
use Rattle.rules.proofs.Dims.{depths-le}
use Rattle.rules.proofs.Invariant.{WorldOf, Table}
use Rattle.rules.proofs.Reading.{not_free, level_room, next_reads, previous_reads, real_taken}

-- there are fewer levels than a word has numbers
level-count-le : {w : ℕ} {s₀ s : Settings} {m : Memory} {W : WorldOf w s₀} → Table w s₀ s m W → level_count w s₀ < none
unfolding level_count
level-count-le {w} {s₀} T =
    let r = ranges s₀ T.ranges in
    let d = depths-le w in
    let q : (depths w - 1) * (s₀.nodes / s₀.limit) ≤ 23 * 4096 = let e : depths w - 1 ≤ 23 = omega arith in mul-le-mul e r.quotient in
    omega arith

module _ {w : ℕ} {s₀ s : Settings} {m : Memory} {W : WorldOf w s₀} (T : Table w s₀ s m W) (S : Structure W) (top : W.tree.prev 0 ≡ none) where
  -- a reference of one kind is not of the other
  level_of_lem : {g : ℕ} → theory.Real W (level_ref g) → Published W.tree g
  level_of_lem {g} (theory.a_level h e p) = let q : h ≡ g = omega (arith, e) in rw q at p
  level_of_lem {g} (theory.a_node n e p) = absurd (omega (arith, e))

  node_of : {n : ℕ} → theory.Real W (node_ref n) → Placed W n
  node_of {n} (theory.a_level h e p) = absurd (omega (arith, e))
  node_of {n} (theory.a_node k e p) = let q : k ≡ n = omega (arith, e) in rw q at p

  -- the previous word of a published level is "none" at the root only
  not_root : (g : ℕ) → Published W.tree g → previous_at w m.levels g ≢ none → g ≢ 0
  not_root g p h e = h (previous_reads T g (not_free p) ∙ ap W.tree.prev e ∙ top)

  -- a level's number is far below "none"
  not_none : (g : ℕ) → Published W.tree g → g ≢ none
  not_none g p e = let h = level_room T g (not_free p) in let l = level-count-le T in omega arith

  to_words : {r : ℕ} → theory.Reached W r → Reached w m r
  to_words (theory.root e) = root e
  to_words (theory.by_entry g e l q k) =
      let p = level_of_lem (theory.reached_real S k) in
      by_entry g e l (q ∙ sym (T.shows.entry_is g e (level_room T g (not_free p)) l)) (to_words k)
  to_words (theory.by_next n q k) =
      let p = node_of (theory.reached_real S k) in
      by_next n (q ∙ sym (next_reads T n (not_free p))) (to_words k)
  to_words (theory.by_previous g z q k) =
      let p = level_of_lem (theory.reached_real S k) in
      let up = previous_reads T g (not_free p) in
      by_previous g (λ e. not_none (W.tree.prev g) (S.tree_ok.child g p z).parent (sym up ∙ e)) (q ∙ ap level_ref (sym up)) (to_words k)

  to_world : {r : ℕ} → Reached w m r → theory.Reached W r
  to_world (root e) = theory.root e
  to_world (by_entry g e l q k) =
      let t = to_world k in
      let p = level_of_lem (theory.reached_real S t) in
      theory.by_entry g e l (q ∙ T.shows.entry_is g e (level_room T g (not_free p)) l) t
  to_world (by_next i q k) =
      let t = to_world k in
      let p = node_of (theory.reached_real S t) in
      theory.by_next i (q ∙ next_reads T i (not_free p)) t
  to_world (by_previous g h q k) =
      let t = to_world k in
      let p = level_of_lem (theory.reached_real S t) in
      theory.by_previous g (not_root g p h) (q ∙ ap level_ref (previous_reads T g (not_free p))) t

  -- the reached nodes are the placed ones
  pub reached_placed : (n : ℕ) → Reached w m (node_ref n) → Placed W n
  reached_placed n r = node_of (theory.reached_real S (to_world r))

  pub placed_reached : (n : ℕ) → Placed W n → Reached w m (node_ref n)
  placed_reached n p = to_words (theory.node_reached S n p)

  -- the reached levels are the published ones
  pub reached_published : (g : ℕ) → Reached w m (level_ref g) → Published W.tree g
  reached_published g r = level_of_lem (theory.reached_real S (to_world r))

  pub published_reached : (g : ℕ) → Published W.tree g → Reached w m (level_ref g)
  published_reached g p = to_words (theory.level_reached S (W.tree.depth g) refl p)

  -- what is reached is taken
  pub reached_taken : {r : ℕ} → Reached w m r → ref_taken s r ≡ true
  reached_taken R = real_taken T (theory.reached_real S (to_world R))
