-- What a turn reads: the words of a table are those of its world, what is published or placed is taken, and the parts of question 6 hold of it.
-- Relies on what the words show and on the theory's structure.
use Prim.Native.Nat.{ℕ, zero, suc, ◌+◌, ◌-◌, ◌%◌, ◌≤◌, ◌<◌}
use mathlib.Core.Path.{◌≡◌, refl, sym, ap, ◌∙◌}
use mathlib.Core.Logic.{◌≢◌}
use mathlib.Core.Bool.{true, false}
use native.Mathlib.Decide.{ℕ_discrete}
use native.Mathlib.Omega.{arith}
use lib.Dec.{eqb}
use borrow.Author.Tests.{eq-eqb, ne_eqb, lt-ltb, le-leb}
use Rattle.words.specs.Choice.{pick}
use Rattle.words.specs.Digits.{depths, max_pixel}
use Rattle.words.specs.Digits as words
use Rattle.words.proofs.Choice.{pick_true, pick_false, both_true}
use Rattle.settings.specs.Sizes.{level_count}
use Rattle.settings.specs.declared.Settings.{Settings}
use Rattle.areas.specs.Memory.{Memory, level_ref, node_ref, is_node, named, pixel_at, next_at, depth_at, previous_at, entry_cell, level_taken, node_taken, ref_taken}
use Rattle.areas.specs.declared.Cell.TheVariants.{Entry}
use Rattle.rules.specs.Steps.{child_of, back_meets}
use Rattle.rules.specs.Asked.{picks_in, pixel_fits}
use Rattle.trie.proofs.Digits.{digit, digit_lt}
use Rattle.trie.proofs.Update as theory
use Rattle.trie.proofs.Update.{ent, nxt}
use Rattle.trie.proofs.Tree.{Published, Inside, here, up, inside_pub, inside_depth, closed_depth, not_inside}
use Rattle.trie.proofs.World.{Placed, Structure}
use Rattle.trie.proofs.Fresh.{owned_taken}
use Rattle.trie.proofs.Read.{go_back}
use Rattle.trie.proofs.Reached.{Real, a_level, a_node}
use Rattle.rules.proofs.Dims.{dims, digit_is}
use Rattle.rules.proofs.Words.{cell_in, Taken}
use Rattle.rules.proofs.Invariant.{WorldOf, Table}

-- what is published or placed is not free
pub not_free : {x : ℕ} → x ≡ 0 → x ≢ 1
not_free e q = omega arith

-- references

pub node_ref_lem : (i : ℕ) → is_node (node_ref i) ≡ true
unfolding is_node
node_ref_lem i = eq-eqb (node_ref i % 2) 1 (omega arith)

pub level_ref_lem : (g : ℕ) → is_node (level_ref g) ≡ false
unfolding is_node
level_ref_lem g = ne_eqb (level_ref g % 2) 1 (λ e. omega arith)

pub named_node : (i : ℕ) → named (node_ref i) ≡ i
unfolding named
named_node i = omega arith

pub named-level : (g : ℕ) → named (level_ref g) ≡ g
unfolding named
named-level g = omega arith

module _ {w : ℕ} {s₀ s : Settings} {m : Memory} {W : WorldOf w s₀} (T : Table w s₀ s m W) where
  -- what is not free lies below the counters
  pub level_below : (g : ℕ) → W.tree.level_owner g ≢ 1 → g < s.levels_taken
  level_below g h = owned_taken T.levels_fresh g h

  pub node_below : (n : ℕ) → W.node_owner n ≢ 1 → n < s.nodes_taken
  node_below n h = owned_taken T.nodes_fresh n h

  -- the same as tests, and that it has room
  pub level-taken : (g : ℕ) → W.tree.level_owner g ≢ 1 → level_taken s g ≡ true
  unfolding level_taken
  level-taken g h = lt-ltb _ _ (level_below g h)

  pub level_room : (g : ℕ) → W.tree.level_owner g ≢ 1 → g < level_count w s₀
  level_room g h = omega (arith, level_below g h, T.levels_le)

  pub node_taken_lem : (n : ℕ) → W.node_owner n ≢ 1 → node_taken s n ≡ true
  unfolding node_taken
  node_taken_lem n h = lt-ltb _ _ (node_below n h)

  pub node_room : (n : ℕ) → W.node_owner n ≢ 1 → n < s₀.nodes
  node_room n h = omega (arith, node_below n h, T.nodes_le)

  -- published and placed
  pub level_ref_taken : (g : ℕ) → Published W.tree g → ref_taken s (level_ref g) ≡ true
  unfolding ref_taken
  level_ref_taken g p = pick_false _ _ _ (level_ref_lem g) ∙ ap (level_taken s) (named-level g) ∙ level-taken g (λ e. omega arith)

  pub node_ref_taken : (n : ℕ) → Placed W n → ref_taken s (node_ref n) ≡ true
  unfolding ref_taken
  node_ref_taken n p = pick_true _ _ _ (node_ref_lem n) ∙ ap (node_taken s) (named_node n) ∙ node_taken_lem n (λ e. omega arith)

  pub pixel_reads : (n : ℕ) → W.node_owner n ≢ 1 → pixel_at m.nodes n ≡ W.pixel n
  pixel_reads n h = T.shows.pixel_is n (node_room n h)

  pub next_reads : (n : ℕ) → W.node_owner n ≢ 1 → next_at m.nodes n ≡ W.cell (nxt n)
  next_reads n h = T.shows.next_is n (node_room n h)

  pub depth_reads : (g : ℕ) → W.tree.level_owner g ≢ 1 → depth_at w m.levels g ≡ W.tree.depth g
  depth_reads g h = T.shows.depth_is g (level_room g h)

  pub previous_reads : (g : ℕ) → W.tree.level_owner g ≢ 1 → previous_at w m.levels g ≡ W.tree.prev g
  previous_reads g h = T.shows.prev_is g (level_room g h)

  -- the entry that pixel number p picks in a level
  pub entry_cell_lem : (g p : ℕ) → W.tree.level_owner g ≢ 1 → entry_cell w m.levels g p ≡ cell_in (ent g (digit (dims w s₀.limit) p (W.tree.depth g)))
  unfolding entry_cell
  entry_cell_lem g p h = ap (Entry g) (ap (words.digit w p) (depth_reads g h) ∙ digit_is w s₀.limit p (W.tree.depth g))

  pub entry_taken : (g p : ℕ) → W.tree.level_owner g ≢ 1 → Taken w s₀.nodes (level_count w s₀) (ent g (digit (dims w s₀.limit) p (W.tree.depth g)))
  entry_taken g p h = (level_room g h, digit_lt (dims w s₀.limit) p (W.tree.depth g))

  pub next_taken : (n : ℕ) → W.node_owner n ≢ 1 → Taken w s₀.nodes (level_count w s₀) (nxt n)
  next_taken n h = node_room n h

  -- the parts of question 6
  pub picks_in_lem : (S : Structure W) (g : ℕ) → Published W.tree g → picks_in w s g m.levels ≡ true
  unfolding picks_in
  picks_in_lem S g p =
      let b = S.tree_ok.bounded g p in
      let d = depth_reads g (λ e. omega arith) in
      both_true (level-taken g (λ e. omega arith)) (le-leb (depth_at w m.levels g) (depths w - 1) (omega arith))

  pub pixel_le : (S : Structure W) (n : ℕ) → Placed W n → W.pixel n ≤ max_pixel
  pixel_le S n p = let (g, e, i) = S.in_chain n p in omega (arith, (S.homed n g e i).small, T.width.all)

  pub pixel_fits_lem : (S : Structure W) (n : ℕ) → Placed W n → pixel_fits s n m.nodes ≡ true
  unfolding pixel_fits
  pixel_fits_lem S n p = both_true (node_taken_lem n (λ e. omega arith)) (le-leb (pixel_at m.nodes n) max_pixel (omega (arith, pixel_le S n p, pixel_reads n (λ e. omega arith))))

  -- going back: from a published level t inside the child c of H, the child is found within depths - 1 previous words, each of a taken level
  pub child_of_lem : (n H t : ℕ) → child_of w m.levels n H t ≡ go_back (previous_at w m.levels) n H t
  unfolding child_of go_back
  child_of_lem zero H t = refl
  child_of_lem (suc n) H t = by (ℕ_discrete (previous_at w m.levels t) H) (child_of_lem n H (previous_at w m.levels t))
    where
      by : (d : Dec (previous_at w m.levels t ≡ H)) → child_of w m.levels n H (previous_at w m.levels t) ≡ go_back (previous_at w m.levels) n H (previous_at w m.levels t) → pick (eqb (previous_at w m.levels t) H) t (child_of w m.levels n H (previous_at w m.levels t)) ≡ theory.pick d t (go_back (previous_at w m.levels) n H (previous_at w m.levels t))
      by (yes e) q = pick_true _ _ _ (eq-eqb _ _ e) ∙ sym (theory.pick_yes (yes e) _ _ e)
      by (no e) q = pick_false _ _ _ (ne_eqb _ _ e) ∙ q ∙ sym (theory.pick_no (no e) _ _ e)

  -- within n previous words, where the level is at most n deeper than H
  meets_within : (S : Structure W) (n : ℕ) {H e t : ℕ} → W.tree.into H e ≢ 0 → Inside W.tree (W.tree.into H e) t → W.tree.depth t ≤ W.tree.depth H + n → back_meets w s.levels_taken m.levels n H t ≡ true
  unfolding back_meets
  meets_within S zero {H} {e} z i h = absurd (omega (arith, inside_depth S.tree_ok i, closed_depth S.tree_ok H e z))
  meets_within S (suc n) {H} {e} {t} z (here q) h =
      let c = S.tree_ok.closed H e z in
      let r = previous_reads (W.tree.into H e) (λ x. omega (arith, c.to)) in
      pick_true _ _ _ (eq-eqb _ _ (ap (previous_at w m.levels) q ∙ r ∙ c.back))
  meets_within S (suc n) {H} {e} {t} z (up l y i) h =
      let r = previous_reads t (λ x. omega arith) in
      let k = S.tree_ok.child t l y in
      let j : Inside W.tree (W.tree.into H e) (previous_at w m.levels t) = rw r i in
      let d = ap W.tree.depth r in
      pick_false _ _ _ (ne_eqb (previous_at w m.levels t) H (λ q. not_inside S.tree_ok H e z (rw q at j)))
      ∙ both_true (lt-ltb (previous_at w m.levels t) s.levels_taken (level_below (previous_at w m.levels t) (λ x. omega (arith, ap W.tree.level_owner r, k.parent)))) (meets_within S n z j (omega (arith, k.deeper)))

  pub back_meets_lem : (S : Structure W) {H e t : ℕ} → W.tree.into H e ≢ 0 → Inside W.tree (W.tree.into H e) t → back_meets w s.levels_taken m.levels (depths w - 1) H t ≡ true
  back_meets_lem S {H} {e} {t} z i = meets_within S (depths w - 1) z i (omega (arith, S.tree_ok.bounded t (inside_pub (S.tree_ok.closed H e z).to i)))

-- what a reference to something published or placed names is taken
pub real_taken : {w : ℕ} {s₀ s : Settings} {m : Memory} {W : WorldOf w s₀} → Table w s₀ s m W → {r : ℕ} → Real W r → ref_taken s r ≡ true
real_taken {s = s} T (a_level g e p) = ap (ref_taken s) e ∙ level_ref_taken T g p
real_taken {s = s} T (a_node n e p) = ap (ref_taken s) e ∙ node_ref_taken T n p
