-- Where a worker stands, in a search or while a Move sets a node: the cell there, its word, and the parts of question 6 on them.
-- Relies on what a turn reads and on the theory's places.
use Prim.Native.Nat.{ℕ, ◌≤◌, ◌<◌}
use mathlib.Core.Path.{◌≡◌, sym, ap, ap₂, ◌∙◌}
use mathlib.Core.Logic.{◌≢◌}
use mathlib.Core.Bool.{Bool, true, false}
use mathlib.Core.List.{List}
use native.Mathlib.Omega.{arith}
use lib.Dec.{eqb, ltb}
use borrow.Author.Tests.{eqb-true, eqb-false, ltb-true, ltb-false}
use Rattle.words.proofs.Choice.{pick-both, both_true}
use Rattle.settings.specs.Sizes.{level_count}
use Rattle.settings.specs.declared.Settings.{Settings}
use Rattle.areas.specs.Memory.{Memory, level_ref, cell_at, depth_at, entry_cell, level_taken, node_taken, ref_taken}
use Rattle.areas.specs.declared.Cell.{Cell}
use Rattle.areas.specs.declared.Cell.TheVariants.{Next}
use Rattle.record.specs.declared.Kind.{Kind}
use Rattle.record.specs.declared.Head.{Head}
use Rattle.record.specs.Layout.{Record}
use Rattle.rules.specs.Steps.{expected, by_count}
use Rattle.rules.specs.Asked.{picks_in, stands_at, exchanges}
use Rattle.trie.proofs.Digits.{digit, digit_lt, Dims}
use Rattle.trie.proofs.Tree.{Published}
use Rattle.trie.proofs.World.{World, Structure}
use Rattle.trie.proofs.Stand.{Pos, at_entry, at_node, cell_of, passed, Stand, on_entry, on_node, stand_placed, Free, exchange, Met, meets}
use Rattle.trie.proofs.Search.{word}
use Rattle.trie.proofs.Reached.{Real, real_entry, real_next}
use Rattle.trie.proofs.Whole.{Worker}
use Rattle.rules.proofs.Dims.{dims}
use Rattle.rules.proofs.Words.{cell_in, Taken, shows_at}
use Rattle.rules.proofs.Matches.{Place, entry, node}
use Rattle.rules.proofs.Invariant.{WorldOf, At}
use Rattle.rules.proofs.Reading.{not_free, level-taken, node_taken_lem, depth_reads, entry_cell_lem, entry_taken, next_taken, picks_in_lem, real_taken}

-- The head h of a worker at level H and place x that goes by the pixel K, which it reads as p; P holds of the nodes that it passed.
pub record Standing {δ : Dims} (W : World δ) (P : ℕ → Type 0) (h : Head) (p K H : ℕ) (x : Pos) : Type 0 where
  pub level_is : h.level ≡ H
  pub pixel_is : p ≡ K
  pub place : Place h x
  pub published : Published W.tree H
  pub stand : Stand W P H (digit δ K (W.tree.depth H)) x

-- the cell there: the entry that the pixel picks, or the node's next
abbrev pub spot : ℕ → Head → ℕ → List ℕ → Pos → Cell
spot w h p levels at_entry = entry_cell w levels h.level p
spot w h p levels (at_node R C) = Next h.node

-- the head's numbers at a node
pub node_is : {h : Head} {R C : ℕ} → Place h (at_node R C) → h.node ≡ R
node_is (node n c) = n

pub count_is : {h : Head} {R C : ℕ} → Place h (at_node R C) → h.count ≡ C
count_is (node n c) = c

-- the word in the cell at which a worker stands is a reference to something published or placed
cell_real : {δ : Dims} {W : World δ} (S : Structure W) {P : ℕ → Type 0} {H e : ℕ} {x : Pos} → Published W.tree H → e < δ.base → Stand W P H e x → Real W (W.cell (cell_of H e x))
cell_real S {H = H} {e} p l on_entry = real_entry S H e p l
cell_real S p l (on_node {R} k) = real_next S R (stand_placed S (on_node k))

module _ {w : ℕ} {s₀ s : Settings} {m : Memory} {W : WorldOf w s₀} {ws : ℕ → Worker} {i : ℕ} {r : Record} (a : At w s₀ s m W ws i r) {P : ℕ → Type 0} {p K H : ℕ} {x : Pos} (o : Standing W P r.head p K H x) where
  -- the level is taken, an entry is picked in it, and its depth is read
  pub level_ok : level_taken s r.head.level ≡ true
  level_ok = ap (level_taken s) o.level_is ∙ level-taken a.table H (not_free o.published)

  pub picks_ok : picks_in w s r.head.level m.levels ≡ true
  picks_ok = ap (λ g. picks_in w s g m.levels) o.level_is ∙ picks_in_lem a.table a.inv.structure H o.published

  pub depth_here : depth_at w m.levels r.head.level ≡ W.tree.depth H
  depth_here = ap (depth_at w m.levels) o.level_is ∙ depth_reads a.table H (not_free o.published)

  -- the cell, and the word there
  pub spot_cell : spot w r.head p m.levels x ≡ cell_in (cell_of H (digit (dims w s₀.limit) K (W.tree.depth H)) x)
  spot_cell = by o.place
    where
      by : {x : Pos} → Place r.head x → spot w r.head p m.levels x ≡ cell_in (cell_of H (digit (dims w s₀.limit) K (W.tree.depth H)) x)
      by entry = ap₂ (entry_cell w m.levels) o.level_is o.pixel_is ∙ entry_cell_lem a.table H K (not_free o.published)
      by (node n c) = ap Next n

  pub spot-taken : Taken w s₀.nodes (level_count w s₀) (cell_of H (digit (dims w s₀.limit) K (W.tree.depth H)) x)
  spot-taken = by o.stand
    where
      by : {x : Pos} → Stand W P H (digit (dims w s₀.limit) K (W.tree.depth H)) x → Taken w s₀.nodes (level_count w s₀) (cell_of H (digit (dims w s₀.limit) K (W.tree.depth H)) x)
      by on_entry = entry_taken a.table H K (not_free o.published)
      by (on_node {R} k) = next_taken a.table R (not_free (stand_placed a.inv.structure (on_node k)))

  pub spot-reads : cell_at w m (spot w r.head p m.levels x) ≡ word W K H x
  spot-reads = ap (cell_at w m) spot_cell ∙ shows_at a.table.shows _ spot-taken

  pub spot_ok : ref_taken s (cell_at w m (spot w r.head p m.levels x)) ≡ true
  spot_ok = ap (ref_taken s) spot-reads ∙ real_taken a.table (cell_real a.inv.structure o.published (digit_lt (dims w s₀.limit) K (W.tree.depth H)) o.stand)

  -- the level stands there, or not
  pub here_reads : expected r.head (cell_at w m (spot w r.head p m.levels x)) ≡ true → word W K H x ≡ level_ref H
  unfolding expected
  here_reads e = sym spot-reads ∙ eqb-true _ _ e ∙ ap level_ref o.level_is

  pub other_reads : expected r.head (cell_at w m (spot w r.head p m.levels x)) ≡ false → word W K H x ≢ level_ref H
  unfolding expected
  other_reads e y = eqb-false _ _ e (spot-reads ∙ y ∙ ap level_ref (sym o.level_is))

  -- question 6 of an exchange: there is room where it is done, and the word that it met is asked where it fails
  pub exchanges_ok : (room : Bool) (asks : ℕ → Bool) → room ≡ true → (word W K H x ≢ level_ref H → asks (cell_at w m (spot w r.head p m.levels x)) ≡ true) → exchanges w r.head (spot w r.head p m.levels x) room asks m ≡ true
  unfolding exchanges
  exchanges_ok room asks y f = pick-both (λ b. b ≡ true) (expected r.head (cell_at w m (spot w r.head p m.levels x))) (λ e. y) (λ e. f (other_reads e))

  -- if it does, the worker stands at the end of an open chain, and has passed no more nodes than the limit; else the word leads on
  pub ends-here : word W K H x ≡ level_ref H → Free W P H (digit (dims w s₀.limit) K (W.tree.depth H)) x
  ends-here q = exchange a.inv.structure o.published (digit_lt (dims w s₀.limit) K (W.tree.depth H)) o.stand q

  pub not-past : word W K H x ≡ level_ref H → passed x ≤ s₀.limit
  not-past q =
      let short = (a.inv.structure.slot H (digit (dims w s₀.limit) K (W.tree.depth H)) o.published (digit_lt (dims w s₀.limit) K (W.tree.depth H))).short in
      omega (arith, (ends-here q).count)

  pub leads_on : word W K H x ≢ level_ref H → Met W P H (digit (dims w s₀.limit) K (W.tree.depth H)) x (word W K H x)
  leads_on y = meets a.inv.structure o.published (digit_lt (dims w s₀.limit) K (W.tree.depth H)) o.stand y

module _ {w : ℕ} {s₀ s : Settings} {m : Memory} {W : WorldOf w s₀} {ws : ℕ → Worker} {i : ℕ} {r : Record} (a : At w s₀ s m W ws i r) {P : ℕ → Type 0} {p K H R C : ℕ} (o : Standing W P r.head p K H (at_node R C)) where
  -- the node is taken too
  pub stands_ok : stands_at s r.head ≡ true
  unfolding stands_at
  stands_ok = both_true (level_ok a o) (ap (node_taken s) (node_is o.place) ∙ node_taken_lem a.table R (not_free (stand_placed a.inv.structure o.stand)))

  -- by the count of a node whose next is the level: below the limit or at it
  pub by_count_lem : (Q : Kind → Type 0) (below full past : Kind) → word W K H (at_node R C) ≡ level_ref H → (C < s₀.limit → Q below) → (C ≡ s₀.limit → Q full) → Q (by_count s r.head.count below full past)
  unfolding by_count
  by_count_lem Q below full past q f g =
      let n = count_is o.place in
      let l = a.table.same.limit_is in
      let c = not-past a o q in
      pick-both Q (ltb r.head.count s.limit)
      (λ y. f (omega (arith, ltb-true)))
      (λ y. pick-both Q (eqb r.head.count s.limit) (λ u. g (sym n ∙ eqb-true _ _ u ∙ l)) (λ u. absurd (eqb-false r.head.count s.limit u (omega (arith, ltb-false)))))
