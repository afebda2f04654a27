-- The table's memory as functions, with the ghost state beside it, and the invariant's shared clauses.
-- Relies on Digits, Update, Lists, Chain and Tree.
use mathlib.Core.Path.{◌≡◌}
use mathlib.Core.Logic.{◌≢◌}
use mathlib.Core.List.{List, [], ◌∷◌, ◌++◌}
use Prim.Native.Nat.{ℕ, suc, ◌+◌, ◌*◌, ◌^◌, ◌≤◌, ◌<◌}
use lib.ListN.{length}
use Rattle.trie.proofs.Digits.{Dims, top}
use Rattle.trie.proofs.Update.{Cell, ent}
use Rattle.trie.proofs.Lists.{◌∈◌, NoDup}
use Rattle.trie.proofs.Chain.{level_ref, node_ref, end_cell, Links}
use Rattle.trie.proofs.Tree.{Tree, Published, TreeOk, Inside}

pub record World (δ : Dims) : Type 0 where
  pub tree : Tree δ
  pub pixel : ℕ → ℕ
  pub cell : Cell → ℕ
  -- 0: placed; 1: not taken; w + 2: held by worker w
  pub node_owner : ℕ → ℕ
  -- the nodes whose home is entry e of level g, in order
  pub chain : ℕ → ℕ → List ℕ
  -- the level of the chain that a placed node stands in
  pub home : ℕ → ℕ
  -- w + 2 while worker w moves a chain into level c
  pub mover : ℕ → ℕ
  -- the placed nodes in the order of placing
  pub book : List ℕ

abbrev pub Placed : {δ : Dims} → World δ → ℕ → Type 0
Placed w n = w.node_owner n ≡ 0

-- the chain of (g, e): its end cell, and the word there
abbrev pub last_cell : {δ : Dims} → World δ → ℕ → ℕ → Cell
last_cell w g e = end_cell (ent g e) (w.chain g e)

abbrev pub end : {δ : Dims} → World δ → ℕ → ℕ → ℕ
end w g e = w.cell (last_cell w g e)

-- n is placed in level c or deeper
pub record NodeInside {δ : Dims} (w : World δ) (c n : ℕ) : Type 0 where
  pub placed : Placed w n
  pub inside : Inside w.tree c (w.home n)

pub data RefInside {δ : Dims} (w : World δ) (c r : ℕ) : Type 0 where
  to_level_lem : (t : ℕ) → r ≡ level_ref t → Inside w.tree c t → RefInside w c r
  to_node_lem : (n : ℕ) → r ≡ node_ref n → NodeInside w c n → RefInside w c r

-- what holds of a node in the chain of (g, e)
pub record Homed {δ : Dims} (w : World δ) (n g e : ℕ) : Type 0 where
  pub level : Published w.tree g
  pub at : e < δ.base
  pub placed : Placed w n
  pub home_is : w.home n ≡ g
  pub small : w.pixel n < δ.base ^ δ.depths
  pub prefix : top δ (w.pixel n) (suc (w.tree.depth g)) ≡ w.tree.pfx g * δ.base + e

-- The chain `ns` of entry e of a published level g, with words f; R c r says that the reference r lies inside c. Over its parts, so that what an
-- effect leaves alone stays the same term.
pub record SlotAt {δ : Dims} (T : Tree δ) (R : ℕ → ℕ → Type 0) (f : Cell → ℕ) (ns : List ℕ) (g e : ℕ) : Type 0 where
  pub links : Links f (ent g e) ns
  pub short : length ns ≤ δ.limit
  pub if_open : T.into g e ≡ 0 → f (end_cell (ent g e) ns) ≡ level_ref g
  pub if_closed : T.into g e ≢ 0 → R (T.into g e) (f (end_cell (ent g e) ns))
  -- an entry that is a level is the child itself
  pub direct : (t : ℕ) → T.into g e ≢ 0 → ns ≡ [] → f (ent g e) ≡ level_ref t → t ≡ T.into g e

abbrev pub SlotOk : {δ : Dims} → World δ → ℕ → ℕ → Type 0
SlotOk w g e = SlotAt w.tree (RefInside w) w.cell (w.chain g e) g e

pub record Structure {δ : Dims} (w : World δ) : Type 0 where
  pub tree_ok : TreeOk w.tree
  pub homed : (n g e : ℕ) → n ∈ w.chain g e → Homed w n g e
  pub in_chain : (n : ℕ) → Placed w n → (g : ℕ) × (e : ℕ) × (n ∈ w.chain g e)
  pub once : (g e : ℕ) → NoDup (w.chain g e)
  pub slot : (g e : ℕ) → Published w.tree g → e < δ.base → SlotOk w g e

pub record Partition {δ : Dims} (w : World δ) : Type 0 where
  pub noted : (n : ℕ) → Placed w n → n ∈ w.book
  pub noted-placed : (n : ℕ) → n ∈ w.book → Placed w n
  pub noted_once : NoDup w.book
  pub one_node : (m n : ℕ) → Placed w m → Placed w n → w.pixel m ≡ w.pixel n → m ≡ n

-- if K is placed, then in level h or deeper
unfoldable pub Deep : {δ : Dims} → World δ → ℕ → ℕ → Type 0
Deep w K h = (n : ℕ) → Placed w n → w.pixel n ≡ K → w.tree.depth h ≤ w.tree.depth (w.home n)

-- A walk along the chain of (H, e) stands at node R, the C-th; P held of each node that it passed (that its pixel is not K; nothing in a Move).
pub data Walk {δ : Dims} (w : World δ) (P : ℕ → Type 0) (H e R C : ℕ) : Type 0 where
  along : (pre post : List ℕ) → w.chain H e ≡ pre ++ R ∷ post → C ≡ suc (length pre) → ((n : ℕ) → n ∈ pre → P n) → P R → Walk w P H e R C
  gone : w.tree.into H e ≢ 0 → NodeInside w (w.tree.into H e) R → ((n : ℕ) → n ∈ w.chain H e → P n) → Walk w P H e R C

abbrev pub Other : {δ : Dims} → World δ → ℕ → ℕ → Type 0
Other w K n = w.pixel n ≢ K
