-- A worker's record shows the theory's worker: the kind and the numbers of the head, and the Moves.
-- Relies on the record's layout and on the theory's phases and frames.
use Prim.Native.Nat.{ℕ, suc, ◌≤◌}
use mathlib.Core.Path.{◌≡◌}
use mathlib.Core.List.{List, [], ◌∷◌}
use lib.ListN.{length, take}
use Rattle.settings.specs.Sizes.{max_limit}
use Rattle.record.specs.declared.Kind.{Kind}
use Rattle.record.specs.declared.Kind.TheVariants.{Idle, Look, Take, Put, Read, Tail, TakeTail, Append, Level, Close, Follow, ChainHead, ChainNext, SetNext, SetLook, SetPut, SetRead, SetTail, SetAppend, SetLevel, SetClose, SetFollow, MoveEnd, Unknown}
use Rattle.record.specs.declared.Head.{Head}
use Rattle.record.specs.declared.Move.{Move}
use Rattle.record.specs.Layout.{Record}
use Rattle.trie.proofs.Stand.{Pos, at_entry, at_node}
use Rattle.trie.proofs.Search.{Phase, peek, fetch, put, again, level, shut}
use Rattle.trie.proofs.Move.{Frame, Step, gather, aim, set, finish}
use Rattle.trie.proofs.Whole.{Act, idle, searching, moving, Worker}

-- one of two kinds: at an entry, or at a node
abbrev pub by_pos : Kind → Kind → Pos → Kind
by_pos a b at_entry = a
by_pos a b (at_node R C) = b

-- the kinds of a search and of setting a node, by phase
abbrev pub search_kind : Phase → Kind
search_kind (peek H x) = by_pos Look Tail x
search_kind (fetch H x) = by_pos Take TakeTail x
search_kind (put H x n) = by_pos Put Append x
search_kind (again H x) = by_pos Read Follow x
search_kind (level H x) = Level
search_kind (shut H x G) = Close

abbrev pub set_kind : Phase → Kind
set_kind (peek H x) = by_pos SetLook SetTail x
set_kind (fetch H x) = Unknown
set_kind (put H x n) = by_pos SetPut SetAppend x
set_kind (again H x) = by_pos SetRead SetFollow x
set_kind (level H x) = SetLevel
set_kind (shut H x G) = SetClose

-- a Move reads the entry first, and then each node's next
abbrev pub gather_kind : List ℕ → Kind
gather_kind [] = ChainHead
gather_kind (n ∷ ns) = ChainNext

abbrev pub step_kind : Frame → Step → Kind
step_kind f gather = gather_kind f.nodes
step_kind f (aim N T) = SetNext
step_kind f (set N p) = set_kind p
step_kind f finish = MoveEnd

-- the head's numbers of a place: R and its count
pub data Place (h : Head) : Pos → Type 0 where
  entry : Place h at_entry
  node : {R C : ℕ} → h.node ≡ R → h.count ≡ C → Place h (at_node R C)

-- the head's numbers of a phase; Level and Close stand at a node
pub data Phased (h : Head) : Phase → Type 0 where
  peeks : {H : ℕ} {x : Pos} → h.level ≡ H → Place h x → Phased h (peek H x)
  fetches : {H : ℕ} {x : Pos} → h.level ≡ H → Place h x → Phased h (fetch H x)
  puts : {H n : ℕ} {x : Pos} → h.level ≡ H → Place h x → Phased h (put H x n)
  agains : {H : ℕ} {x : Pos} → h.level ≡ H → Place h x → Phased h (again H x)
  levels : {H R C : ℕ} → h.level ≡ H → Place h (at_node R C) → Phased h (level H (at_node R C))
  shuts : {H R C G : ℕ} → h.level ≡ H → Place h (at_node R C) → h.held_level ≡ suc G → Phased h (shut H (at_node R C) G)

-- a Move shows a frame; the frame's key is not in the record
pub record Framed (v : Move) (f : Frame) : Type 0 where
  pub home_is : v.home ≡ f.home
  pub child_is : v.child ≡ f.child
  pub nodes_are : take v.count v.nodes ≡ f.nodes
  pub count-le : v.count ≤ max_limit
  pub sized : length v.nodes ≡ max_limit

pub data Frames : List Move → List Frame → Type 0 where
  none : Frames [] []
  more : {v : Move} {f : Frame} {vs : List Move} {fs : List Frame} → Framed v f → Frames vs fs → Frames (v ∷ vs) (f ∷ fs)

-- the head's numbers of a step of a Move
pub data Stepped (h : Head) : Step → Type 0 where
  gathers : Stepped h gather
  aims : {N T : ℕ} → h.level ≡ T → Stepped h (aim N T)
  sets : {N : ℕ} {p : Phase} → Phased h p → Stepped h (set N p)
  finishes : Stepped h finish

-- what the record says that the worker does
pub data Doing (h : Head) (vs : List Move) : Act → Type 0 where
  rests : h.kind ≡ Idle → vs ≡ [] → Doing h vs idle
  searches : {p : Phase} → h.kind ≡ search_kind p → vs ≡ [] → Phased h p → Doing h vs (searching p)
  moves : {f : Frame} {fs : List Frame} {s : Step} → h.kind ≡ step_kind f s → Frames vs (f ∷ fs) → Stepped h s → Doing h vs (moving f fs s)

pub record Matches (r : Record) (c : Worker) : Type 0 where
  pub pixel_is : r.head.pixel ≡ c.key
  pub node_is : r.head.held_node ≡ c.node
  pub level_is : r.head.held_level ≡ c.level
  pub doing : Doing r.head r.moves c.act
