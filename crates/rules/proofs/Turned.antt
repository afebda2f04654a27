-- A turn after which the call goes on with what the worker held: what the next record must show, and what the turn leaves, with a write or without.
-- Relies on the invariant, on what a record shows, and on the theory's turns.
use Prim.Native.Nat.{ℕ, ◌≤◌, ◌<◌}
use mathlib.Core.Path.{◌≡◌, refl, sym, ap, subst, ◌∙◌}
use mathlib.Core.Logic.{◌≢◌}
use mathlib.Core.Bool.{Bool, true}
use mathlib.Core.List.{List}
use native.Mathlib.Omega.{arith}
use Rattle.settings.specs.Sizes.{max_limit, level_count}
use Rattle.settings.specs.declared.Settings.{Settings}
use Rattle.settings.proofs.Laws.{ranges}
use Rattle.areas.specs.Memory.{Memory, set_cell}
use Rattle.record.specs.declared.Kind.{Kind}
use Rattle.record.specs.declared.Head.{Head}
use Rattle.record.specs.declared.Move.{Move}
use Rattle.record.specs.Layout.{Record}
use Rattle.rules.specs.Heads.{to, to_level, to_node}
use Rattle.rules.specs.Steps.{going}
use Rattle.rules.specs.Acts.{act, act_by}
use Rattle.rules.specs.Asked.{reads_by}
use Rattle.trie.proofs.Update.{Cell, upd, upd_c}
use Rattle.trie.proofs.Evolve.{Grows, grows_refl}
use Rattle.trie.proofs.Fresh.{Fresh}
use Rattle.trie.proofs.Advance.{Advance}
use Rattle.trie.proofs.Levels.{levels_stay}
use Rattle.trie.proofs.Stand.{Pos}
use Rattle.trie.proofs.Search.{Phase}
use Rattle.trie.proofs.Move.{Frame, Step}
use Rattle.trie.proofs.Whole.{Act, idle, searching, moving, Worker, ActOk, owner, Inv, stay_step}
use Rattle.trie.proofs.Turns.{does}
use Rattle.rules.proofs.Words.{cell_in, Taken, Shows, shows_cell}
use Rattle.rules.proofs.Matches.{Place, entry, node, Doing}
use Rattle.rules.proofs.Invariant.{WorldOf, Table, goes, keeps, At, TurnOk}

-- the same call, with what it holds
pub record SameCall (h h' : Head) : Type 0 where
  pub pixel_is : h'.pixel ≡ h.pixel
  pub node_is : h'.held_node ≡ h.held_node
  pub level_is : h'.held_level ≡ h.held_level

pub call_to : (k : Kind) (h : Head) → SameCall h (to k h)
unfolding to
call_to k h = record { pixel_is = refl; node_is = refl; level_is = refl }

pub call_level : (k : Kind) (g : ℕ) (h : Head) → SameCall h (to_level k g h)
unfolding to_level
call_level k g h = record { pixel_is = refl; node_is = refl; level_is = refl }

pub call_node : (k : Kind) (i c : ℕ) (h : Head) → SameCall h (to_node k i c h)
unfolding to_node
call_node k i c h = record { pixel_is = refl; node_is = refl; level_is = refl }

-- the place stays with its two numbers
pub place_as : {h h' : Head} {x : Pos} → h'.node ≡ h.node → h'.count ≡ h.count → Place h x → Place h' x
place_as e f entry = entry
place_as e f (node n c) = node (e ∙ n) (f ∙ c)

pub place-to : (k : Kind) {h : Head} {x : Pos} → Place h x → Place (to k h) x
unfolding to
place-to k d = place_as refl refl d

-- the same counters over another memory
pub table_with : {w : ℕ} {s₀ s : Settings} {m : Memory} {W : WorldOf w s₀} → Table w s₀ s m W → (m' : Memory) (W' : WorldOf w s₀) → Shows w s₀.nodes (level_count w s₀) m' W'.pixel W'.cell W'.tree.prev W'.tree.depth → Fresh W'.node_owner s.nodes_taken → Fresh W'.tree.level_owner s.levels_taken → Table w s₀ s m' W'
table_with T m' W' x n l =
    record {
      width = T.width;
      ranges = T.ranges;
      same = T.same;
      shows = x;
      nodes_fresh = n;
      levels_fresh = l;
      nodes_le = T.nodes_le;
      levels_le = T.levels_le;
    }

-- the cell x, which the theory knows as y, is written
pub written : {w : ℕ} {s₀ s : Settings} {m : Memory} {W : WorldOf w s₀} (T : Table w s₀ s m W) (x y : Cell) (r : ℕ) → y ≡ x → Taken w s₀.nodes (level_count w s₀) x → Shows w s₀.nodes (level_count w s₀) (set_cell w m (cell_in x) r) W.pixel (upd_c W.cell y r) W.tree.prev W.tree.depth
written T x y r e k = rw e (shows_cell T.shows x r k)

pub still_moving : {f : Frame} {fs : List Frame} {p : Step} → moving f fs p ≢ idle
still_moving q = let z : ◌≡◌ {A = ℕ} 0 1 = cc in omega arith

pub still_searching : {p : Phase} → searching p ≢ idle
still_searching q = let z : ◌≡◌ {A = ℕ} 0 1 = cc in omega arith

module _ {w : ℕ} {s₀ s : Settings} {m : Memory} {W : WorldOf w s₀} {ws : ℕ → Worker} {i : ℕ} {r : Record} (a : At w s₀ s m W ws i r) where
  pub limit_pos : 0 < s₀.limit
  limit_pos = let k = ranges s₀ a.table.ranges in omega arith

  pub limit_le : s₀.limit ≤ max_limit
  limit_le = let k = ranges s₀ a.table.ranges in omega arith

  -- the turn and its question 6 are those of the record's kind
  pub turn_by : (looks : Bool) {k : Kind} → r.head.kind ≡ k → TurnOk w s₀ W ws i (act_by k w looks s r.head r.moves m) → TurnOk w s₀ W ws i (act w looks s r m)
  unfolding act
  turn_by looks e t = subst (λ k. TurnOk w s₀ W ws i (act_by k w looks s r.head r.moves m)) (sym e) t

  pub asks_by : {k : Kind} → r.head.kind ≡ k → reads_by k w s r.head r.moves m ≡ true → reads_by r.head.kind w s r.head r.moves m ≡ true
  asks_by e t = ap (λ k. reads_by k w s r.head r.moves m) e ∙ t

  -- the world has grown, the worker holds what it held
  pub acted : {h : Head} {vs : List Move} {m' : Memory} (W' : WorldOf w s₀) (now : Act) → now ≢ idle → Grows W W' → W'.book ≡ W.book → Table w s₀ s m' W' → Inv W' (upd ws i (does (ws i) now)) → Advance (level_count w s₀) W W' (ws i).key (ws i).act now → SameCall r.head h → Doing h vs now → TurnOk w s₀ W ws i (going s h vs m')
  acted W' now z E b T I l c d =
      record {
        world = W';
        worker = does (ws i) now;
        table = T;
        inv = I;
        levels = levels_stay a.levels i a.here (does (ws i) now) E refl;
        matches = record {
          pixel_is = c.pixel_is ∙ a.matches.pixel_is;
          node_is = c.node_is ∙ a.matches.node_is;
          level_is = c.level_is ∙ a.matches.level_is;
          doing = d;
        };
        rowing = goes E b z refl refl;
        falls = λ y. l.falls;
        dooming = l.dooming;
        held = keeps a.table.nodes_fresh refl;
      }

  -- nothing is written
  pub stayed : {h : Head} {vs : List Move} (now : Act) → now ≢ idle → ActOk W (owner i) (ws i).key (ws i).since now → Advance (level_count w s₀) W W (ws i).key (ws i).act now → SameCall r.head h → Doing h vs now → TurnOk w s₀ W ws i (going s h vs m)
  stayed now z o l c d =
      acted W now z (grows_refl W) refl a.table
      (stay_step a.inv i (does (ws i) now) (record { acts = o; holds_node = (a.inv.each i).holds_node; holds_level = (a.inv.each i).holds_level })) l c d
