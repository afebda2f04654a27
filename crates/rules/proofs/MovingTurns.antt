-- The twelve moving kinds of turn over the words: question 6 holds, and what the turn does is an effect of the theory and the worker's next clause.
-- Relies on what a turn reads and on the theory's turns of a Move, step by step in MoveGather to MoveFinish.
use Prim.Native.Nat.{ℕ, ◌≤◌, ◌<◌, ◌^◌}
use mathlib.Core.Path.{◌≡◌, refl}
use mathlib.Core.Bool.{Bool, true}
use mathlib.Core.List.{List, [], ◌∷◌, ◌++◌}
use lib.ListN.{length}
use Rattle.words.specs.Digits.{base, depths}
use Rattle.settings.specs.declared.Settings.{Settings}
use Rattle.areas.specs.Memory.{Memory}
use Rattle.record.specs.declared.Kind.{Kind}
use Rattle.record.specs.declared.Head.{Head}
use Rattle.record.specs.declared.Move.{Move}
use Rattle.record.specs.Layout.{Record, record'}
use Rattle.rules.specs.Acts.{act_by, act}
use Rattle.rules.specs.Asked.{reads_by}
use Rattle.trie.proofs.Search.{Phase, peek, fetch, put, again, level, shut}
use Rattle.trie.proofs.Stand.{Pos, at_node}
use Rattle.trie.proofs.World.{World}
use Rattle.trie.proofs.Digits.{Dims}
use Rattle.trie.proofs.Move as theory
use Rattle.trie.proofs.Move.{Frame, FrameOk, Around, Setting, Step, set_peeks, set-puts, set_reads, set_levels, set_shuts}
use Rattle.trie.proofs.Measure.{level_of, pos_of}
use Rattle.trie.proofs.Falls.{again_last}
use Rattle.trie.proofs.Whole.{Worker, ActOk, is_moving_lem, moving, owner}
use Rattle.rules.proofs.Matches.{step_kind, Place, peeks, fetches, puts, agains, levels, shuts, Framed, Frames, more, Stepped, gathers, aims, sets, finishes, Doing, moves}
use Rattle.rules.proofs.KindNumbers.{none_fetched}
use Rattle.rules.proofs.Invariant.{WorldOf, At, TurnOk}
use Rattle.rules.proofs.MoveGather.{gather_asks, gather_turn}
use Rattle.rules.proofs.MoveAim.{aim_asks, aim_acts}
use Rattle.rules.proofs.Turned.{turn_by, asks_by}
use Rattle.rules.proofs.Setter.{Setter}
use Rattle.rules.proofs.MoveSetPeek.{peek_asks, peek_turn}
use Rattle.rules.proofs.MoveSetPut.{put-asks, put-turn}
use Rattle.rules.proofs.MoveSetAgain.{again_asks, again_turn}
use Rattle.rules.proofs.MoveSetLevels.{level-asks, level-turn, close-asks, close-turn}
use Rattle.rules.proofs.MoveFinish.{finish_asks, finish_acts}

-- a node that is set is there already: none is fetched
no_fetch : {δ : Dims} {W : World δ} {u K b N H : ℕ} {x : Pos} {f : Frame} {fs : List Frame} → ActOk W u K b (moving f fs (theory.set N (fetch H x))) → ⊥
no_fetch (is_moving_lem small b (theory.sets pre k n t c)) = none_fetched t tt

module _ {w : ℕ} {s₀ s : Settings} {m : Memory} {W : WorldOf w s₀} {ws : ℕ → Worker} {i : ℕ} {h : Head} {v : Move} {os : List Move} {f : Frame} {fs : List Frame} (a : At w s₀ s m W ws i (record' h (v ∷ os))) (on : Framed v f) (js : Frames os fs) where
  -- question 6 holds of the turn, and the turn is as it has to be
  record Turns (looks : Bool) (k : Kind) : Type 0 where
    asks : reads_by k w s h (v ∷ os) m ≡ true
    turn : TurnOk w s₀ W ws i (act_by k w looks s h (v ∷ os) m)

  pub setter : {N : ℕ} (p : Phase) → (ws i).act ≡ moving f fs (theory.set N p) → h.level ≡ level_of p → Place h (pos_of p) → (ws i).key < base w ^ depths w → (ws i).since ≤ length W.book → (pre : List ℕ) → FrameOk W (owner i) f (pre ++ (N ∷ [])) → f.nodes ≡ pre ++ (N ∷ []) → Setting W N f.child (level_of p) (pos_of p) → Around W (owner i) (ws i).key f.home f.key f.child fs → Setter a f fs N p (level_of p) (pos_of p)
  setter p e l x small b pre k n t c = record { act_is = e; again_last = again_last W p; on = on; around_on = js; level_is = l; place = x; small = small; since-le = b; pre = pre; frame = k; nodes_are = n; setting = t; around = c }

  -- by the step, of which the record has the kind and the numbers, and the theory the clause
  by_step : (looks : Bool) {p : Step} → (ws i).act ≡ moving f fs p → Stepped h p → ActOk W (owner i) (ws i).key (ws i).since (moving f fs p) → Turns looks (step_kind f p)
  by_step looks q gathers o = record { asks = gather_asks a on js q o; turn = gather_turn a on js q looks o }
  by_step looks q (aims {N} l) o = record { asks = aim_asks a on js N l q o; turn = aim_acts a on js N l q looks o }
  by_step looks q (sets (peeks {H = T} {x = x} l d)) (is_moving_lem small b (theory.sets pre k n (set_peeks t) c)) =
      let o = setter (peek T x) q l d small b pre k n t c in
      record { asks = peek_asks x o; turn = peek_turn looks x o }
  by_step looks q (sets (fetches l d)) o = absurd (no_fetch o)
  by_step looks q (sets (puts {H = T} {n = N} {x = x} l d)) (is_moving_lem small b (theory.sets pre k n (set-puts e t y) c)) =
      let o = setter (put T x N) q l d small b pre k n t c in
      record { asks = put-asks x o; turn = put-turn looks x o y }
  by_step looks q (sets (agains {H = T} {x = x} l d)) (is_moving_lem small b (theory.sets pre k n (set_reads t y) c)) =
      let o = setter (again T x) q l d small b pre k n t c in
      record { asks = again_asks x o y; turn = again_turn looks x o y }
  by_step looks q (sets (levels {H = T} {R = R} {C = C} l d)) (is_moving_lem small b (theory.sets pre k n (set_levels t y z) c)) =
      let o = setter (level T (at_node R C)) q l d small b pre k n t c in
      record { asks = level-asks o y z; turn = level-turn o y z looks refl }
  by_step looks q (sets (shuts {H = T} {R = R} {C = C} {G = G} l d e)) (is_moving_lem small b (theory.sets pre k n (set_shuts t y z u) c)) =
      let o = setter (shut T (at_node R C) G) q l d small b pre k n t c in
      record { asks = close-asks o y z e u; turn = close-turn o y z e u looks refl }
  by_step looks q finishes o = record { asks = finish_asks a on js q o; turn = finish_acts a on js q looks o }

module _ {w : ℕ} {s₀ s : Settings} {m : Memory} {W : WorldOf w s₀} {ws : ℕ → Worker} {i : ℕ} where
  by_asks : (h : Head) {vs : List Move} {f : Frame} {fs : List Frame} {p : Step} (a : At w s₀ s m W ws i (record' h vs)) → (ws i).act ≡ moving f fs p → Doing h vs (moving f fs p) → ActOk W (owner i) (ws i).key (ws i).since (moving f fs p) → reads_by h.kind w s h vs m ≡ true
  by_asks h a q (moves k (more on js) t) o = asks_by a k (by_step a on js true q t o).asks

  by_turn : (looks : Bool) (h : Head) {vs : List Move} {f : Frame} {fs : List Frame} {p : Step} (a : At w s₀ s m W ws i (record' h vs)) → (ws i).act ≡ moving f fs p → Doing h vs (moving f fs p) → ActOk W (owner i) (ws i).key (ws i).since (moving f fs p) → TurnOk w s₀ W ws i (act w looks s (record' h vs) m)
  by_turn looks h a q (moves k (more on js) t) o = turn_by a looks k (by_step a on js looks q t o).turn

module _ {w : ℕ} {s₀ s : Settings} {m : Memory} {W : WorldOf w s₀} {ws : ℕ → Worker} {i : ℕ} {r : Record} (a : At w s₀ s m W ws i r) where
  pub move_asks : (f : Frame) (fs : List Frame) (p : Step) → (ws i).act ≡ moving f fs p → reads_by r.head.kind w s r.head r.moves m ≡ true
  move_asks f fs p e = by_asks r.head a e (rw e at a.matches.doing) (rw e at (a.inv.each i).acts)

  pub move_turn : (looks : Bool) (f : Frame) (fs : List Frame) (p : Step) → (ws i).act ≡ moving f fs p → TurnOk w s₀ W ws i (act w looks s r m)
  move_turn looks f fs p e = by_turn looks r.head a e (rw e at a.matches.doing) (rw e at (a.inv.each i).acts)
