-- SetNext: the next word of the node to be set is written to the level that it is set into.
-- Relies on what a turn reads, and on the theory's turn.
use Prim.Native.Nat.{ℕ}
use mathlib.Core.Path.{◌≡◌, refl}
use mathlib.Core.Bool.{Bool, true}
use mathlib.Core.List.{List, ◌∷◌}
use Rattle.words.proofs.Choice.{both_true}
use Rattle.settings.specs.Sizes.{level_count}
use Rattle.settings.specs.declared.Settings.{Settings}
use Rattle.areas.specs.Memory.{Memory, level_ref, set_cell}
use Rattle.areas.specs.declared.Cell.TheVariants.{Next}
use Rattle.record.specs.declared.Kind.TheVariants.{SetNext}
use Rattle.record.specs.declared.Head.{Head}
use Rattle.record.specs.declared.Move.{Move}
use Rattle.record.specs.Layout.{record'}
use Rattle.rules.specs.Heads.{last_node}
use Rattle.rules.specs.Moving.{set_next}
use Rattle.rules.specs.Acts.{inner, outer, act_by}
use Rattle.rules.specs.Asked.{set_nexts, reads_by}
use Rattle.trie.proofs.Update.{nxt}
use Rattle.trie.proofs.World.{last_cell}
use Rattle.trie.proofs.Stand.{at_entry}
use Rattle.trie.proofs.Search.{peek}
use Rattle.trie.proofs.Move.{Frame, edge, aim, aims, last-placed, last_cell_lem}
use Rattle.trie.proofs.MoveTurns.{can_aim}
use Rattle.trie.proofs.Redirect.{redirect, redirect_grows}
use Rattle.trie.proofs.MoveFalls.{aim_falls}
use Rattle.trie.proofs.Dooms.{redirect_keeps_ends}
use Rattle.trie.proofs.Advance.{dooming_kept}
use Rattle.trie.proofs.Whole.{Worker, ActOk, is_moving_lem, moving, owner}
use Rattle.trie.proofs.Turns.{aim_turn}
use Rattle.rules.proofs.Matches.{Framed, Frames, more, entry, peeks}
use Rattle.rules.proofs.Invariant.{WorldOf, At, TurnOk}
use Rattle.rules.proofs.Reading.{not_free, level-taken, node_taken_lem, next_taken}
use Rattle.rules.proofs.MoveRecords.{last_is}
use Rattle.rules.proofs.Turned.{table_with, written}
use Rattle.rules.proofs.MoveOn.{next_set, moves_on}

module _ {w : ℕ} {s₀ s : Settings} {m : Memory} {W : WorldOf w s₀} {ws : ℕ → Worker} {i : ℕ} {h : Head} {v : Move} {os : List Move} {f : Frame} {fs : List Frame} (a : At w s₀ s m W ws i (record' h (v ∷ os))) (on : Framed v f) (js : Frames os fs) (N : ℕ) {T : ℕ} (l : h.level ≡ T) (now : (ws i).act ≡ moving f fs (aim N T)) where
  pub aim_asks : ActOk W (owner i) (ws i).key (ws i).since (moving f fs (aim N T)) → reads_by SetNext w s h (v ∷ os) m ≡ true
  unfolding reads_by set_nexts inner
  aim_asks (is_moving_lem small b (aims pre k n o j c)) =
      rw (last_is on pre N n, l) (both_true (node_taken_lem a.table N (not_free (last-placed a.inv.structure pre N k))) (level-taken a.table T (not_free o.pub_at)))

  pub aim_acts : (looks : Bool) → ActOk W (owner i) (ws i).key (ws i).since (moving f fs (aim N T)) → TurnOk w s₀ W ws i (act_by SetNext w looks s h (v ∷ os) m)
  unfolding act_by set_next inner outer
  aim_acts looks (is_moving_lem small b (aims pre k n o j c)) =
      let S = a.inv.structure in
      let W' : WorldOf w s₀ = redirect W f.home (edge W f) (level_ref T) W.mover in
      let x = written a.table (nxt N) (last_cell W f.home (edge W f)) (level_ref T) (last_cell_lem S pre N k) (next_taken a.table N (not_free (last-placed S pre N k))) in
      moves_on a W' (redirect_grows S (can_aim S pre N k j) W.mover) refl
      (table_with a.table (set_cell w m (Next (last_node v)) (level_ref h.level)) W' (rw (last_is on pre N n, l) x) a.table.nodes_fresh a.table.levels_fresh)
      (aim_turn a.inv i (is_moving_lem small b (aims pre k n o j c)))
      (rw now (record { falls = aim_falls S (level_count w s₀) k c (redirect_grows S (can_aim S pre N k j) W.mover) refl; dooming = dooming_kept (ws i).key (redirect_keeps_ends S (can_aim S pre N k j).closed (level_ref T) W.mover) refl }))
      (next_set (peek T at_entry) (peeks l entry)) (more on js)
