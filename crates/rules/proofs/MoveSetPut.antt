-- SetPut and SetAppend: the node is exchanged into the cell; done, the node before it is set next or the Move ends; failed, the word met is acted on as SetRead and SetFollow do.
-- Relies on a worker that sets a node, and on the theory's step.
use Prim.Native.Nat.{ℕ, ◌<◌}
use mathlib.Core.Path.{◌≡◌, refl, sym, ap, ◌∙◌}
use mathlib.Core.Logic.{◌≢◌}
use mathlib.Core.Bool.{Bool, true}
use mathlib.Core.List.{List, ◌∷◌}
use native.Mathlib.Omega.{arith}
use lib.ListN.{length}
use Rattle.words.proofs.Choice.{both_true}
use Rattle.settings.specs.Sizes.{level_count}
use Rattle.settings.specs.declared.Settings.{Settings}
use Rattle.areas.specs.Memory.{Memory, level_ref, node_ref, pixel_at, cell_at, set_cell, node_taken}
use Rattle.record.specs.declared.Kind.TheVariants.{SetPut, SetAppend}
use Rattle.record.specs.declared.Head.{Head}
use Rattle.record.specs.declared.Move.{Move}
use Rattle.record.specs.Layout.{record'}
use Rattle.rules.specs.Heads.{last_node, forget}
use Rattle.rules.specs.Steps as steps
use Rattle.rules.specs.Steps.{going}
use Rattle.rules.specs.Moving.{set_cell_of, set_last, set_node, set_put, set_append}
use Rattle.rules.specs.Acts.{inner, outer, act_by}
use Rattle.rules.specs.Asked.{reads_ref, stands_setting, set_puts, set_appends, reads_by}
use Rattle.trie.proofs.Digits.{digit}
use Rattle.trie.proofs.World.{last_cell, Structure}
use Rattle.trie.proofs.Stand.{Pos, at_entry, at_node, cell_of, passed}
use Rattle.trie.proofs.Search.{put, word}
use Rattle.trie.proofs.Move.{Frame, edge, Step, Moving, set, aims}
use Rattle.trie.proofs.MoveTurns.{with_nodes, AfterMove, emptied, next_one, put_can, put-moved}
use Rattle.trie.proofs.MoveOne.{move_one, CanMove, move_grows}
use Rattle.trie.proofs.Falls.{Falls}
use Rattle.trie.proofs.MoveFalls.{put_falls, last_falls}
use Rattle.trie.proofs.Dooms.{dooms, missed-not}
use Rattle.trie.proofs.Advance.{dooming_done}
use Rattle.trie.proofs.Turns.{put_step}
use Rattle.trie.proofs.Whole.{Worker, is_moving_lem, moving, owner}
use Rattle.rules.proofs.Dims.{dims}
use Rattle.rules.proofs.Exchanging.{exchange-both}
use Rattle.rules.proofs.Matches.{by_pos, Framed, more}
use Rattle.rules.proofs.Invariant.{WorldOf, Table, At, TurnOk}
use Rattle.rules.proofs.Reading.{not_free, node_taken_lem}
use Rattle.rules.proofs.Standing.{spot, stands_ok, spot_cell, spot-taken, spot_ok, here_reads, other_reads, exchanges_ok, ends-here}
use Rattle.rules.proofs.Turned.{table_with, written}
use Rattle.rules.proofs.MoveRecords.{framed_count, last-count, framed_forget}
use Rattle.rules.proofs.MoveOn.{Next, next_aim, next_end, last_aims, last-ends, moves_on}
use Rattle.rules.proofs.Setter.{Setter, node_placed, node_last, standing, entry_ok}
use Rattle.rules.proofs.MoveSetAgain.{follows_ok, read_ok, follow_ok}

module _ {w : ℕ} {s₀ s : Settings} {m : Memory} {W : WorldOf w s₀} {ws : ℕ → Worker} {i : ℕ} {h : Head} {v : Move} {os : List Move} {a : At w s₀ s m W ws i (record' h (v ∷ os))} {f : Frame} {fs : List Frame} {N M T : ℕ} where
  pub put-asks : (x : Pos) → Setter a f fs N (put T x M) T x → reads_by (by_pos SetPut SetAppend x) w s h (v ∷ os) m ≡ true
  unfolding reads_by set_puts set_appends stands_setting reads_ref cell_at set_cell_of inner
  put-asks at_entry o = both_true (entry_ok o) (exchanges_ok a (standing o) _ _ refl (λ y. spot_ok a (standing o)))
  put-asks (at_node R C) o =
      both_true (both_true (stands_ok a (standing o)) (ap (node_taken s) (node_last o) ∙ node_taken_lem a.table N (not_free (node_placed o))))
      (exchanges_ok a (standing o) _ _ refl (follows_ok o))

  -- the exchange is done
  put_done : {x : Pos} (o : Setter a f fs N (put T x M) T x) → passed x < s₀.limit → word W (W.pixel N) T x ≡ level_ref T → TurnOk w s₀ W ws i (set_last s h (forget v) os (set_cell w m (spot w h (pixel_at m.nodes (last_node v)) m.levels x) (node_ref (last_node v))))
  put_done {x} o y e = by (put-moved S a.inv.partition o.pre o.frame o.setting y e o.around)
    where
      S : Structure W
      S = a.inv.structure

      d : ℕ
      d = digit (dims w s₀.limit) (W.pixel N) (W.tree.depth T)

      can : CanMove W f.home (edge W f) o.pre N T d
      can = put_can S o.pre o.frame o.setting y e

      W' : WorldOf w s₀
      W' = move_one W f.home (edge W f) o.pre N T d

      m' : Memory
      m' = set_cell w m (spot w h (pixel_at m.nodes (last_node v)) m.levels x) (node_ref (last_node v))

      table : Table w s₀ s m' W'
      table =
          table_with a.table m' W'
          (rw (spot_cell a (standing o), node_last o) (written a.table (cell_of T d x) (last_cell W T d) (node_ref N) (ends-here a (standing o) e).last (spot-taken a (standing o))))
          a.table.nodes_fresh a.table.levels_fresh

      less : Framed (forget v) (with_nodes f o.pre)
      less = framed_forget o.on o.pre N o.nodes_are

      on_to : {now : Step} {h' : Head} → Falls (level_count w s₀) W W' (moving f fs (set N (put T x M))) (moving (with_nodes f o.pre) fs now) → dooms W' (ws i).key (moving (with_nodes f o.pre) fs now) ≡ 0 → Moving W' (owner i) (ws i).key (with_nodes f o.pre) fs now → Next h h' (with_nodes f o.pre) now → TurnOk w s₀ W ws i (going s h' (forget v ∷ os) m')
      on_to {now} l u k z =
          moves_on a W' (move_grows S can) refl table (put_step a.inv i o.pre o.frame o.setting y e (moving (with_nodes f o.pre) fs now) (is_moving_lem o.small o.since-le k)) (rw o.act_is (record { falls = l; dooming = dooming_done (ws i).key (λ y. omega (arith, missed-not W (W.pixel N) T x e)) u })) z (more less o.around_on)

      by : AfterMove W' (owner i) (ws i).key f fs o.pre → TurnOk w s₀ W ws i (set_last s h (forget v) os m')
      by (emptied z k) = rw (last-ends s h (forget v) os m' (sym (framed_count less) ∙ ap length z)) (on_to (last_falls S (level_count w s₀) o.frame o.around o.pre can) refl k next_end)
      by (next_one N' (aims pre' k n p j c)) =
          let y = last-count less pre' N' n in
          rw (last_aims s h (forget v) os m' (λ q. omega arith)) (on_to (put_falls S (level_count w s₀) o.frame o.around o.pre o.nodes_are can) refl (aims pre' k n p j c) (next_aim (forget v).child less.child_is))

  -- done or failed
  put_either : {x : Pos} (failed : ℕ → Memory → steps.Step) (o : Setter a f fs N (put T x M) T x) → passed x < s₀.limit → (word W (W.pixel N) T x ≢ level_ref T → TurnOk w s₀ W ws i (failed (cell_at w m (spot w h (pixel_at m.nodes (last_node v)) m.levels x)) m)) → TurnOk w s₀ W ws i (set_node w failed s h v os (spot w h (pixel_at m.nodes (last_node v)) m.levels x) m)
  unfolding set_node
  put_either {x} failed o y g =
      exchange-both (TurnOk w s₀ W ws i) w h (spot w h (pixel_at m.nodes (last_node v)) m.levels x) _ _ _ m
      (λ e. put_done o y (here_reads a (standing o) e))
      (λ e. g (other_reads a (standing o) e))

  pub put-turn : (looks : Bool) (x : Pos) (o : Setter a f fs N (put T x M) T x) → passed x < s₀.limit → TurnOk w s₀ W ws i (act_by (by_pos SetPut SetAppend x) w looks s h (v ∷ os) m)
  unfolding act_by set_put set_append set_cell_of inner outer cell_at
  put-turn looks at_entry o y = put_either _ o y (read_ok o)
  put-turn looks (at_node R C) o y = put_either _ o y (follow_ok o)
