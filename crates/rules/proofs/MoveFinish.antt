-- MoveEnd: the entry of the moved chain is written to the child; the search goes on there, or the Move around goes on with its node.
-- Relies on what a turn reads, and on the theory's step.
use Prim.Native.Nat.{ℕ}
use mathlib.Core.Path.{◌≡◌, refl, ap}
use mathlib.Core.Bool.{Bool, true}
use mathlib.Core.List.{List, ◌∷◌}
use Rattle.words.proofs.Choice.{both_true}
use Rattle.settings.specs.Sizes.{level_count}
use Rattle.settings.specs.declared.Settings.{Settings}
use Rattle.areas.specs.Memory.{Memory, level_ref, set_cell}
use Rattle.record.specs.declared.Kind.TheVariants.{Look, MoveEnd}
use Rattle.record.specs.declared.Head.{Head}
use Rattle.record.specs.declared.Move.{Move}
use Rattle.record.specs.Layout.{record'}
use Rattle.rules.specs.Heads.{to_level}
use Rattle.rules.specs.Steps.{going}
use Rattle.rules.specs.Moving.{home_cell, after_move, move_end}
use Rattle.rules.specs.Acts.{inner, outer, act_by}
use Rattle.rules.specs.Asked.{move_ends, reads_by}
use Rattle.trie.proofs.Update.{ent, upd}
use Rattle.trie.proofs.Chain.{end_cell}
use Rattle.trie.proofs.World.{last_cell, Structure}
use Rattle.trie.proofs.Evolve.{Grows}
use Rattle.trie.proofs.Redirect.{redirect, redirect_grows}
use Rattle.trie.proofs.Stand.{at_entry}
use Rattle.trie.proofs.Search.{peek}
use Rattle.trie.proofs.Move.{Frame, edge, Around, aim, finish, finishes}
use Rattle.trie.proofs.MoveTurns.{frame_published}
use Rattle.trie.proofs.MoveEnd.{Finished, search_on, set_into, finish_can, finish_next}
use Rattle.trie.proofs.Turns.{finish_step}
use Rattle.trie.proofs.MoveFalls.{search_falls, outer_falls}
use Rattle.trie.proofs.Dooms.{EndsKept, redirect_keeps_ends}
use Rattle.trie.proofs.Advance.{dooming_kept}
use Rattle.trie.proofs.Whole.{Worker, ActOk, is_searching_lem, is_moving_lem, searching, moving, owner}
use Rattle.rules.proofs.Matches.{Framed, Frames, none, more, entry, peeks, searches}
use Rattle.rules.proofs.Invariant.{WorldOf, Table, At, TurnOk}
use Rattle.rules.proofs.Reading.{not_free, level-taken, entry_taken}
use Rattle.rules.proofs.MoveRecords.{home_cell_lem, picks_home_lem}
use Rattle.rules.proofs.Turned.{call_level, table_with, written, still_searching, acted}
use Rattle.rules.proofs.MoveOn.{next_aim, moves_on}

module _ {w : ℕ} {s₀ s : Settings} {m : Memory} {W : WorldOf w s₀} {ws : ℕ → Worker} {i : ℕ} {h : Head} {v : Move} {os : List Move} {f : Frame} {fs : List Frame} (a : At w s₀ s m W ws i (record' h (v ∷ os))) (on : Framed v f) (js : Frames os fs) (now : (ws i).act ≡ moving f fs finish) where
  pub finish_asks : ActOk W (owner i) (ws i).key (ws i).since (moving f fs finish) → reads_by MoveEnd w s h (v ∷ os) m ≡ true
  unfolding reads_by move_ends inner outer
  finish_asks (is_moving_lem small b (finishes k n c)) =
      both_true (picks_home_lem a.table a.inv.structure k c on js) (rw on.child_is (level-taken a.table f.child (not_free (frame_published a.inv.structure k))))

  pub finish_acts : (looks : Bool) → ActOk W (owner i) (ws i).key (ws i).since (moving f fs finish) → TurnOk w s₀ W ws i (act_by MoveEnd w looks s h (v ∷ os) m)
  unfolding act_by move_end after_move to_level inner outer
  finish_acts looks (is_moving_lem small b (finishes k n c)) = by js c now (finish_next S (ws i).since (finishes k n c))
    where
      S : Structure W
      S = a.inv.structure

      W' : WorldOf w s₀
      W' = redirect W f.home (edge W f) (level_ref f.child) (upd W.mover f.child 0)

      m' : Memory
      m' = set_cell w m (home_cell w h v os m) (level_ref v.child)

      grows : Grows W W'
      grows = redirect_grows S (finish_can S k) (upd W.mover f.child 0)

      kept : EndsKept W W'
      kept = redirect_keeps_ends S (finish_can S k).closed (level_ref f.child) (upd W.mover f.child 0)

      table : Table w s₀ s m' W'
      table =
          table_with a.table m' W'
          (rw (home_cell_lem a.table S k c on js h a.matches.pixel_is, on.child_is) (written a.table (ent f.home (edge W f)) (last_cell W f.home (edge W f)) (level_ref f.child) (ap (end_cell (ent f.home (edge W f))) k.holds) (entry_taken a.table f.home f.key (not_free k.path.pub_at))))
          a.table.nodes_fresh a.table.levels_fresh

      by : {vs : List Move} {gs : List Frame} → Frames vs gs → Around W (owner i) (ws i).key f.home f.key f.child gs → (ws i).act ≡ moving f gs finish → Finished W' (owner i) (ws i).key (ws i).since f gs → TurnOk w s₀ W ws i (going s (after_move h v.child vs) vs m')
      by none d q (search_on l) =
          acted a W' (searching (peek f.child at_entry)) still_searching grows refl table (finish_step a.inv i k (searching (peek f.child at_entry)) (is_searching_lem small b l))
          (rw q (record { falls = search_falls S (level_count w s₀) k refl; dooming = dooming_kept (ws i).key kept refl }))
          (call_level Look v.child h) (searches refl refl (peeks on.child_is entry))
      by (more {f = g} {fs = gs} j ks) d q (set_into N l) =
          moves_on a W' grows refl table (finish_step a.inv i k (moving g gs (aim N f.child)) (is_moving_lem small b l)) (rw q (record { falls = outer_falls S (level_count w s₀) k grows refl d; dooming = dooming_kept (ws i).key kept refl })) (next_aim v.child on.child_is) (more j ks)
