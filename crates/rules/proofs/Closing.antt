-- Close and SetClose: question 6 holds; done, the chain is closed by the level in hand and a Move of it begins.
-- Relies on where the worker stands, on what it holds and on the theory's closing of a chain.
use Prim.Native.Nat.{ℕ, suc, ◌-◌, ◌<◌}
use mathlib.Core.Path.{◌≡◌, refl, sym, subst}
use mathlib.Core.Logic.{◌≢◌}
use mathlib.Core.Bool.{true}
use mathlib.Core.List.{List, [], ◌∷◌}
use lib.ListN.{length}
use native.Mathlib.Omega.{arith}
use Rattle.words.proofs.Choice.{both_true}
use Rattle.settings.specs.Sizes.{level_count}
use Rattle.settings.specs.declared.Settings.{Settings}
use Rattle.areas.specs.Memory.{Memory, level_ref, cell_at, set_cell}
use Rattle.areas.specs.declared.Cell.TheVariants.{Next}
use Rattle.record.specs.declared.Kind.TheVariants.{ChainHead}
use Rattle.record.specs.declared.Move.{Move}
use Rattle.record.specs.Layout.{Record, new_move}
use Rattle.rules.specs.Heads.{holding_level}
use Rattle.rules.specs.Steps.{Step, going, closed}
use Rattle.rules.specs.Asked.{stands_with}
use Rattle.trie.proofs.Digits.{digit}
use Rattle.trie.proofs.Update.{upd, upd_same, nxt}
use Rattle.trie.proofs.World.{last_cell}
use Rattle.trie.proofs.Fresh.{owned_taken, fresh_keep}
use Rattle.trie.proofs.Close.{close, CanClose, close_grows}
use Rattle.trie.proofs.Stand.{at_node}
use Rattle.trie.proofs.Search.{word}
use Rattle.trie.proofs.Move.{Frame, gather}
use Rattle.trie.proofs.Falls.{close_falls}
use Rattle.trie.proofs.Dooms.{succeeds}
use Rattle.trie.proofs.Advance.{dooming_done}
use Rattle.trie.proofs.Levels.{levels_close}
use Rattle.trie.proofs.Whole.{moving, Worker, Inv, owner}
use Rattle.trie.proofs.Turns as turns
use Rattle.rules.proofs.Dims.{dims}
use Rattle.rules.proofs.Exchanging.{exchange-both}
use Rattle.rules.proofs.Matches.{Frames, more, moves, gathers}
use Rattle.rules.proofs.Invariant.{WorldOf, keeps, At, TurnOk, goes}
use Rattle.rules.proofs.Holding.{level_owned, level_hand_ok}
use Rattle.rules.proofs.MoveRecords.{framed_new}
use Rattle.rules.proofs.Standing.{Standing, stands_ok, spot_cell, spot-taken, here_reads, other_reads, ends-here}
use Rattle.rules.proofs.Turned.{table_with, written, still_moving}

module _ {w : ℕ} {s₀ s : Settings} {m : Memory} {W : WorldOf w s₀} {ws : ℕ → Worker} {i : ℕ} {r : Record} (a : At w s₀ s m W ws i r) {P : ℕ → Type 0} {p K H R C : ℕ} (o : Standing W P r.head p K H (at_node R C)) {G : ℕ} (hand : (ws i).level ≡ suc G) where
  pub close-asks : stands_with s r.head r.head.held_level s.levels_taken ≡ true
  unfolding stands_with
  close-asks = both_true (stands_ok a o) (level_hand_ok a hand)

  -- the Move that begins
  abbrev pub begun : Frame
  begun = record { home = H; child = G; key = K; nodes = [] }

  abbrev digit' : ℕ
  digit' = digit (dims w s₀.limit) K (W.tree.depth H)

  -- the Moves around it, and what the theory makes of the exchange
  module _ {vs : List Move} {fs : List Frame} (js : Frames vs fs) (can : word W K H (at_node R C) ≡ level_ref H → CanClose W H digit' G × (length (W.chain H digit') ≡ s₀.limit)) (steps : word W K H (at_node R C) ≡ level_ref H → Inv (close W H digit' G (owner i)) (upd ws i (turns.does (turns.with_level (ws i) 0) (moving begun fs gather)))) (succeeded : word W K H (at_node R C) ≡ level_ref H → succeeds W (ws i).key (ws i).act ≢ 0) where
    -- the level in hand is one of the table's
    room : G < level_count w s₀
    room = omega (arith, a.table.levels_le, owned_taken a.table.levels_fresh G (level_owned a hand))

    close_done : word W K H (at_node R C) ≡ level_ref H → TurnOk w s₀ W ws i (going s (holding_level ChainHead 0 r.head) (new_move r.head.level G ∷ vs) (set_cell w m (Next r.head.node) (level_ref G)))
    unfolding holding_level
    close_done q =
        let S = a.inv.structure in
        let c = turns.does (turns.with_level (ws i) 0) (moving begun fs gather) in
        let W' : WorldOf w s₀ = close W H digit' G (owner i) in
        record {
          world = W';
          worker = c;
          table = table_with a.table (set_cell w m (Next r.head.node) (level_ref G)) W' (rw (spot_cell a o) (written a.table (nxt R) (last_cell W H digit') (level_ref G) (ends-here a o q).last (spot-taken a o))) a.table.nodes_fresh (fresh_keep a.table.levels_fresh G 0 (level_owned a hand) (λ y. omega arith));
          inv = steps q;
          levels = levels_close a.levels i a.here S (can q).0 (owner i) c (can q).1 hand refl;
          matches = record { pixel_is = a.matches.pixel_is; node_is = a.matches.node_is; level_is = refl; doing = moves refl (more (framed_new r.head.level G H K o.level_is) js) gathers };
          rowing = goes (close_grows S (can q).0 (owner i)) refl still_moving refl refl;
          falls = λ y. close_falls S (level_count w s₀) (owner i) (can q).0 room (rw upd_same at ((steps q).each i).acts);
          dooming = dooming_done (ws i).key (succeeded q) refl;
          held = keeps a.table.nodes_fresh refl;
        }

    -- done, or failed and going on as is given
    pub close-turn : (failed : ℕ → Memory → Step) → (word W K H (at_node R C) ≢ level_ref H → TurnOk w s₀ W ws i (failed (cell_at w m (Next r.head.node)) m)) → TurnOk w s₀ W ws i (closed w failed s r.head vs m)
    unfolding closed
    close-turn failed g =
        let h : r.head.held_level - 1 ≡ G = omega (arith, a.matches.level_is) in
        exchange-both (TurnOk w s₀ W ws i) w r.head (Next r.head.node) _ _ _ m
        (λ e. subst (λ g. TurnOk w s₀ W ws i (going s (holding_level ChainHead 0 r.head) (new_move r.head.level g ∷ vs) (set_cell w m (Next r.head.node) (level_ref g)))) (sym h) (close_done (here_reads a o e)))
        (λ e. g (other_reads a o e))
