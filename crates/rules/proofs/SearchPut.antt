-- Put and Append: question 6 holds; done, the node is placed and the call ends "new"; failed, the word met is acted on as Read and Follow do.
-- Relies on a worker that searches, on what it does with a word that it met, and on the theory's placing of a node.
use Prim.Native.Nat.{ℕ, suc, ◌-◌}
use mathlib.Core.Path.{◌≡◌, refl, sym, subst}
use mathlib.Core.Logic.{◌≢◌}
use mathlib.Core.Bool.{Bool, true}
use mathlib.Core.List.{[]}
use native.Mathlib.Omega.{arith}
use Rattle.words.proofs.Choice.{both_true}
use Rattle.settings.specs.declared.Settings.{Settings}
use Rattle.areas.specs.Memory.{Memory, level_ref, node_ref, cell_at, set_cell}
use Rattle.record.specs.declared.Answer.TheVariants.{New}
use Rattle.record.specs.Layout.{Record}
use Rattle.rules.specs.Heads.{ended}
use Rattle.rules.specs.Steps.{Step, step}
use Rattle.rules.specs.Searching as spec
use Rattle.rules.specs.Acts.{act_by}
use Rattle.rules.specs.Asked as asked
use Rattle.trie.proofs.Digits.{digit}
use Rattle.trie.proofs.Fresh.{fresh_keep}
use Rattle.trie.proofs.Place.{place, place_grows}
use Rattle.trie.proofs.World.{last_cell}
use Rattle.trie.proofs.Stand.{Pos, at_entry, at_node, cell_of}
use Rattle.trie.proofs.Search.{put, Local, puts, word, put_done}
use Rattle.trie.proofs.Dooms.{missed-not}
use Rattle.trie.proofs.Advance.{dooming_done}
use Rattle.trie.proofs.Levels.{levels_stay}
use Rattle.trie.proofs.Whole.{idle, Worker, is_searching_lem, owner}
use Rattle.trie.proofs.Turns as turns
use Rattle.rules.proofs.Dims.{dims}
use Rattle.rules.proofs.Exchanging.{exchange-both}
use Rattle.rules.proofs.Matches.{search_kind, rests}
use Rattle.rules.proofs.Invariant.{WorldOf, gave, At, TurnOk, ends_new_lem}
use Rattle.rules.proofs.Holding.{node_owned, node_hand_ok}
use Rattle.rules.proofs.Standing.{spot, picks_ok, stands_ok, spot_cell, spot-taken, here_reads, other_reads, exchanges_ok, ends-here}
use Rattle.rules.proofs.Turned.{table_with, written}
use Rattle.rules.proofs.Searcher.{Searcher, standing}
use Rattle.rules.proofs.SearchAgain.{compares_ok, read_ok, follow_ok, follows_ok}

module _ {w : ℕ} {s₀ s : Settings} {m : Memory} {W : WorldOf w s₀} {ws : ℕ → Worker} {i : ℕ} {r : Record} {a : At w s₀ s m W ws i r} {H n : ℕ} where
  -- the node in hand
  in_hand_lem : {x : Pos} → Searcher a (put H x n) H x → Local W (owner i) (ws i).key (ws i).since (put H x n) → (ws i).node ≡ suc n
  in_hand_lem o (puts k c mine p t) = ((a.inv.each i).holds_node n).0 mine

  pub put-asks : (x : Pos) → Searcher a (put H x n) H x → Local W (owner i) (ws i).key (ws i).since (put H x n) → asked.reads_by (search_kind (put H x n)) w s r.head r.moves m ≡ true
  unfolding asked.reads_by asked.puts asked.picks_with asked.appends asked.stands_with cell_at spec.entry_of
  put-asks at_entry o l =
      both_true (both_true (picks_ok a (standing o)) (node_hand_ok a (in_hand_lem o l))) (exchanges_ok a (standing o) _ _ refl (compares_ok o))
  put-asks (at_node R C) o l =
      both_true (both_true (stands_ok a (standing o)) (node_hand_ok a (in_hand_lem o l))) (exchanges_ok a (standing o) _ _ refl (follows_ok o))

  -- the exchange is done
  put_new : {x : Pos} (o : Searcher a (put H x n) H x) (l : Local W (owner i) (ws i).key (ws i).since (put H x n)) → word W (ws i).key H x ≡ level_ref H → TurnOk w s₀ W ws i (step (New n) s (ended 1 n 0 r.head) [] (set_cell w m (spot w r.head r.head.pixel m.levels x) (node_ref n)))
  unfolding ended
  put_new {x} o l q =
      let S = a.inv.structure in
      let e = digit (dims w s₀.limit) (ws i).key (W.tree.depth H) in
      let hand = in_hand_lem o l in
      let can = put_done S a.inv.partition (λ y. omega arith) o.small l q in
      let E = place_grows S can in
      let c = turns.does (turns.with_node (ws i) 0) idle in
      record {
        world = place W H e n;
        worker = c;
        table = table_with a.table (set_cell w m (spot w r.head r.head.pixel m.levels x) (node_ref n)) (place W H e n) (rw (spot_cell a (standing o)) (written a.table (cell_of H e x) (last_cell W H e) (node_ref n) (ends-here a (standing o) q).last (spot-taken a (standing o)))) (fresh_keep a.table.nodes_fresh n 0 (node_owned a hand) (λ y. omega arith)) a.table.levels_fresh;
        inv = turns.put-turn a.inv i (is_searching_lem o.small o.since-le l) hand q;
        levels = levels_stay a.levels i a.here c E refl;
        matches = record { pixel_is = a.matches.pixel_is; node_is = refl; level_is = a.matches.level_is; doing = rests refl refl };
        rowing = ends_new_lem can (pixel_of_lem l) refl refl;
        falls = λ y. absurd (y refl);
        dooming = rw o.act_is (dooming_done (ws i).key (λ y. omega (arith, missed-not W (ws i).key H x q)) refl);
        held = gave a.table.nodes_fresh hand refl;
      }
    where
      pixel_of_lem : Local W (owner i) (ws i).key (ws i).since (put H x n) → W.pixel n ≡ (ws i).key
      pixel_of_lem (puts k c mine p t) = p

  -- done or failed
  put_either : {x : Pos} (failed : ℕ → Memory → Step) (o : Searcher a (put H x n) H x) → Local W (owner i) (ws i).key (ws i).since (put H x n) → (word W (ws i).key H x ≢ level_ref H → TurnOk w s₀ W ws i (failed (cell_at w m (spot w r.head r.head.pixel m.levels x)) m)) → TurnOk w s₀ W ws i (spec.placed w failed s r.head (spot w r.head r.head.pixel m.levels x) m)
  unfolding spec.placed
  put_either {x} failed o l g =
      let h : r.head.held_node - 1 ≡ n = omega (arith, a.matches.node_is, in_hand_lem o l) in
      exchange-both (TurnOk w s₀ W ws i) w r.head (spot w r.head r.head.pixel m.levels x) _ _ _ m
      (λ e. subst (λ k. TurnOk w s₀ W ws i (step (New k) s (ended 1 k 0 r.head) [] (set_cell w m (spot w r.head r.head.pixel m.levels x) (node_ref k)))) (sym h) (put_new o l (here_reads a (standing o) e)))
      (λ e. g (other_reads a (standing o) e))

  pub put-turn : (looks : Bool) (x : Pos) (o : Searcher a (put H x n) H x) → Local W (owner i) (ws i).key (ws i).since (put H x n) → TurnOk w s₀ W ws i (act_by (search_kind (put H x n)) w looks s r.head r.moves m)
  unfolding act_by spec.put spec.append spec.entry_of cell_at
  put-turn looks at_entry o l = put_either _ o l (read_ok o)
  put-turn looks (at_node R C) o l = put_either _ o l (follow_ok o)
