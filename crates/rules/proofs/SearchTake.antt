-- Take and TakeTail: question 6 holds, and the node that is written is the theory's node in hand.
-- Relies on a worker that searches, on the counter of nodes and on the theory's fetch.
use Prim.Native.Nat.{ℕ, suc, ◌-◌, ◌≤◌, ◌<◌}
use mathlib.Core.Path.{◌≡◌, refl, sym, ap, ◌∙◌}
use mathlib.Core.Logic.{◌≢◌, ◌⊎◌, inl, inr}
use mathlib.Core.Bool.{Bool, true}
use lib.Dec.{eqb}
use native.Mathlib.Numerals.{add-one}
use native.Mathlib.Omega.{arith}
use borrow.Author.Tests.{eqb-true, eqb-false, ltb-true, eq-eqb}
use Rattle.words.specs.Choice.{pick}
use Rattle.words.proofs.Choice.{pick-both, pick_true, both_true}
use Rattle.settings.specs.Sizes.{level_count}
use Rattle.settings.specs.declared.Settings.{Settings}
use Rattle.areas.specs.Memory.{Memory, level_ref}
use Rattle.record.specs.declared.Kind.TheVariants.{Put, Append}
use Rattle.record.specs.Kinds.{kind_no}
use Rattle.record.specs.declared.Answer.TheVariants.{Open}
use Rattle.record.specs.Layout.{Record}
use Rattle.rules.specs.Heads.{holding_node}
use Rattle.rules.specs.Steps.{took_node, with_node, take_node}
use Rattle.rules.specs.Searching.{take, take_tail, takes_node}
use Rattle.rules.specs.Acts.{act_by}
use Rattle.rules.specs.Asked.{reads_by, takes, node_left, question9}
use Rattle.trie.proofs.Update.{upd, upd_same}
use Rattle.trie.proofs.Fresh.{Fresh, owned_taken, fresh_next, fresh_keep}
use Rattle.trie.proofs.TakeNode as theory
use Rattle.trie.proofs.Stand.{Pos, at_entry, at_node}
use Rattle.trie.proofs.Search.{fetch, put, Local}
use Rattle.trie.proofs.Falls.{fetch_falls}
use Rattle.trie.proofs.Advance.{fetch_dooming}
use Rattle.trie.proofs.Levels.{levels_stay}
use Rattle.trie.proofs.Whole.{searching, Worker, is_searching_lem, owner}
use Rattle.trie.proofs.Turns as turns
use Rattle.rules.proofs.Words.{shows_node}
use Rattle.rules.proofs.Matches.{by_pos, search_kind, puts, searches}
use Rattle.rules.proofs.Invariant.{WorldOf, SameSizes, Held, keeps, took, At, TurnOk, goes}
use Rattle.rules.proofs.Holding.{node_owner_lem, node_owned, spare_node_ok}
use Rattle.rules.proofs.Standing.{level_ok}
use Rattle.rules.proofs.Turned.{still_searching, place_as}
use Rattle.rules.proofs.Searcher.{Searcher, standing}

-- question 9 is asked of these kinds: a worker that holds no node finds one left
takes_node_lem : (H : ℕ) (x : Pos) → takes_node (search_kind (fetch H x)) ≡ true
unfolding takes_node kind_no pick
takes_node_lem H at_entry = refl
takes_node_lem H (at_node R C) = refl

node_left_lem : (s : Settings) (r : Record) → question9 s r ≡ true → takes_node r.head.kind ≡ true → r.head.held_node ≡ 0 → s.nodes_taken < s.nodes
unfolding question9 node_left
node_left_lem s r q t none = ltb-true _ _ (sym (pick_true _ _ _ (eq-eqb _ _ none)) ∙ sym (pick_true _ _ _ t) ∙ q)

module _ {w : ℕ} {s₀ s : Settings} {m : Memory} {W : WorldOf w s₀} {ws : ℕ → Worker} {i : ℕ} {r : Record} {a : At w s₀ s m W ws i r} {H : ℕ} where
  pub fetch_asks : (x : Pos) → Searcher a (fetch H x) H x → reads_by (search_kind (fetch H x)) w s r.head r.moves m ≡ true
  unfolding reads_by takes
  fetch_asks at_entry o = both_true (level_ok a (standing o)) (spare_node_ok a)
  fetch_asks (at_node R C) o = both_true (level_ok a (standing o)) (spare_node_ok a)

  -- node n is written and in hand; the settings s' count it
  with_node_lem : {x : Pos} (o : Searcher a (fetch H x) H x) → Local W (owner i) (ws i).key (ws i).since (fetch H x) → (s' : Settings) (n : ℕ) → SameSizes s₀ s' → s'.levels_taken ≡ s.levels_taken → Fresh (upd W.node_owner n (owner i)) s'.nodes_taken → s'.nodes_taken ≤ s₀.nodes → W.node_owner n ≢ 0 → ((j : ℕ) → j ≢ i → W.node_owner n ≢ owner j) → ((ws i).node ≡ 0) ⊎ ((ws i).node ≡ suc n) → Held W (ws i) (suc n) s'.nodes_taken Open → TurnOk w s₀ W ws i (with_node (by_pos Put Append x) s' r.head n m)
  unfolding with_node holding_node
  with_node_lem {x} o l s' n same e fresh le free others had held =
      let K = (ws i).key in
      let c = turns.does (turns.with_node (ws i) (suc n)) (searching (put H x n)) in
      let taken : upd W.node_owner n (owner i) n ≢ 1 = λ y. let z = upd_same W.node_owner n (owner i) in omega arith in
      let room : n < s₀.nodes = omega (arith, owned_taken fresh n taken) in
      let E = theory.take_grows a.inv.structure free K (level_ref H) (owner i) (λ y. omega arith) in
      record {
        world = theory.take_node W n K (level_ref H) (owner i);
        worker = c;
        table = record {
          width = a.table.width;
          ranges = a.table.ranges;
          same = same;
          shows = rw (a.matches.pixel_is, o.level_is) (shows_node a.table.shows n K (level_ref H) room);
          nodes_fresh = fresh;
          levels_fresh = rw e a.table.levels_fresh;
          nodes_le = le;
          levels_le = rw e a.table.levels_le;
        };
        inv = turns.fetch_turn a.inv i (is_searching_lem o.small o.since-le l) free others had;
        levels = rw e (levels_stay a.levels i a.here c E refl);
        matches = record { pixel_is = a.matches.pixel_is; node_is = add-one n; level_is = a.matches.level_is; doing = searches refl refl (puts o.level_is (place_as refl refl o.place)) };
        rowing = goes E refl still_searching refl refl;
        falls = λ y. rw o.act_is (fetch_falls a.inv.structure (level_count w s₀) free (λ y. omega arith) l);
        dooming = rw o.act_is (fetch_dooming K a.inv.structure free (λ y. omega arith) l);
        held = held;
      }

  -- the next number, which question 9 has left
  new_node : {x : Pos} (o : Searcher a (fetch H x) H x) → Local W (owner i) (ws i).key (ws i).since (fetch H x) → s.nodes_taken < s.nodes → r.head.held_node ≡ 0 → TurnOk w s₀ W ws i (with_node (by_pos Put Append x) (took_node s) r.head s.nodes_taken m)
  unfolding took_node
  new_node o l left none =
      let n = s.nodes_taken in
      let nobody = a.table.nodes_fresh.beyond n (omega arith) in
      let all = a.table.same.nodes_is in
      with_node_lem o l (took_node s) n (record { width_is = a.table.same.width_is; workers_is = a.table.same.workers_is; limit_is = a.table.same.limit_is; nodes_is = all; viewers_is = a.table.same.viewers_is }) refl
      (rw add-one (fresh_next a.table.nodes_fresh (owner i) (λ y. omega arith)))
      (omega arith) (λ y. omega arith) (λ j d y. omega arith) (inl (sym a.matches.node_is ∙ none))
      (took o.act_is (sym a.matches.node_is ∙ none) a.table.nodes_fresh refl (add-one n))

  -- the spare node
  old_node : {x : Pos} (o : Searcher a (fetch H x) H x) → Local W (owner i) (ws i).key (ws i).since (fetch H x) → r.head.held_node ≢ 0 → TurnOk w s₀ W ws i (with_node (by_pos Put Append x) s r.head (r.head.held_node - 1) m)
  old_node o l some =
      let n = r.head.held_node - 1 in
      let is : (ws i).node ≡ suc n = omega (arith, a.matches.node_is) in
      let mine = node_owner_lem a is in
      with_node_lem o l s n a.table.same refl (fresh_keep a.table.nodes_fresh n (owner i) (node_owned a is) (λ y. omega arith)) a.table.nodes_le
      (λ y. omega arith) (λ j d y. d (omega arith)) (inr is) (keeps a.table.nodes_fresh (sym is))

  taken_node : {x : Pos} (o : Searcher a (fetch H x) H x) → Local W (owner i) (ws i).key (ws i).since (fetch H x) → question9 s r ≡ true → TurnOk w s₀ W ws i (take_node (by_pos Put Append x) s r.head m)
  unfolding take_node
  taken_node {x} o l q =
      pick-both (TurnOk w s₀ W ws i) (eqb r.head.held_node 0)
      (λ e. let z = eqb-true _ _ e in new_node o l (node_left_lem s r q (ap takes_node o.kind_is ∙ takes_node_lem H x) z) z)
      (λ e. old_node o l (eqb-false _ _ e))

  pub fetch_turn : (looks : Bool) (x : Pos) (o : Searcher a (fetch H x) H x) → Local W (owner i) (ws i).key (ws i).since (fetch H x) → question9 s r ≡ true → TurnOk w s₀ W ws i (act_by (search_kind (fetch H x)) w looks s r.head r.moves m)
  unfolding act_by take take_tail
  fetch_turn looks at_entry o l q = taken_node o l q
  fetch_turn looks (at_node R C) o l q = taken_node o l q
