-- Look and Tail: question 6 holds, and the next kind is that of the theory's peek.
-- Relies on a worker that searches, on the theory's own turns of a search.
use Prim.Native.Nat.{ℕ, ◌<◌}
use mathlib.Core.Path.{◌≡◌, refl, sym, ◌∙◌}
use mathlib.Core.Bool.{Bool, true, false}
use mathlib.Core.List.{[]}
use native.Mathlib.Omega.{arith}
use Rattle.words.specs.Choice.{pick, both}
use Rattle.words.proofs.Choice.{pick-both, both_true, both_right, true_false}
use Rattle.settings.specs.declared.Settings.{Settings}
use Rattle.areas.specs.Memory.{Memory, level_ref, cell_at}
use Rattle.record.specs.declared.Kind.{Kind}
use Rattle.record.specs.declared.Kind.TheVariants.{Take, Read, TakeTail, Level, Follow}
use Rattle.record.specs.declared.Answer.TheVariants.{Absent}
use Rattle.record.specs.Kinds.{kind_no}
use Rattle.record.specs.Layout.{Record}
use Rattle.rules.specs.Heads.{to, ended}
use Rattle.rules.specs.Steps.{step, going, expected, peeked, by_count}
use Rattle.rules.specs.Searching.{entry_of, takes_node, takes_next, viewed, look, tail}
use Rattle.rules.specs.Acts.{act_by}
use Rattle.rules.specs.Asked.{reads_by, reads_ref, looks, tails}
use Rattle.trie.proofs.Advance.{dooming_read}
use Rattle.trie.proofs.Stand.{Pos, at_entry, at_node, passed}
use Rattle.trie.proofs.Search.{peek, fetch, again, level, word, absent, peek_fetch, peek_level}
use Rattle.trie.proofs.Evolve.{grows_refl}
use Rattle.trie.proofs.Levels.{levels_stay}
use Rattle.trie.proofs.Turns.{does}
use Rattle.trie.proofs.Measure.{phase}
use Rattle.trie.proofs.Falls.{later}
use Rattle.trie.proofs.Dooms.{missed-not}
use Rattle.trie.proofs.Whole.{idle, Worker, is_idle, stay_step}
use Rattle.rules.proofs.Matches.{by_pos, search_kind, fetches, levels, rests}
use Rattle.rules.proofs.Invariant.{WorldOf, ends_absent, left, At, TurnOk}
use Rattle.rules.proofs.Standing.{picks_ok, stands_ok, spot_ok, here_reads, other_reads, by_count_lem}
use Rattle.rules.proofs.Turned.{place-to, limit_pos}
use Rattle.rules.proofs.Searcher.{Searcher, standing, level-to, goes_to_lem, goes_again}

module _ {w : ℕ} {s₀ s : Settings} {m : Memory} {W : WorldOf w s₀} {ws : ℕ → Worker} {i : ℕ} {r : Record} {a : At w s₀ s m W ws i r} {H : ℕ} where
  pub peek_asks : (x : Pos) → Searcher a (peek H x) H x → reads_by (search_kind (peek H x)) w s r.head r.moves m ≡ true
  unfolding reads_by looks tails reads_ref cell_at entry_of
  peek_asks at_entry o = both_true (picks_ok a (standing o)) (spot_ok a (standing o))
  peek_asks (at_node R C) o = both_true (stands_ok a (standing o)) (spot_ok a (standing o))

  -- H is read: a node is wanted
  goes_fetch : {x : Pos} (o : Searcher a (peek H x) H x) → word W (ws i).key H x ≡ level_ref H → passed x < s₀.limit → TurnOk w s₀ W ws i (going s (to (by_pos Take TakeTail x) r.head) [] m)
  goes_fetch {x} o q c =
      goes_to_lem o {q = fetch H x} (later W (peek H x) (fetch H x) refl refl (omega arith)) (missed-not W (ws i).key H x q) refl (fetches (level-to o (by_pos Take TakeTail x)) (place-to (by_pos Take TakeTail x) o.place))
      (peek_fetch a.inv.structure a.inv.partition o.since-le o.search q c)

  rereads : {x : Pos} → Searcher a (peek H x) H x → phase W (again H x) < phase W (peek H x)
  rereads {x} o = later W (peek H x) (again H x) refl refl (omega arith)

  -- at a node by its count
  goes_by_count : {R C : ℕ} (o : Searcher a (peek H (at_node R C)) H (at_node R C)) → word W (ws i).key H (at_node R C) ≡ level_ref H → TurnOk w s₀ W ws i (going s (to (by_count s r.head.count TakeTail Level Follow) r.head) [] m)
  goes_by_count {R} {C} o q =
      by_count_lem a (standing o) (λ k. TurnOk w s₀ W ws i (going s (to k r.head) [] m)) TakeTail Level Follow q (goes_fetch o q)
      (λ c. goes_to_lem o {q = level H (at_node R C)} (later W (peek H (at_node R C)) (level H (at_node R C)) refl refl (omega arith)) (missed-not W (ws i).key H (at_node R C) q) refl (levels (level-to o Level) (place-to Level o.place)) (peek_level a.inv.structure a.inv.partition o.search q c))

  -- H is read by a viewer: its pixel is not placed
  ends_so : {x : Pos} (o : Searcher a (peek H x) H x) (k : Kind) → word W (ws i).key H x ≡ level_ref H → TurnOk w s₀ W ws i (step Absent s (ended 5 0 (to k r.head).held_node (to k r.head)) [] m)
  unfolding ended to
  ends_so o k q =
      let c = does (ws i) idle in
      record {
        world = W;
        worker = c;
        table = a.table;
        inv = stay_step a.inv i c (record { acts = is_idle; holds_node = (a.inv.each i).holds_node; holds_level = (a.inv.each i).holds_level });
        levels = levels_stay a.levels i a.here c (grows_refl W) refl;
        matches = record { pixel_is = a.matches.pixel_is; node_is = a.matches.node_is; level_is = a.matches.level_is; doing = rests refl refl };
        rowing = ends_absent (absent a.inv.structure a.inv.partition o.search q) refl refl;
        falls = λ y. absurd (y refl);
        dooming = dooming_read (ws i).key refl;
        held = left a.table.nodes_fresh refl;
      }

  -- the next kind, of a viewer or of another worker
  viewed-here : {x : Pos} (looks : Bool) (o : Searcher a (peek H x) H x) (k : Kind) → word W (ws i).key H x ≡ level_ref H → TurnOk w s₀ W ws i (going s (to k r.head) [] m) → TurnOk w s₀ W ws i (viewed looks s (to k r.head) m)
  unfolding viewed
  viewed-here looks o k q t = pick-both (TurnOk w s₀ W ws i) (both looks (takes_next (to k r.head).kind)) (λ e. ends_so o k q) (λ e. t)

  viewed_other : {x : Pos} (looks : Bool) (o : Searcher a (peek H x) H x) (k : Kind) → takes_next k ≡ false → TurnOk w s₀ W ws i (going s (to k r.head) [] m) → TurnOk w s₀ W ws i (viewed looks s (to k r.head) m)
  unfolding viewed to
  viewed_other looks o k n t = pick-both (TurnOk w s₀ W ws i) (both looks (takes_next k)) (λ e. absurd (true_false (sym (both_right looks _ e) ∙ n))) (λ e. t)

  pub peek_turn : (looks : Bool) (x : Pos) → Searcher a (peek H x) H x → TurnOk w s₀ W ws i (act_by (search_kind (peek H x)) w looks s r.head r.moves m)
  unfolding act_by look tail peeked cell_at entry_of takes_next takes_node kind_no pick
  peek_turn looks at_entry o =
      pick-both (λ k. TurnOk w s₀ W ws i (viewed looks s (to k r.head) m)) (expected r.head _)
      (λ e. let q = here_reads a (standing o) e in viewed-here looks o Take q (goes_fetch o q (limit_pos a)))
      (λ e. viewed_other looks o Read refl (goes_again o (rereads o) (other_reads a (standing o) e)))
  peek_turn looks (at_node R C) o =
      pick-both (λ k. TurnOk w s₀ W ws i (viewed looks s (to k r.head) m)) (expected r.head _)
      (λ e. let q = here_reads a (standing o) e in viewed-here looks o _ q (goes_by_count o q))
      (λ e. viewed_other looks o Follow refl (goes_again o (rereads o) (other_reads a (standing o) e)))
