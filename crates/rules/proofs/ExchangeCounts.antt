-- What the exchange of a turn came to, and who is doomed, are over the words what they are in the theory.
-- Relies on where a worker stands, in a search and in a Move alike.
use Prim.Native.Nat.{ℕ, ◌-◌}
use mathlib.Core.Path.{◌≡◌, refl, sym, subst}
use mathlib.Core.Bool.{Bool, true, false, not}
use mathlib.Core.List.{List, [], ◌∷◌}
use native.Mathlib.Omega.{arith}
use Rattle.words.specs.Choice.{pick}
use Rattle.words.proofs.Choice.{true_false}
use Rattle.settings.specs.declared.Settings.{Settings}
use Rattle.areas.specs.Memory.{Memory, cell_at}
use Rattle.areas.specs.declared.Cell.{Cell}
use Rattle.record.specs.declared.Kind.{Kind}
use Rattle.record.specs.declared.Exchange.TheVariants.{Done, Failed}
use Rattle.record.specs.declared.Head.{Head}
use Rattle.record.specs.declared.Move.{Move}
use Rattle.record.specs.Layout.{Record, record'}
use Rattle.rules.specs.Steps.{expected}
use Rattle.rules.specs.Searching.{entry_of}
use Rattle.rules.specs.Moving.{set_cell_of}
use Rattle.rules.specs.Acts.{inner}
use Rattle.rules.specs.Exchanges.{Commitment, free, later, now, commits, exchange_by, doomed_by, failed_in, done_in}
use Rattle.trie.proofs.Digits.{Dims}
use Rattle.trie.proofs.World.{World}
use Rattle.trie.proofs.Stand.{Pos, at_entry, at_node}
use Rattle.trie.proofs.Search as clause
use Rattle.trie.proofs.Search.{Phase, peek, fetch, put, again, level, shut}
use Rattle.trie.proofs.Move as theory
use Rattle.trie.proofs.Move.{Frame, Step, set-puts, set_levels, set_shuts}
use Rattle.trie.proofs.Dooms.{missed, dooms, fails, succeeds, missed-not, missed_yes}
use Rattle.trie.proofs.Whole.{Act, idle, searching, moving, Worker, ActOk, is_searching_lem, is_moving_lem, owner}
use Rattle.rules.proofs.Matches.{search_kind, step_kind, gather_kind, peeks, fetches, puts, agains, levels, shuts, Framed, Frames, more, Stepped, gathers, aims, sets, finishes, Doing, rests, searches, moves}
use Rattle.rules.proofs.KindNumbers.{none_fetched}
use Rattle.rules.proofs.Invariant.{WorldOf, At}
use Rattle.rules.proofs.Standing.{Standing, spot, here_reads, other_reads}
use Rattle.rules.proofs.Searcher as searcher
use Rattle.rules.proofs.Setter as setter
use Rattle.rules.proofs.SearchTurns as search
use Rattle.rules.proofs.MovingTurns as move

-- a worker with the head h and the commitment c: f exchanges of its turn fail, d are done, and it is doomed o times
pub record Counts (w : ℕ) (h : Head) (m : Memory) (c : Commitment) (f d o : ℕ) : Type 0 where
  pub failed_is : failed_in (exchange_by w h m c) ≡ f
  pub done_is : done_in (exchange_by w h m c) ≡ d
  pub doomed_is : doomed_by w h m c ≡ false → o ≡ 0

counts_free : (w : ℕ) (h : Head) (m : Memory) → Counts w h m free 0 0 0
unfolding exchange_by failed_in done_in
counts_free w h m = record { failed_is = refl; done_is = refl; doomed_is = λ e. refl }

module _ {w : ℕ} {s₀ s : Settings} {m : Memory} {W : WorldOf w s₀} {ws : ℕ → Worker} {i : ℕ} {r : Record} (a : At w s₀ s m W ws i r) {P : ℕ → Type 0} {p K H : ℕ} {x : Pos} (o : Standing W P r.head p K H x) where
  -- the cell where the worker stands
  abbrev here : Cell
  here = spot w r.head p m.levels x

  -- whoever is not doomed there still finds its level
  doomed-not : (b : Bool) → expected r.head (cell_at w m here) ≡ b → not b ≡ false → missed W K H x ≡ 0
  doomed-not true e n = missed-not W K H x (here_reads a o e)
  doomed-not false e n = absurd (true_false n)

  counts-later : Counts w r.head m (later here) 0 0 (missed W K H x)
  unfolding exchange_by doomed_by failed_in done_in
  counts-later = record { failed_is = refl; done_is = refl; doomed_is = λ e. doomed-not (expected r.head (cell_at w m here)) refl e }

  counts-now : Counts w r.head m (now here) (missed W K H x) (1 - missed W K H x) (missed W K H x)
  unfolding exchange_by doomed_by failed_in done_in pick
  counts-now =
      record {
        failed_is = (by (expected r.head (cell_at w m here)) refl).0;
        done_is = (by (expected r.head (cell_at w m here)) refl).1;
        doomed_is = λ e. doomed-not (expected r.head (cell_at w m here)) refl e;
      }
    where
      by : (b : Bool) → expected r.head (cell_at w m here) ≡ b → (failed_in (pick b Done Failed) ≡ missed W K H x) × (done_in (pick b Done Failed) ≡ 1 - missed W K H x)
      by true e = let z = missed-not W K H x (here_reads a o e) in (sym z, omega arith)
      by false e = let z = missed_yes W K H x (other_reads a o e) in (sym z, omega arith)

-- as the theory says of the act x of a worker whose call is for K
abbrev AsTheory : (w : ℕ) (m : Memory) {δ : Dims} → World δ → ℕ → Head → Commitment → Act → Type 0
AsTheory w m W K h c x = Counts w h m c (fails W K x) (succeeds W K x) (dooms W K x)

by_kind : (w : ℕ) (h : Head) (vs : List Move) (m : Memory) {k : Kind} {f d o : ℕ} → h.kind ≡ k → Counts w h m (commits k w h vs m) f d o → Counts w h m (commits h.kind w h vs m) f d o
by_kind w h vs m {k} {f} {d} {o} e c = subst (λ j. Counts w h m (commits j w h vs m) f d o) (sym e) c

idle-counts : (w : ℕ) (h : Head) (vs : List Move) (m : Memory) → Doing h vs idle → Counts w h m (commits h.kind w h vs m) 0 0 0
unfolding commits
idle-counts w h vs m (rests k v) = by_kind w h vs m k (counts_free w h m)

module _ {w : ℕ} {s₀ s : Settings} {m : Memory} {W : WorldOf w s₀} {ws : ℕ → Worker} {i : ℕ} where
  -- a phase of a search
  search_counts : {r : Record} (a : At w s₀ s m W ws i r) (p : Phase) → (ws i).act ≡ searching p → Doing r.head r.moves (searching p) → ActOk W (owner i) (ws i).key (ws i).since (searching p) → AsTheory w m W (ws i).key r.head (commits (search_kind p) w r.head r.moves m) (searching p)
  unfolding commits entry_of
  search_counts a (peek H at_entry) e d o = counts_free _ _ _
  search_counts a (peek H (at_node R C)) e d o = counts_free _ _ _
  search_counts a (fetch H at_entry) e (searches k v (fetches g d)) (is_searching_lem small b (clause.fetches c l u)) = counts-later a (searcher.standing (search.searcher a (fetch H at_entry) e k g d small b c))
  search_counts a (fetch H (at_node R C)) e (searches k v (fetches g d)) (is_searching_lem small b (clause.fetches c l u)) = counts-later a (searcher.standing (search.searcher a (fetch H (at_node R C)) e k g d small b c))
  search_counts a (put H at_entry n) e (searches k v (puts g d)) (is_searching_lem small b (clause.puts c l u q t)) = counts-now a (searcher.standing (search.searcher a (put H at_entry n) e k g d small b c))
  search_counts a (put H (at_node R C) n) e (searches k v (puts g d)) (is_searching_lem small b (clause.puts c l u q t)) = counts-now a (searcher.standing (search.searcher a (put H (at_node R C) n) e k g d small b c))
  search_counts a (again H at_entry) e d o = counts_free _ _ _
  search_counts a (again H (at_node R C)) e d o = counts_free _ _ _
  search_counts a (level H x) e (searches k v (levels g d)) (is_searching_lem small b (clause.levels c l y)) = counts-later a (searcher.standing (search.searcher a (level H x) e k g d small b c))
  search_counts a (shut H x G) e (searches k v (shuts g d f)) (is_searching_lem small b (clause.shuts c l y t)) = counts-now a (searcher.standing (search.searcher a (shut H x G) e k g d small b c))

  -- a step of a Move
  move_counts : {h : Head} {v : Move} {os : List Move} {f : Frame} {fs : List Frame} (a : At w s₀ s m W ws i (record' h (v ∷ os))) (on : Framed v f) (js : Frames os fs) {p : Step} → (ws i).act ≡ moving f fs p → Stepped h p → ActOk W (owner i) (ws i).key (ws i).since (moving f fs p) → AsTheory w m W (ws i).key h (commits (step_kind f p) w h (v ∷ os) m) (moving f fs p)
  unfolding commits set_cell_of inner
  move_counts {h} {v} {os} {f} a on js e gathers o = by f.nodes
    where
      by : (ns : List ℕ) → Counts w h m (commits (gather_kind ns) w h (v ∷ os) m) 0 0 0
      by [] = counts_free w h m
      by (n ∷ ns) = counts_free w h m
  move_counts a on js e (aims l) o = counts_free _ _ _
  move_counts a on js e (sets (peeks {x = at_entry} l d)) o = counts_free _ _ _
  move_counts a on js e (sets (peeks {x = at_node R C} l d)) o = counts_free _ _ _
  move_counts a on js e (sets (fetches l d)) (is_moving_lem small b (theory.sets pre k n t c)) = absurd (none_fetched t tt)
  move_counts a on js e (sets (puts {H = T} {n = N} {x = at_entry} l d)) (is_moving_lem small b (theory.sets pre k n (set-puts q t y) c)) = counts-now a (setter.standing (move.setter a on js (put T at_entry N) e l d small b pre k n t c))
  move_counts a on js e (sets (puts {H = T} {n = N} {x = at_node R C} l d)) (is_moving_lem small b (theory.sets pre k n (set-puts q t y) c)) = counts-now a (setter.standing (move.setter a on js (put T (at_node R C) N) e l d small b pre k n t c))
  move_counts a on js e (sets (agains {x = at_entry} l d)) o = counts_free _ _ _
  move_counts a on js e (sets (agains {x = at_node R C} l d)) o = counts_free _ _ _
  move_counts a on js e (sets (levels {H = T} {R = R} {C = C} l d)) (is_moving_lem small b (theory.sets pre k n (set_levels t y z) c)) = counts-later a (setter.standing (move.setter a on js (level T (at_node R C)) e l d small b pre k n t c))
  move_counts a on js e (sets (shuts {H = T} {R = R} {C = C} {G = G} l d q)) (is_moving_lem small b (theory.sets pre k n (set_shuts t y z u) c)) = counts-now a (setter.standing (move.setter a on js (shut T (at_node R C) G) e l d small b pre k n t c))
  move_counts a on js e finishes o = counts_free _ _ _

  moving_counts : (h : Head) {vs : List Move} {f : Frame} {fs : List Frame} {p : Step} (a : At w s₀ s m W ws i (record' h vs)) → (ws i).act ≡ moving f fs p → Doing h vs (moving f fs p) → ActOk W (owner i) (ws i).key (ws i).since (moving f fs p) → AsTheory w m W (ws i).key h (commits h.kind w h vs m) (moving f fs p)
  moving_counts h {vs} a e (moves k (more on js) t) o = by_kind w h vs m k (move_counts a on js e t o)

  -- whatever the worker does
  pub counts : {r : Record} (a : At w s₀ s m W ws i r) → AsTheory w m W (ws i).key r.head (commits r.head.kind w r.head r.moves m) (ws i).act
  counts {r} a = by (ws i).act refl
    where
      by : (x : Act) → (ws i).act ≡ x → AsTheory w m W (ws i).key r.head (commits r.head.kind w r.head r.moves m) (ws i).act
      by idle e = rw e (idle-counts w r.head r.moves m (rw e at a.matches.doing))
      by (searching p) e = rw e (searched (rw e at a.matches.doing))
        where
          searched : Doing r.head r.moves (searching p) → AsTheory w m W (ws i).key r.head (commits r.head.kind w r.head r.moves m) (searching p)
          searched (searches k v n) = by_kind w r.head r.moves m k (search_counts a p e (searches k v n) (rw e at (a.inv.each i).acts))
      by (moving f fs p) e = rw e (moving_counts r.head a e (rw e at a.matches.doing) (rw e at (a.inv.each i).acts))
