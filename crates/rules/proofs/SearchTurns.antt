-- The ten searching kinds of turn over the words: question 6 holds, and what the turn does is an effect of the theory and the worker's next clause.
-- Relies on what a turn reads and on the theory's turns of a search.
use Prim.Native.Nat.{ℕ, ◌≤◌, ◌<◌, ◌^◌}
use mathlib.Core.Path.{◌≡◌}
use mathlib.Core.Bool.{Bool, true}
use lib.ListN.{length}
use Rattle.words.specs.Digits.{base, depths}
use Rattle.settings.specs.declared.Settings.{Settings}
use Rattle.areas.specs.Memory.{Memory}
use Rattle.record.specs.Layout.{Record}
use Rattle.rules.specs.Acts.{act}
use Rattle.rules.specs.Asked.{reads_by, question9}
use Rattle.trie.proofs.Search as clause
use Rattle.trie.proofs.Search.{Phase, Searching, peek, fetch, put, again, level, shut}
use Rattle.trie.proofs.Measure.{level_of, pos_of}
use Rattle.trie.proofs.Falls.{again_last}
use Rattle.trie.proofs.Whole.{Worker, searching, ActOk, is_searching_lem, owner}
use Rattle.rules.proofs.Matches.{search_kind, Place, peeks, fetches, puts, agains, levels, shuts, Doing, searches}
use Rattle.rules.proofs.Invariant.{WorldOf, At, TurnOk}
use Rattle.rules.proofs.Turned.{turn_by, asks_by}
use Rattle.rules.proofs.Searcher.{Searcher}
use Rattle.rules.proofs.SearchPeek.{peek_asks, peek_turn}
use Rattle.rules.proofs.SearchTake.{fetch_asks, fetch_turn}
use Rattle.rules.proofs.SearchPut.{put-asks, put-turn}
use Rattle.rules.proofs.SearchAgain.{again_asks, again_turn}
use Rattle.rules.proofs.SearchLevels.{level-asks, level-turn, shut_asks, shut_turn}

module _ {w : ℕ} {s₀ s : Settings} {m : Memory} {W : WorldOf w s₀} {ws : ℕ → Worker} {i : ℕ} {r : Record} (a : At w s₀ s m W ws i r) where
  -- question 6 holds of the turn, and after question 9 the turn is as it has to be
  record Turns (looks : Bool) : Type 0 where
    asks : reads_by r.head.kind w s r.head r.moves m ≡ true
    turn : question9 s r ≡ true → TurnOk w s₀ W ws i (act w looks s r m)

  pub searcher : (p : Phase) → (ws i).act ≡ searching p → r.head.kind ≡ search_kind p → r.head.level ≡ level_of p → Place r.head (pos_of p) → (ws i).key < base w ^ depths w → (ws i).since ≤ length W.book → Searching W (ws i).key (level_of p) (pos_of p) → Searcher a p (level_of p) (pos_of p)
  searcher p e k g d small b c = record { kind_is = k; level_is = g; place = d; small = small; since-le = b; search = c; act_is = e; again_last = again_last W p }

  -- by the phase, of which the record has the kind and the numbers, and the theory the clause
  by_phase : (looks : Bool) (p : Phase) → (ws i).act ≡ searching p → Doing r.head r.moves (searching p) → ActOk W (owner i) (ws i).key (ws i).since (searching p) → Turns looks
  by_phase looks (peek H x) e (searches k n (peeks g d)) (is_searching_lem small b (clause.peeks c)) =
      let o = searcher (peek H x) e k g d small b c in
      record { asks = asks_by a k (peek_asks x o); turn = λ q. turn_by a looks k (peek_turn looks x o) }
  by_phase looks (fetch H x) e (searches k n (fetches g d)) (is_searching_lem small b (clause.fetches c l u)) =
      let o = searcher (fetch H x) e k g d small b c in
      record { asks = asks_by a k (fetch_asks x o); turn = λ q. turn_by a looks k (fetch_turn looks x o (clause.fetches c l u) q) }
  by_phase looks (put H x j) e (searches k n (puts g d)) (is_searching_lem small b (clause.puts c l v p t)) =
      let o = searcher (put H x j) e k g d small b c in
      record { asks = asks_by a k (put-asks x o (clause.puts c l v p t)); turn = λ q. turn_by a looks k (put-turn looks x o (clause.puts c l v p t)) }
  by_phase looks (again H x) e (searches k n (agains g d)) (is_searching_lem small b (clause.reads c y)) =
      let o = searcher (again H x) e k g d small b c in
      record { asks = asks_by a k (again_asks x o y); turn = λ q. turn_by a looks k (again_turn looks x o y) }
  by_phase looks (level H x) e (searches k n (levels g d)) (is_searching_lem small b (clause.levels c l y)) =
      let o = searcher (level H x) e k g d small b c in
      record { asks = asks_by a k (level-asks o (clause.levels c l y)); turn = λ q. turn_by a looks k (level-turn o looks (clause.levels c l y)) }
  by_phase looks (shut H x G) e (searches k n (shuts g d f)) (is_searching_lem small b (clause.shuts c l y t)) =
      let o = searcher (shut H x G) e k g d small b c in
      record { asks = asks_by a k (shut_asks o (clause.shuts c l y t)); turn = λ q. turn_by a looks k (shut_turn o (clause.shuts c l y t) looks) }

  turns : (looks : Bool) (p : Phase) → (ws i).act ≡ searching p → Turns looks
  turns looks p e = by_phase looks p e (rw e at a.matches.doing) (rw e at (a.inv.each i).acts)

  pub search_asks : (p : Phase) → (ws i).act ≡ searching p → reads_by r.head.kind w s r.head r.moves m ≡ true
  search_asks p e = (turns true p e).asks

  pub search_turn : (looks : Bool) (p : Phase) → (ws i).act ≡ searching p → question9 s r ≡ true → TurnOk w s₀ W ws i (act w looks s r m)
  search_turn looks p e q = (turns looks p e).turn q
