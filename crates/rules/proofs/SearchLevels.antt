-- Level and Close of a search.
-- Relies on the taking of a level and the closing of a chain, which a Move does alike.
use Prim.Native.Nat.{ℕ, suc, ◌+◌}
use mathlib.Core.Path.{◌≡◌, refl}
use mathlib.Core.Bool.{Bool, true}
use mathlib.Core.List.{[]}
use native.Mathlib.Numerals.{add-one}
use native.Mathlib.Omega.{arith}
use Rattle.settings.specs.Sizes.{level_count}
use Rattle.settings.specs.declared.Settings.{Settings}
use Rattle.words.proofs.Choice.{both_true}
use Rattle.areas.specs.Memory.{Memory, cell_at}
use Rattle.record.specs.declared.Kind.TheVariants.{Close}
use Rattle.record.specs.Layout.{Record}
use Rattle.rules.specs.Heads.{holding_level}
use Rattle.rules.specs.Searching as spec
use Rattle.rules.specs.Acts.{act_by}
use Rattle.rules.specs.Asked as asks
use Rattle.rules.specs.Asked.{reads_by}
use Rattle.trie.proofs.Stand.{at_node}
use Rattle.trie.proofs.Search.{level, shut, Local, levels, shuts, shut_done}
use Rattle.trie.proofs.Falls.{level_falls}
use Rattle.trie.proofs.Dooms.{missed-not}
use Rattle.trie.proofs.Advance.{level_dooming}
use Rattle.trie.proofs.Whole.{searching, Worker, is_searching_lem, owner}
use Rattle.trie.proofs.Turns as turns
use Rattle.rules.proofs.Matches as shown
use Rattle.rules.proofs.Matches.{search_kind, Doing, searches, none}
use Rattle.rules.proofs.Invariant.{WorldOf, At, TurnOk}
use Rattle.rules.proofs.Standing.{exchanges_ok}
use Rattle.rules.proofs.Turned.{still_searching, place_as}
use Rattle.rules.proofs.TakingLevel as taking
use Rattle.rules.proofs.Closing as closing
use Rattle.rules.proofs.Searcher.{Searcher, standing}
use Rattle.rules.proofs.SearchAgain.{follow_ok, follows_ok}

module _ {w : ℕ} {s₀ s : Settings} {m : Memory} {W : WorldOf w s₀} {ws : ℕ → Worker} {i : ℕ} {r : Record} {a : At w s₀ s m W ws i r} {H R C : ℕ} (o : Searcher a (level H (at_node R C)) H (at_node R C)) where
  pub level-asks : Local W (owner i) (ws i).key (ws i).since (level H (at_node R C)) → reads_by (search_kind (level H (at_node R C))) w s r.head r.moves m ≡ true
  unfolding reads_by
  level-asks (levels k c d) = taking.level-asks a (standing o) d

  pub level-turn : (looks : Bool) → Local W (owner i) (ws i).key (ws i).since (level H (at_node R C)) → TurnOk w s₀ W ws i (act_by (search_kind (level H (at_node R C))) w looks s r.head r.moves m)
  unfolding act_by spec.level holding_level
  level-turn looks l =
      taking.level-turn a (standing o) Close [] (λ G. searching (shut H (at_node R C) G)) (λ G. still_searching) shows
      (λ G free others had. turns.level-turn a.inv i (is_searching_lem o.small o.since-le l) free others had)
      (λ G free. rw o.act_is (record { falls = level_falls a.inv.structure (level_count w s₀) free _ _ _ (owner i) (λ y. omega arith) o.search.path.pub_at o.search.stand; dooming = level_dooming (ws i).key a.inv.structure free _ _ _ (owner i) (λ y. omega arith) o.search.path.pub_at o.search.stand }))
    where
      shows : (G : ℕ) → Doing (holding_level Close (G + 1) r.head) [] (searching (shut H (at_node R C) G))
      shows G = searches refl refl (shown.shuts o.level_is (place_as refl refl o.place) (add-one G))

module _ {w : ℕ} {s₀ s : Settings} {m : Memory} {W : WorldOf w s₀} {ws : ℕ → Worker} {i : ℕ} {r : Record} {a : At w s₀ s m W ws i r} {H R C G : ℕ} (o : Searcher a (shut H (at_node R C) G) H (at_node R C)) (l : Local W (owner i) (ws i).key (ws i).since (shut H (at_node R C) G)) where
  -- the level in hand
  in_hand_lem : (ws i).level ≡ suc G
  in_hand_lem = by l
    where
      by : Local W (owner i) (ws i).key (ws i).since (shut H (at_node R C) G) → (ws i).level ≡ suc G
      by (shuts k c d b) = ((a.inv.each i).holds_level G).0 b.mine

  pub shut_asks : reads_by (search_kind (shut H (at_node R C) G)) w s r.head r.moves m ≡ true
  unfolding reads_by asks.closes cell_at
  shut_asks = both_true (closing.close-asks a (standing o) in_hand_lem) (exchanges_ok a (standing o) _ _ refl (follows_ok o))

  pub shut_turn : (looks : Bool) → TurnOk w s₀ W ws i (act_by (search_kind (shut H (at_node R C) G)) w looks s r.head r.moves m)
  unfolding act_by spec.close cell_at
  shut_turn looks =
      closing.close-turn a (standing o) in_hand_lem none
      (λ q. shut_done a.inv.structure a.inv.partition (λ y. omega arith) l q)
      (λ q. turns.shut_turn a.inv i (is_searching_lem o.small o.since-le l) in_hand_lem q)
      (λ q. rw o.act_is (λ y. omega (arith, missed-not W (ws i).key H (at_node R C) q)))
      _ (follow_ok o)
