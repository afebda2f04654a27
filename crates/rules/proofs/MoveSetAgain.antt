-- SetRead, SetFollow, and a failed SetPut, SetAppend or SetClose: a node that is met is gone on to, and from a level the worker goes back to the child and sets the node there.
-- Relies on a worker that sets a node, on what it does where it reads again, and on the theory's clauses.
use Prim.Native.Nat.{ℕ}
use mathlib.Core.Path.{◌≡◌, refl, ap, ◌∙◌}
use mathlib.Core.Logic.{◌≢◌}
use mathlib.Core.Bool.{Bool, true}
use mathlib.Core.List.{List, ◌∷◌}
use native.Mathlib.Omega.{arith}
use Rattle.words.proofs.Choice.{pick_true, pick_false, both_true}
use Rattle.settings.specs.Sizes.{level_count}
use Rattle.settings.specs.declared.Settings.{Settings}
use Rattle.areas.specs.Memory.{Memory, level_ref, node_ref, is_node, named, next_at, cell_at}
use Rattle.record.specs.declared.Kind.TheVariants.{SetNext, SetRead, SetTail, SetFollow}
use Rattle.record.specs.declared.Head.{Head}
use Rattle.record.specs.declared.Move.{Move}
use Rattle.record.specs.Layout.{record'}
use Rattle.rules.specs.Heads.{to_level, to_node, last_node}
use Rattle.rules.specs.Steps.{going}
use Rattle.rules.specs.Moving.{set_cell_of, set_met, set_read_word, set_follow_word, set_read, set_follow}
use Rattle.rules.specs.Acts.{inner, outer, act_by}
use Rattle.rules.specs.Asked.{reads_ref, goes_back, set_follows_ref, set_looks, set_follows, reads_by}
use Rattle.trie.proofs.Stand as theory
use Rattle.trie.proofs.Stand.{Pos, at_entry, at_node, passed}
use Rattle.trie.proofs.Search.{Phase, word}
use Rattle.trie.proofs.Move.{Frame, set_reads}
use Rattle.trie.proofs.MoveTurns as turns
use Rattle.trie.proofs.Falls.{onward_less}
use Rattle.trie.proofs.MoveFalls.{set_falls, set_down_falls}
use Rattle.trie.proofs.Whole.{Worker, owner}
use Rattle.rules.proofs.Dims.{dims}
use Rattle.rules.proofs.Matches.{by_pos}
use Rattle.rules.proofs.Invariant.{WorldOf, At, TurnOk}
use Rattle.rules.proofs.Reading.{node_ref_lem, level_ref_lem, named_node, named-level}
use Rattle.rules.proofs.Standing.{stands_ok, spot-reads, spot_ok}
use Rattle.rules.proofs.Rereading.{count_from, goes_to, count_from_lem, goes_to_is, back_ok}
use Rattle.rules.proofs.MoveOn.{next_node, next_aim}
use Rattle.rules.proofs.Setter.{Setter, standing, entry_ok, sets_by, goes_on_lem}

-- what is made of a node, and of a level
met_goes : (s : Settings) (h : Head) (v : Move) (os : List Move) (c g R : ℕ) (m : Memory) → set_met s h v os c g (node_ref R) m ≡ going s (to_node SetTail R c h) (v ∷ os) m
unfolding set_met
met_goes s h v os c g R m = ap (λ k. going s k (v ∷ os) m) (pick_true (is_node (node_ref R)) (to_node SetTail (named (node_ref R)) c h) (to_level SetNext g h) (node_ref_lem R) ∙ ap (λ k. to_node SetTail k c h) (named_node R))

met_falls : (s : Settings) (h : Head) (v : Move) (os : List Move) (c g t : ℕ) (m : Memory) → set_met s h v os c g (level_ref t) m ≡ going s (to_level SetNext g h) (v ∷ os) m
unfolding set_met
met_falls s h v os c g t m = ap (λ k. going s k (v ∷ os) m) (pick_false (is_node (level_ref t)) (to_node SetTail (named (level_ref t)) c h) (to_level SetNext g h) (level_ref_lem t))

module _ {w : ℕ} {s₀ s : Settings} {m : Memory} {W : WorldOf w s₀} {ws : ℕ → Worker} {i : ℕ} {h : Head} {v : Move} {os : List Move} {a : At w s₀ s m W ws i (record' h (v ∷ os))} {f : Frame} {fs : List Frame} {N T : ℕ} {p : Phase} where
  -- question 6 of the word that SetFollow met
  pub follows_ok : {R C : ℕ} (o : Setter a f fs N p T (at_node R C)) → word W (W.pixel N) T (at_node R C) ≢ level_ref T → set_follows_ref w s h (next_at m.nodes h.node) m.levels ≡ true
  unfolding set_follows_ref cell_at
  follows_ok o y = both_true (spot_ok a (standing o)) (ap (λ u. goes_back w s.levels_taken h.level u m.levels) (spot-reads a (standing o)) ∙ back_ok a (standing o) y)

  pub again_asks : (x : Pos) (o : Setter a f fs N p T x) → word W (W.pixel N) T x ≢ level_ref T → reads_by (by_pos SetRead SetFollow x) w s h (v ∷ os) m ≡ true
  unfolding reads_by set_looks set_follows reads_ref set_cell_of inner
  again_asks at_entry o y = both_true (entry_ok o) (spot_ok a (standing o))
  again_asks (at_node R C) o y = both_true (stands_ok a (standing o)) (follows_ok o y)

  again_word : {x : Pos} (o : Setter a f fs N p T x) → word W (W.pixel N) T x ≢ level_ref T → {r : ℕ} → r ≡ word W (W.pixel N) T x → TurnOk w s₀ W ws i (set_met s h v os (count_from s h x) (goes_to w h m.levels x (named r)) r m)
  again_word {x} o y {r} u = by (turns.set-reads_next a.inv.structure a.inv.partition (sets_by o (set_reads o.setting y)))
    where
      by : turns.SetNext W (owner i) (ws i).key f fs N T x → TurnOk w s₀ W ws i (set_met s h v os (count_from s h x) (goes_to w h m.levels x (named r)) r m)
      by (turns.set_on R e q k) =
          rw (u ∙ e, met_goes s h v os (count_from s h x) (goes_to w h m.levels x (named (node_ref R))) R m, count_from_lem a (standing o)) (goes_on_lem o (set_falls a.inv.structure (level_count w s₀) o.frame o.around (omega (arith, onward_less a.inv.structure (theory.more (dims w s₀.limit) (passed x)) o.setting.stand e q, o.again_last))) refl k (next_node R (theory.more (dims w s₀.limit) (passed x)) o.level_is))
      by (turns.set_down t c e q g d n k) =
          rw (u ∙ e, met_falls s h v os (count_from s h x) (goes_to w h m.levels x (named (level_ref t))) t m, named-level t) (goes_on_lem o (set_down_falls a.inv.structure (level_count w s₀) o.frame o.around x o.again_last o.setting.path.pub_at n) refl k (next_aim (goes_to w h m.levels x t) (goes_to_is a (standing o) q g d)))

  -- what SetRead and SetFollow do with the word met
  pub read_ok : (o : Setter a f fs N p T at_entry) → word W (W.pixel N) T at_entry ≢ level_ref T → TurnOk w s₀ W ws i (set_read_word s h v os (cell_at w m (set_cell_of w h (last_node v) m)) m)
  unfolding set_read_word set_cell_of
  read_ok o y = again_word o y (spot-reads a (standing o))

  pub follow_ok : {R C : ℕ} (o : Setter a f fs N p T (at_node R C)) → word W (W.pixel N) T (at_node R C) ≢ level_ref T → TurnOk w s₀ W ws i (set_follow_word w s h v os (next_at m.nodes h.node) m)
  unfolding set_follow_word cell_at
  follow_ok o y = again_word o y (spot-reads a (standing o))

  pub again_turn : (looks : Bool) (x : Pos) (o : Setter a f fs N p T x) → word W (W.pixel N) T x ≢ level_ref T → TurnOk w s₀ W ws i (act_by (by_pos SetRead SetFollow x) w looks s h (v ∷ os) m)
  unfolding act_by set_read set_follow inner outer
  again_turn looks at_entry o y = read_ok o y
  again_turn looks (at_node R C) o y = follow_ok o y
