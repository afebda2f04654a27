-- SetLevel and SetClose: a level is taken for the full chain that a node is set into, and closes it; done, a Move inside this Move begins.
-- Relies on the taking of a level and the closing of a chain, which a search does alike, and on the nesting of frames for a Move that is left.
use Prim.Native.Nat.{ℕ, suc, ◌+◌, ◌<◌}
use mathlib.Core.Path.{◌≡◌, refl, sym, ◌∙◌}
use mathlib.Core.Bool.{Bool, true}
use mathlib.Core.List.{List, ◌∷◌}
use native.Mathlib.Numerals.{add-one}
use native.Mathlib.Omega.{arith}
use lib.ListN.{length}
use borrow.Author.Tests.{lt-ltb}
use Rattle.words.specs.Digits.{depths}
use Rattle.words.proofs.Choice.{both_true}
use Rattle.settings.specs.Sizes.{level_count, max_moves}
use Rattle.settings.specs.declared.Settings.{Settings}
use Rattle.areas.specs.Memory.{Memory, cell_at}
use Rattle.record.specs.declared.Kind.TheVariants.{SetLevel, SetClose}
use Rattle.record.specs.declared.Head.{Head}
use Rattle.record.specs.declared.Move.{Move}
use Rattle.record.specs.Layout.{record'}
use Rattle.rules.specs.Heads.{holding_level}
use Rattle.rules.specs.Moving.{set_level, set_close}
use Rattle.rules.specs.Acts.{inner, outer, act_by}
use Rattle.rules.specs.Asked.{move_left, set_closes, reads_by}
use Rattle.trie.proofs.Tree.{inside_depth}
use Rattle.trie.proofs.Stand.{at_node}
use Rattle.trie.proofs.Search.{Phase, level, shut, Blank}
use Rattle.trie.proofs.Move.{Frame, set, set_levels, set_shuts, frames-le, frame_depth}
use Rattle.trie.proofs.MoveTurns.{shut_can}
use Rattle.trie.proofs.MoveFalls.{set-level_falls}
use Rattle.trie.proofs.Dooms.{missed-not}
use Rattle.trie.proofs.Advance.{set-level_dooming}
use Rattle.trie.proofs.Whole.{Worker, moving, owner}
use Rattle.trie.proofs.Turns.{set-level-turn, set_shut_turn}
use Rattle.rules.proofs.Matches.{Doing, moves, sets, shuts, more}
use Rattle.rules.proofs.Invariant.{WorldOf, At, TurnOk}
use Rattle.rules.proofs.Standing.{exchanges_ok}
use Rattle.rules.proofs.Turned.{still_moving, place_as}
use Rattle.rules.proofs.TakingLevel as taking
use Rattle.rules.proofs.Closing as closing
use Rattle.rules.proofs.MoveRecords.{frames-length}
use Rattle.rules.proofs.Setter.{Setter, standing, sets_by, acts_by}
use Rattle.rules.proofs.MoveSetAgain.{follows_ok, follow_ok}

module _ {w : ℕ} {s₀ s : Settings} {m : Memory} {W : WorldOf w s₀} {ws : ℕ → Worker} {i : ℕ} {h : Head} {v : Move} {os : List Move} {a : At w s₀ s m W ws i (record' h (v ∷ os))} {f : Frame} {fs : List Frame} {N T R C : ℕ} {p : Phase} (o : Setter a f fs N p T (at_node R C)) (full : C ≡ s₀.limit) (deep : suc (W.tree.depth T) < depths w) where
  pub level-asks : reads_by SetLevel w s h (v ∷ os) m ≡ true
  unfolding reads_by
  level-asks = taking.level-asks a (standing o) deep

  pub level-turn : (looks : Bool) → p ≡ level T (at_node R C) → TurnOk w s₀ W ws i (act_by SetLevel w looks s h (v ∷ os) m)
  unfolding act_by set_level holding_level inner outer
  level-turn looks z =
      taking.level-turn a (standing o) SetClose (v ∷ os) (λ G. moving f fs (set N (shut T (at_node R C) G))) (λ G. still_moving) shows
      (λ G free others had. set-level-turn a.inv i (acts_by o (sets_by o (set_levels o.setting full deep))) free others had)
      (λ G free. rw (o.act_is, z) (record { falls = set-level_falls a.inv.structure (level_count w s₀) o.frame o.around free _ _ _ (owner i) (λ y. omega arith) o.setting.path.pub_at o.setting.stand; dooming = set-level_dooming (ws i).key a.inv.structure free _ _ _ (owner i) (λ y. omega arith) o.setting.path.pub_at o.setting.stand }))
    where
      shows : (G : ℕ) → Doing (holding_level SetClose (G + 1) h) (v ∷ os) (moving f fs (set N (shut T (at_node R C) G)))
      shows G = moves refl (more o.on o.around_on) (sets (shuts o.level_is (place_as refl refl o.place) (add-one G)))

  -- level M in hand
  module _ {M : ℕ} (e : h.held_level ≡ suc M) (blank : Blank W (owner i) (W.pixel N) T M) where
    hand : (ws i).level ≡ suc M
    hand = sym a.matches.level_is ∙ e

    -- the Moves lie one above another, and the innermost above a level that is not the deepest
    one_inside : length (v ∷ os) < max_moves w
    unfolding max_moves
    one_inside =
        let S = a.inv.structure in
        let q = frames-length o.around_on in
        let x = frames-le S o.around in
        let u = frame_depth S o.frame in
        let y = inside_depth S.tree_ok o.setting.inside in
        omega arith

    pub close-asks : reads_by SetClose w s h (v ∷ os) m ≡ true
    unfolding reads_by set_closes move_left cell_at
    close-asks =
        both_true (closing.close-asks a (standing o) hand) (exchanges_ok a (standing o) _ _ (lt-ltb (length (v ∷ os)) (max_moves w) one_inside) (follows_ok o))

    pub close-turn : (looks : Bool) → p ≡ shut T (at_node R C) M → TurnOk w s₀ W ws i (act_by SetClose w looks s h (v ∷ os) m)
    unfolding act_by set_close inner outer cell_at
    close-turn looks z =
        closing.close-turn a (standing o) hand (more o.on o.around_on)
        (λ q. shut_can a.inv.structure {v = owner i} (λ y. omega arith) o.setting full deep blank q)
        (λ q. set_shut_turn a.inv i (acts_by o (sets_by o (set_shuts o.setting full deep blank))) hand q)
        (λ q. rw (o.act_is, z) (λ y. omega (arith, missed-not W (W.pixel N) T (at_node R C) q)))
        _ (follow_ok o)
