-- SetLook and SetTail: the worker looks whether the level that it sets a node into stands in the cell, and at a node counts.
-- Relies on a worker that sets a node, and on the theory's clauses.
use Prim.Native.Nat.{ℕ, ◌<◌}
use mathlib.Core.Path.{◌≡◌, refl}
use mathlib.Core.Bool.{Bool, true}
use mathlib.Core.List.{List, ◌∷◌}
use native.Mathlib.Omega.{arith}
use Rattle.words.proofs.Choice.{pick-both, both_true}
use Rattle.settings.specs.Sizes.{level_count}
use Rattle.settings.specs.declared.Settings.{Settings}
use Rattle.areas.specs.Memory.{Memory, level_ref, cell_at}
use Rattle.record.specs.declared.Kind.TheVariants.{SetLook, SetPut, SetTail, SetAppend, SetLevel, SetFollow}
use Rattle.record.specs.declared.Head.{Head}
use Rattle.record.specs.declared.Move.{Move}
use Rattle.record.specs.Layout.{record'}
use Rattle.rules.specs.Heads.{to}
use Rattle.rules.specs.Steps.{going, expected, peeked, by_count}
use Rattle.rules.specs.Moving.{set_cell_of, set_look, set_tail}
use Rattle.rules.specs.Acts.{inner, outer, act_by}
use Rattle.rules.specs.Asked.{reads_ref, tails, set_looks, reads_by}
use Rattle.trie.proofs.Stand.{Pos, at_entry, at_node, passed}
use Rattle.trie.proofs.Search.{peek, put, again, level, word}
use Rattle.trie.proofs.Move.{Frame, set_peeks}
use Rattle.trie.proofs.MoveTurns.{set-put, set-level}
use Rattle.trie.proofs.Measure.{phase}
use Rattle.trie.proofs.Falls.{later}
use Rattle.trie.proofs.MoveFalls.{set_falls}
use Rattle.trie.proofs.Dooms.{missed-not}
use Rattle.trie.proofs.Whole.{Worker}
use Rattle.rules.proofs.Matches.{by_pos, puts, levels}
use Rattle.rules.proofs.Invariant.{WorldOf, At, TurnOk}
use Rattle.rules.proofs.Standing.{stands_ok, spot_ok, here_reads, other_reads, by_count_lem}
use Rattle.rules.proofs.Turned.{limit_pos}
use Rattle.rules.proofs.MoveOn.{next_set}
use Rattle.rules.proofs.Setter.{Setter, standing, entry_ok, sets_by, goes_on_lem, goes_again}

module _ {w : ℕ} {s₀ s : Settings} {m : Memory} {W : WorldOf w s₀} {ws : ℕ → Worker} {i : ℕ} {h : Head} {v : Move} {os : List Move} {a : At w s₀ s m W ws i (record' h (v ∷ os))} {f : Frame} {fs : List Frame} {N T : ℕ} where
  pub peek_asks : (x : Pos) → Setter a f fs N (peek T x) T x → reads_by (by_pos SetLook SetTail x) w s h (v ∷ os) m ≡ true
  unfolding reads_by set_looks tails reads_ref cell_at set_cell_of inner
  peek_asks at_entry o = both_true (entry_ok o) (spot_ok a (standing o))
  peek_asks (at_node R C) o = both_true (stands_ok a (standing o)) (spot_ok a (standing o))

  rereads : {x : Pos} → Setter a f fs N (peek T x) T x → phase W (again T x) < phase W (peek T x)
  rereads {x} o = later W (peek T x) (again T x) refl refl (omega arith)

  -- room for the node
  has_room : {x : Pos} (o : Setter a f fs N (peek T x) T x) → word W (W.pixel N) T x ≡ level_ref T → passed x < s₀.limit → TurnOk w s₀ W ws i (going s (to (by_pos SetPut SetAppend x) h) (v ∷ os) m)
  has_room {x} o q c = goes_on_lem o (set_falls a.inv.structure (level_count w s₀) o.frame o.around (later W (peek T x) (put T x N) refl refl (omega arith))) (missed-not W (W.pixel N) T x q) (set-put a.inv.structure a.inv.partition (sets_by o (set_peeks o.setting)) c) (next_set (put T x N) (puts o.level_is o.place))

  -- at a node by its count
  counted : {R C : ℕ} (o : Setter a f fs N (peek T (at_node R C)) T (at_node R C)) → word W (W.pixel N) T (at_node R C) ≡ level_ref T → TurnOk w s₀ W ws i (going s (to (by_count s h.count SetAppend SetLevel SetFollow) h) (v ∷ os) m)
  counted {R} {C} o q =
      by_count_lem a (standing o) (λ k. TurnOk w s₀ W ws i (going s (to k h) (v ∷ os) m)) SetAppend SetLevel SetFollow q (has_room o q)
      (λ c. goes_on_lem o (set_falls a.inv.structure (level_count w s₀) o.frame o.around (later W (peek T (at_node R C)) (level T (at_node R C)) refl refl (omega arith))) (missed-not W (W.pixel N) T (at_node R C) q) (set-level a.inv.structure a.inv.partition (sets_by o (set_peeks o.setting)) q c) (next_set (level T (at_node R C)) (levels o.level_is o.place)))

  pub peek_turn : (looks : Bool) (x : Pos) → Setter a f fs N (peek T x) T x → TurnOk w s₀ W ws i (act_by (by_pos SetLook SetTail x) w looks s h (v ∷ os) m)
  unfolding act_by set_look set_tail peeked cell_at set_cell_of inner outer
  peek_turn looks at_entry o =
      pick-both (λ k. TurnOk w s₀ W ws i (going s (to k h) (v ∷ os) m)) (expected h _)
      (λ e. has_room o (here_reads a (standing o) e) (limit_pos a))
      (λ e. goes_again o (rereads o) (other_reads a (standing o) e))
  peek_turn looks (at_node R C) o =
      pick-both (λ k. TurnOk w s₀ W ws i (going s (to k h) (v ∷ os) m)) (expected h _)
      (λ e. counted o (here_reads a (standing o) e))
      (λ e. goes_again o (rereads o) (other_reads a (standing o) e))
