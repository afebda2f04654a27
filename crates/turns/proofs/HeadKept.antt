-- What a moving turn does not change of a head: the pixel, the held node, the last answer and its node. So these words need not be stored.
-- Relies on the definitions of the moving turns.
use mathlib.Core.Bool.{false}
use Prim.Native.Nat.{ℕ, ◌≤◌}
use mathlib.Core.Path.{refl}
use mathlib.Core.List.{List, [], ◌∷◌}
use native.Mathlib.Omega.{arith}
use lib.Dec.{eqb}
use Rattle.words.proofs.Choice.{pick-both}
use Rattle.settings.specs.declared.Settings.{Settings}
use Rattle.areas.specs.Memory.{Memory, is_node, cell_at}
use Rattle.areas.specs.declared.Cell.{Cell}
use Rattle.areas.specs.declared.Cell.TheVariants.{Next}
use Rattle.record.specs.declared.Kind.{Kind}
use Rattle.record.specs.declared.Kind.TheVariants.{Idle, Look, Take, Put, Read, Tail, TakeTail, Append, Level, Close, Follow, ChainHead, ChainNext, SetNext, SetLook, SetPut, SetRead, SetTail, SetAppend, SetLevel, SetClose, SetFollow, MoveEnd, Unknown}
use Rattle.record.specs.declared.Head.{Head}
use Rattle.record.specs.declared.Move.{Move}
use Rattle.record.specs.Kinds.{kind_no}
use Rattle.rules.specs.Heads.{to, to_level, to_node, holding_level}
use Rattle.rules.specs.Steps.{Step, peeked, with_level, take_level, closed}
use Rattle.rules.specs.Moving as moving
use Rattle.rules.specs.Acts.{act_by}
use Rattle.rules.proofs.Exchanging.{exchange-both}
use Rattle.mover.specs.Words.{Keeps}

module _ (h : Head) where
  to_keeps : (k : Kind) → Keeps (to k h) h
  unfolding to
  to_keeps k = record { pixel_is = refl; held_is = refl; answer_is = refl; answer_node_is = refl }

  level_keeps : (k : Kind) (g : ℕ) → Keeps (to_level k g h) h
  unfolding to_level
  level_keeps k g = record { pixel_is = refl; held_is = refl; answer_is = refl; answer_node_is = refl }

  node_keeps : (k : Kind) (i c : ℕ) → Keeps (to_node k i c h) h
  unfolding to_node
  node_keeps k i c = record { pixel_is = refl; held_is = refl; answer_is = refl; answer_node_is = refl }

  holding_keeps : (k : Kind) (g : ℕ) → Keeps (holding_level k g h) h
  unfolding holding_level
  holding_keeps k g = record { pixel_is = refl; held_is = refl; answer_is = refl; answer_node_is = refl }

  abbrev Kept : Step → Type 0
  Kept t = Keeps t.record'.head h

  module _ (w : ℕ) (s : Settings) (m : Memory) where
    last_keeps : (v : Move) (os : List Move) (m : Memory) → Kept (moving.set_last s h v os m)
    unfolding moving.set_last
    last_keeps v os m = pick-both (λ (x : Head). Keeps x h) (eqb v.count 0) (λ e. to_keeps MoveEnd) (λ e. level_keeps SetNext _)

    chain_keeps : (v : Move) (os : List Move) (word : ℕ) → Kept (moving.chain_word s h v os word m)
    unfolding moving.chain_word
    chain_keeps v os word = pick-both Kept (is_node word) (λ e. to_keeps ChainNext) (λ e. last_keeps v os m)

    met_keeps : (v : Move) (os : List Move) (c g word : ℕ) → Kept (moving.set_met s h v os c g word m)
    unfolding moving.set_met
    met_keeps v os c g word = pick-both (λ (x : Head). Keeps x h) (is_node word) (λ e. node_keeps SetTail _ c) (λ e. level_keeps SetNext g)

    set_keeps : (failed : ℕ → Memory → Step) (v : Move) (os : List Move) (x : Cell) → Kept (failed (cell_at w m x) m) → Kept (moving.set_node w failed s h v os x m)
    unfolding moving.set_node
    set_keeps failed v os x f = exchange-both Kept w h x _ _ failed m (λ e. last_keeps _ os _) (λ e. f)

    peek_keeps : (word : ℕ) (here other : Kind) → Keeps (peeked h word here other) h
    unfolding peeked
    peek_keeps word here other = to_keeps _

    take_keeps : (k : Kind) (ms : List Move) → Kept (take_level w k s h ms m)
    unfolding take_level with_level
    take_keeps k ms = pick-both Kept (eqb h.held_level 0) (λ e. holding_keeps k _) (λ e. holding_keeps k _)

    close_keeps : (failed : ℕ → Memory → Step) (ms : List Move) → Kept (failed (cell_at w m (Next h.node)) m) → Kept (closed w failed s h ms m)
    unfolding closed
    close_keeps failed ms f = exchange-both Kept w h (Next h.node) _ _ failed m (λ e. holding_keeps ChainHead 0) (λ e. f)

    after_keeps : (g : ℕ) (os : List Move) → Keeps (moving.after_move h g os) h
    unfolding moving.after_move
    after_keeps g [] = level_keeps Look g
    after_keeps g (o ∷ os) = level_keeps SetNext g

    -- by kind
    pub kind_keeps : (k : Kind) (ms : List Move) → 11 ≤ kind_no k → kind_no k ≤ 22 → Kept (act_by k w false s h ms m)
    unfolding act_by kind_no moving.chain_head moving.chain_next moving.set_next moving.set_look moving.set_put moving.set_read moving.set_read_word moving.set_tail moving.set_append moving.set_level moving.set_close moving.set_follow moving.set_follow_word moving.move_end
    kind_keeps Idle ms low high = absurd (omega arith)
    kind_keeps Look ms low high = absurd (omega arith)
    kind_keeps Take ms low high = absurd (omega arith)
    kind_keeps Put ms low high = absurd (omega arith)
    kind_keeps Read ms low high = absurd (omega arith)
    kind_keeps Tail ms low high = absurd (omega arith)
    kind_keeps TakeTail ms low high = absurd (omega arith)
    kind_keeps Append ms low high = absurd (omega arith)
    kind_keeps Level ms low high = absurd (omega arith)
    kind_keeps Close ms low high = absurd (omega arith)
    kind_keeps Follow ms low high = absurd (omega arith)
    kind_keeps ChainHead ms low high = chain_keeps _ _ _
    kind_keeps ChainNext ms low high = chain_keeps _ _ _
    kind_keeps SetNext ms low high = to_keeps SetLook
    kind_keeps SetLook ms low high = peek_keeps _ SetPut SetRead
    kind_keeps SetPut ms low high = set_keeps _ _ _ _ (met_keeps _ _ 1 _ _)
    kind_keeps SetRead ms low high = met_keeps _ _ 1 _ _
    kind_keeps SetTail ms low high = peek_keeps _ _ SetFollow
    kind_keeps SetAppend ms low high = set_keeps _ _ _ _ (met_keeps _ _ _ _ _)
    kind_keeps SetLevel ms low high = take_keeps SetClose _
    kind_keeps SetClose ms low high = close_keeps _ _ (met_keeps _ _ _ _ _)
    kind_keeps SetFollow ms low high = met_keeps _ _ _ _ _
    kind_keeps MoveEnd ms low high = after_keeps _ _
    kind_keeps Unknown ms low high = absurd (omega arith)
