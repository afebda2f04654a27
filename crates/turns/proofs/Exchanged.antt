-- What the code tells of a turn's exchange is what the exchange came to.
-- Relies on the definitions of the turns and of question 6, on rules for what a failed exchange leaves.
use Prim.Native.Nat.{ℕ, suc, ◌-◌, ◌≤◌}
use mathlib.Core.Path.{◌≡◌, refl, sym, ap, ◌∙◌}
use mathlib.Core.Bool.{Bool, true, false}
use mathlib.Core.List.{List, ◌∷◌}
use native.Mathlib.Omega.{arith}
use lib.Dec.{eqb}
use lib.ListN.{length}
use borrow.Author.Tests.{lt-ltb, le-ltb, eq-eqb, ne_eqb, eqb-true, le-leb, leb-true}
use Rattle.words.specs.Choice.{pick, both}
use Rattle.words.proofs.Choice.{pick-both, pick_true, pick_false, both_left, both_right, both_true, true_false}
use Rattle.settings.specs.declared.Settings.{Settings}
use Rattle.settings.proofs.Laws.{within_true}
use Rattle.areas.specs.Memory.{Memory, cell_at}
use Rattle.areas.specs.declared.Cell.{Cell}
use Rattle.record.specs.declared.Kind.{Kind}
use Rattle.record.specs.declared.Kind.TheVariants.{Idle, Look, Take, Put, Read, Tail, TakeTail, Append, Level, Close, Follow, ChainHead, ChainNext, SetNext, SetLook, SetPut, SetRead, SetTail, SetAppend, SetLevel, SetClose, SetFollow, MoveEnd, Unknown}
use Rattle.record.specs.declared.Exchange.{Exchange}
use Rattle.record.specs.declared.Exchange.TheVariants.{None, Done, Failed}
use Rattle.record.specs.declared.Head.{Head}
use Rattle.record.specs.declared.Move.{Move}
use Rattle.record.specs.Kinds.{kind_no}
use Rattle.record.specs.Layout.{Record, record'}
use Rattle.record.specs.Fits.{has_node, inner_fits}
use Rattle.rules.specs.Heads.{to, ended, holding_level, forget}
use Rattle.rules.specs.Steps.{Step, expected, closed}
use Rattle.rules.specs.Searching as searching
use Rattle.rules.specs.Searching.{takes_node}
use Rattle.rules.specs.Moving as moving
use Rattle.rules.specs.Acts.{inner, outer, act_by, act}
use Rattle.rules.specs.Asked.{in_hand, stands_with, picks_with, puts, appends, closes, set_closes, reads_by, question9}
use Rattle.rules.specs.Exchanges.{commits, exchange_by, exchange_of}
use Rattle.rules.specs.FailedExchange.{Exchanger, put, append, close, set-put, set-append, set-close}
use Rattle.rules.proofs.Exchanging.{exchange_done}
use Rattle.rules.proofs.FailedExchange.{failed_exchange}
use Rattle.steps.specs.Tried.{Tried, unless_six, unless_nine}
use Rattle.mover.specs.declared.Mover.{Mover}
use Rattle.mover.specs.Moved.{move_after, list_after}
use Rattle.turns.specs.Cut.{tried_of, by_held, by_remembered, came_to}

-- a test that an exchange is None, for the numbers among which a `match` knows a kind to be
abbrev pub is_none : Exchange → Bool
is_none None = true
is_none Done = false
is_none Failed = false

pub none_is : (e : Exchange) → is_none e ≡ true → None ≡ e
none_is None y = refl
none_is Done y = absurd (true_false (sym y))
none_is Failed y = absurd (true_false (sym y))

-- a kind that is known
pub came_kind : (k j : Kind) (h : Head) (b c : ℕ) {e : Exchange} → e ≡ came_to (kind_no j) h b c → k ≡ j → e ≡ came_to (kind_no k) h b c
came_kind k j h b c a e = simp (e, a)

-- Take, TakeTail, the kinds that can end "full": no exchange
full-none : (k : Kind) (left : Bool) (h : Head) (b c : ℕ) → pick (takes_node k) left true ≡ false → came_to (kind_no k) h b c ≡ None
unfolding came_to takes_node pick
full-none k left h b c =
    let Takes : Bool → Type 0 = λ u. u ≡ true → came_to (kind_no k) h b c ≡ None in
    pick-both (λ (u : Bool). u ≡ false → came_to (kind_no k) h b c ≡ None) (takes_node k)
    (λ y z. pick-both Takes (eqb (kind_no k) 2) (λ e u. simp (eqb-true (kind_no k) 2 e)) (λ e u. simp (eqb-true (kind_no k) 6 u)) y)
    (λ n z. absurd (true_false z))

-- Put, Append, Close, SetClose. In hand before the turn; gone where the exchange is done, held as before where it failed
by_held_is : (b : Bool) (held after : ℕ) → 1 ≤ held → (b ≡ true → after ≡ 0) → (b ≡ false → after ≡ held) → by_held after ≡ pick b Done Failed
unfolding by_held
by_held_is b held after low d f =
    pick-both (λ (e : Exchange). by_held after ≡ e) b
    (λ y. pick_true _ _ _ (eq-eqb after 0 (d y)))
    (λ n. pick_false _ _ _ (ne_eqb after 0 (λ z. let q : after ≡ held = f n in omega arith)))

-- and question 6 asks for it
in_hand_lem : (a c : Bool) (held taken : ℕ) → both (both a (in_hand held taken)) c ≡ true → 1 ≤ held
unfolding in_hand
in_hand_lem a c held taken q = leb-true 1 held (both_left _ _ (both_right a _ (both_left _ _ q)))

-- SetPut, SetAppend. The node is forgotten where the exchange is done, and remembered as before where it failed
by_remembered_is : (b : Bool) (before after : ℕ) → 1 ≤ before → (b ≡ true → after ≡ before - 1) → (b ≡ false → after ≡ before) → by_remembered before after ≡ pick b Done Failed
unfolding by_remembered
by_remembered_is b before after low d f =
    pick-both (λ (e : Exchange). by_remembered before after ≡ e) b
    (λ y. pick_true _ _ _ (lt-ltb after before (let q : after ≡ before - 1 = d y in omega arith)))
    (λ n. pick_false _ _ _ (le-ltb after before (let q : after ≡ before = f n in omega arith)))

-- the record fits, so that there is one
remembered : (s : Settings) (k c : ℕ) → 12 ≤ k → k ≤ 21 → inner_fits s k c ≡ true → 1 ≤ c
unfolding inner_fits has_node
remembered s k c low high f = (within_true c s.limit (sym (pick_true _ _ _ (both_true (le-leb 12 k low) (le-leb k 21 high))) ∙ f)).low

module _ (w : ℕ) (looks : Bool) (s : Settings) (h : Head) (ms : List Move) (m : Memory) where
  -- what the turn leaves once the kind is k
  abbrev after : Kind → Record
  after k = (act w looks s (record' (to k h) ms) m).record'

  -- Put, Append
  node_came :
      {k again : Kind} {x : Cell} {own : Bool} → Exchanger w s h ms m k again x own → 1 ≤ h.held_node → (expected h (cell_at w m x) ≡ true → (after k).head.held_node ≡ 0)
      → by_held (after k).head.held_node ≡ pick (expected h (cell_at w m x)) Done Failed
  node_came e low d = by_held_is _ _ _ low d (λ n. (failed_exchange w looks s h ms m _ _ _ _ e n).node_held)

  -- Close, SetClose
  level_came :
      {k again : Kind} {x : Cell} {own : Bool} → Exchanger w s h ms m k again x own → 1 ≤ h.held_level → (expected h (cell_at w m x) ≡ true → (after k).head.held_level ≡ 0)
      → by_held (after k).head.held_level ≡ pick (expected h (cell_at w m x)) Done Failed
  level_came e low d = by_held_is _ _ _ low d (λ n. (failed_exchange w looks s h ms m _ _ _ _ e n).level_held)

  -- c is the number of nodes that the innermost Move remembers after a turn that leaves as many Moves
  abbrev Counted : ℕ → Record → Type 0
  Counted c r = (x : Move) → r.moves ≡ x ∷ outer ms → c ≡ x.count

  -- SetPut, SetAppend
  set_came :
      {k again : Kind} {x : Cell} {own : Bool} (c : ℕ) → Exchanger w s h ms m k again x own → 1 ≤ (inner ms).count → Counted c (after k)
      → (expected h (cell_at w m x) ≡ true → (after k).moves ≡ forget (inner ms) ∷ outer ms) → (after again).moves ≡ inner ms ∷ outer ms
      → by_remembered (inner ms).count c ≡ pick (expected h (cell_at w m x)) Done Failed
  unfolding forget
  set_came c e low t d f =
      by_remembered_is _ _ c low (λ y. t (forget (inner ms)) (d y)) (λ n. t (inner ms) (ap (λ (u : Step). u.record'.moves) (failed_exchange w looks s h ms m _ _ _ _ e n).acts ∙ f))

  -- by kind
  came_by :
      (k : Kind) (c : ℕ) → reads_by k w s (to k h) ms m ≡ true
      → (11 ≤ kind_no k → inner_fits s (kind_no k) (inner ms).count ≡ true) → (11 ≤ kind_no k → Counted c (after k))
      → came_to (kind_no k) (after k).head (inner ms).count c ≡ exchange_of w (record' (to k h) ms) m
  unfolding came_to kind_no pick to act act_by exchange_by commits reads_by puts appends closes set_closes stands_with picks_with searching.put searching.append searching.close searching.placed searching.entry_of ended closed holding_level expected moving.set_put moving.set_append moving.set_close moving.set_node moving.set_last moving.set_read moving.set_follow moving.set_read_word moving.set_follow_word moving.set_met moving.set_cell_of
  came_by Idle c q f t = refl
  came_by Look c q f t = refl
  came_by Take c q f t = refl
  came_by Put c q f t = node_came put (in_hand_lem _ _ _ _ q) (exchange_done (λ u. u.record'.head.held_node ≡ 0) w (to Put h) _ _ _ _ m refl)
  came_by Read c q f t = refl
  came_by Tail c q f t = refl
  came_by TakeTail c q f t = refl
  came_by Append c q f t = node_came append (in_hand_lem _ _ _ _ q) (exchange_done (λ u. u.record'.head.held_node ≡ 0) w (to Append h) _ _ _ _ m refl)
  came_by Level c q f t = refl
  came_by Close c q f t = level_came close (in_hand_lem _ _ _ _ q) (exchange_done (λ u. u.record'.head.held_level ≡ 0) w (to Close h) _ _ _ _ m refl)
  came_by Follow c q f t = refl
  came_by ChainHead c q f t = refl
  came_by ChainNext c q f t = refl
  came_by SetNext c q f t = refl
  came_by SetLook c q f t = refl
  came_by SetPut c q f t = set_came c set-put (remembered s 15 _ (omega arith) (omega arith) (f (omega arith))) (t (omega arith)) (exchange_done (λ u. u.record'.moves ≡ forget (inner ms) ∷ outer ms) w (to SetPut h) _ _ _ _ m refl) refl
  came_by SetRead c q f t = refl
  came_by SetTail c q f t = refl
  came_by SetAppend c q f t = set_came c set-append (remembered s 18 _ (omega arith) (omega arith) (f (omega arith))) (t (omega arith)) (exchange_done (λ u. u.record'.moves ≡ forget (inner ms) ∷ outer ms) w (to SetAppend h) _ _ _ _ m refl) refl
  came_by SetLevel c q f t = refl
  came_by SetClose c q f t = level_came set-close (in_hand_lem _ _ _ _ q) (exchange_done (λ u. u.record'.head.held_level ≡ 0) w (to SetClose h) _ _ _ _ m refl)
  came_by SetFollow c q f t = refl
  came_by MoveEnd c q f t = refl
  came_by Unknown c q f t = refl

  -- a turn that is not refused by 6; one that ends its call "full" makes no exchange
  pub tried_came :
      (c : ℕ) → (11 ≤ kind_no h.kind → inner_fits s (kind_no h.kind) (inner ms).count ≡ true)
      → (11 ≤ kind_no h.kind → Counted c (tried_of w looks s (record' h ms) m).step'.record') → ((tried_of w looks s (record' h ms) m).number ≡ 6 → ⊥)
      → came_to (kind_no h.kind) (tried_of w looks s (record' h ms) m).step'.record'.head (inner ms).count c
      ≡ pick (eqb (tried_of w looks s (record' h ms) m).number 0) (exchange_of w (record' h ms) m) None
  unfolding tried_of unless_six unless_nine question9 to act
  tried_came c f =
      let Came : Tried → Type 0 =
      λ t. (11 ≤ kind_no h.kind → Counted c t.step'.record') → (t.number ≡ 6 → ⊥)
      → came_to (kind_no h.kind) t.step'.record'.head (inner ms).count c ≡ pick (eqb t.number 0) (exchange_of w (record' h ms) m) None
      in
      pick-both Came (reads_by h.kind w s h ms m)
      (λ q. pick-both Came (question9 s (record' h ms))
      (λ y t n. came_by h.kind c q f t ∙ sym (pick_true _ _ _ refl))
      (λ z t n. full-none h.kind _ _ _ _ z ∙ sym (pick_false _ _ _ refl)))
      (λ q t n. absurd (n refl))

-- a mover's count after a turn that leaves as many Moves
pub count-after : (v v' : Mover) (a x : Move) (os : List Move) → list_after v v' a os ≡ x ∷ os → v'.inner.count ≡ x.count
unfolding list_after move_after inner
count-after v v' a x os =
    let Count : List Move → Type 0 = λ ms. ms ≡ x ∷ os → v'.inner.count ≡ x.count in
    pick-both Count (eqb v'.moves v.moves)
    (λ e p. ap (λ (ms : List Move). (inner ms).count) p)
    (λ e. pick-both Count _
    (λ l p. let q : suc (suc (length os)) ≡ suc (length os) = ap length p in absurd (omega arith))
    (λ l p. let q : length os ≡ suc (length os) = ap length p in absurd (omega arith)))
