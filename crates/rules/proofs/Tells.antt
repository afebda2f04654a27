-- What a turn that was done has answered stands in its worker's record: an idle one tells its last answer, any other that its call is open.
-- Relies on the definitions of the turns.
use Prim.Native.Nat.{ℕ, zero, suc, ◌≤◌}
use mathlib.Core.Path.{◌≡◌, refl, sym, subst}
use mathlib.Core.Bool.{Bool, true, false, not}
use mathlib.Core.List.{List, [], ◌∷◌}
use native.Mathlib.Omega.{arith}
use lib.Dec.{eqb}
use borrow.Author.Tests.{ne_eqb}
use Rattle.words.specs.Choice.{pick, both}
use Rattle.words.proofs.Choice.{pick-both, true_false}
use Rattle.settings.specs.declared.Settings.{Settings}
use Rattle.areas.specs.Memory.{Memory, is_node, cell_at}
use Rattle.areas.specs.declared.Cell.{Cell}
use Rattle.areas.specs.declared.Cell.TheVariants.{Next}
use Rattle.record.specs.declared.Kind.{Kind}
use Rattle.record.specs.declared.Kind.TheVariants.{Idle, Look, Take, Put, Read, Tail, TakeTail, Append, Level, Close, Follow, ChainHead, ChainNext, SetNext, SetLook, SetPut, SetRead, SetTail, SetAppend, SetLevel, SetClose, SetFollow, MoveEnd, Unknown}
use Rattle.record.specs.declared.Answer.{Answer}
use Rattle.record.specs.declared.Answer.TheVariants.{New, Found, Open, Absent}
use Rattle.record.specs.declared.Head.{Head}
use Rattle.record.specs.declared.Move.{Move}
use Rattle.record.specs.Kinds.{kind_no, answer_of}
use Rattle.record.specs.Layout.{Record}
use Rattle.rules.specs.Operations.{last_of}
use Rattle.rules.specs.Heads.{to, to_level, to_node, holding_node, holding_level, ended}
use Rattle.rules.specs.Steps.{Step, step, going, expected, peeked, by_count, with_node, take_node, with_level, take_level, closed}
use Rattle.rules.specs.Searching as searching
use Rattle.rules.specs.Moving as moving
use Rattle.rules.specs.Acts.{act_by, act}
use Rattle.rules.specs.Asked.{question7, question8}
use Rattle.rules.proofs.Exchanging.{exchange-both}

-- what a turn that is carried out answers
pub data Said : Answer → Type 0 where
  says_open : Said Open
  says_new : (n : ℕ) → Said (New n)
  says_found : (n : ℕ) → Said (Found n)
  says_absent : Said Absent

-- a turn's step, of a viewer (v) or of another worker: its record tells its answer
pub record Tells (v : Bool) (t : Step) : Type 0 where
  pub said : Said t.answer
  pub answer_is : last_of t.record'.head ≡ t.answer
  -- "absent" is a viewer's answer
  pub viewer : t.answer ≡ Absent → v ≡ true
  -- the number of a last answer, where no viewer had the turn
  pub low : v ≡ false → kind_no t.record'.head.kind ≡ 0 → t.record'.head.answer ≤ 3

open_absent : Open ≡ Absent → ⊥
open_absent q = let z : ◌≡◌ {A = ℕ} 0 1 = cc in omega arith

new_absent : {n : ℕ} → New n ≡ Absent → ⊥
new_absent q = let z : ◌≡◌ {A = ℕ} 0 1 = cc in omega arith

found_absent : {n : ℕ} → Found n ≡ Absent → ⊥
found_absent q = let z : ◌≡◌ {A = ℕ} 0 1 = cc in omega arith

open_tells : (v : Bool) (s : Settings) (h : Head) (ms : List Move) (m : Memory) → 1 ≤ kind_no h.kind → Tells v (going s h ms m)
unfolding last_of pick
open_tells v s h ms m k =
    let e : eqb (kind_no h.kind) 0 ≡ false = ne_eqb (kind_no h.kind) 0 (λ z. omega arith) in
    record { said = says_open; answer_is = simp e; viewer = λ q. absurd (open_absent q); low = λ f z. absurd (omega arith) }

new_tells : (v : Bool) (s : Settings) (i n : ℕ) (h : Head) (m : Memory) → Tells v (step (New i) s (ended 1 i n h) [] m)
unfolding last_of ended kind_no answer_of pick
new_tells v s i n h m = record { said = says_new i; answer_is = refl; viewer = λ q. absurd (new_absent q); low = λ f z. omega arith }

found_tells : (v : Bool) (s : Settings) (i n : ℕ) (h : Head) (m : Memory) → Tells v (step (Found i) s (ended 2 i n h) [] m)
unfolding last_of ended kind_no answer_of pick
found_tells v s i n h m = record { said = says_found i; answer_is = refl; viewer = λ q. absurd (found_absent q); low = λ f z. omega arith }

absent_tells : (s : Settings) (n : ℕ) (h : Head) (m : Memory) → Tells true (step Absent s (ended 5 0 n h) [] m)
unfolding last_of ended kind_no answer_of pick
absent_tells s n h m = record { said = says_absent; answer_is = refl; viewer = λ q. refl; low = λ f z. absurd (true_false f) }

module _ (w : ℕ) (v : Bool) (s : Settings) (h : Head) where
  to_tells : (k : Kind) (ms : List Move) (m : Memory) → 1 ≤ kind_no k → Tells v (going s (to k h) ms m)
  unfolding to
  to_tells k ms m o = open_tells v s (to k h) ms m o

  level_tells : (k : Kind) (g : ℕ) (ms : List Move) (m : Memory) → 1 ≤ kind_no k → Tells v (going s (to_level k g h) ms m)
  unfolding to_level
  level_tells k g ms m o = open_tells v s (to_level k g h) ms m o

  node_tells : (k : Kind) (i c : ℕ) (ms : List Move) (m : Memory) → 1 ≤ kind_no k → Tells v (going s (to_node k i c h) ms m)
  unfolding to_node
  node_tells k i c ms m o = open_tells v s (to_node k i c h) ms m o

  peek_tells : (word : ℕ) (a b : Kind) (ms : List Move) (m : Memory) → 1 ≤ kind_no a → 1 ≤ kind_no b → Tells v (going s (peeked h word a b) ms m)
  unfolding peeked
  peek_tells word a b ms m o p = to_tells _ ms m (pick-both (λ (k : Kind). 1 ≤ kind_no k) (expected h word) (λ e. o) (λ e. p))

  -- Look, Tail: the next kind, or "absent"
  viewed_tells : (k : Kind) (m : Memory) → 1 ≤ kind_no k → Tells v (searching.viewed v s (to k h) m)
  unfolding searching.viewed both pick to
  viewed_tells k m o = by v
    where
      by : (u : Bool) → Tells u (searching.viewed u s (to k h) m)
      by true = pick-both (Tells true) (searching.takes_next k) (λ e. absent_tells s _ (to k h) m) (λ e. open_tells true s (to k h) [] m o)
      by false = open_tells false s (to k h) [] m o

  search_tells : (word : ℕ) (a b : Kind) (m : Memory) → 1 ≤ kind_no a → 1 ≤ kind_no b → Tells v (searching.viewed v s (peeked h word a b) m)
  unfolding peeked
  search_tells word a b m o p = viewed_tells _ m (pick-both (λ (k : Kind). 1 ≤ kind_no k) (expected h word) (λ e. o) (λ e. p))

  count_open : (c : ℕ) (a b d : Kind) → 1 ≤ kind_no a → 1 ≤ kind_no b → 1 ≤ kind_no d → 1 ≤ kind_no (by_count s c a b d)
  unfolding by_count
  count_open c a b d o p q =
      pick-both (λ (k : Kind). 1 ≤ kind_no k) _ (λ e. o) (λ e. pick-both (λ (k : Kind). 1 ≤ kind_no k) _ (λ f. p) (λ f. q))

  module _ (m : Memory) where
    placed_tells : (failed : ℕ → Memory → Step) (x : Cell) → Tells v (failed (cell_at w m x) m) → Tells v (searching.placed w failed s h x m)
    unfolding searching.placed
    placed_tells failed x o = exchange-both (Tells v) w h x _ _ _ m (λ e. new_tells v s _ 0 h _) (λ e. o)

    met_tells : (c g word : ℕ) → Tells v (searching.met s h c g word m)
    unfolding searching.met searching.met_node kind_no
    met_tells c g word =
        pick-both (Tells v) (is_node word)
        (λ e. pick-both (Tells v) (eqb _ h.pixel) (λ p. found_tells v s _ _ h m) (λ p. node_tells Tail _ c [] m (omega arith)))
        (λ e. level_tells Look g [] m (omega arith))

    take_tells : (k : Kind) → 1 ≤ kind_no k → Tells v (take_node k s h m)
    unfolding take_node with_node holding_node
    take_tells k o = pick-both (Tells v) (eqb h.held_node 0) (λ e. open_tells v _ _ [] _ o) (λ e. open_tells v _ _ [] _ o)

    taken_tells : (k : Kind) (ms : List Move) → 1 ≤ kind_no k → Tells v (take_level w k s h ms m)
    unfolding take_level with_level holding_level
    taken_tells k ms o = pick-both (Tells v) (eqb h.held_level 0) (λ e. open_tells v _ _ ms _ o) (λ e. open_tells v _ _ ms _ o)

    closed_tells : (failed : ℕ → Memory → Step) (ms : List Move) → Tells v (failed (cell_at w m (Next h.node)) m) → Tells v (closed w failed s h ms m)
    unfolding closed holding_level kind_no
    closed_tells failed ms o = exchange-both (Tells v) w h (Next h.node) _ _ _ m (λ e. open_tells v s _ _ _ (omega arith)) (λ e. o)

    last_tells : (u : Move) (os : List Move) (m : Memory) → Tells v (moving.set_last s h u os m)
    unfolding moving.set_last to to_level kind_no
    last_tells u os m =
        open_tells v s _ (u ∷ os) m (pick-both (λ (x : Head). 1 ≤ kind_no x.kind) (eqb u.count 0) (λ e. omega arith) (λ e. omega arith))

    chain_tells : (u : Move) (os : List Move) (word : ℕ) → Tells v (moving.chain_word s h u os word m)
    unfolding moving.chain_word kind_no
    chain_tells u os word = pick-both (Tells v) (is_node word) (λ e. to_tells ChainNext _ m (omega arith)) (λ e. last_tells u os m)

    again_tells : (u : Move) (os : List Move) (c g word : ℕ) → Tells v (moving.set_met s h u os c g word m)
    unfolding moving.set_met to_node to_level kind_no
    again_tells u os c g word =
        open_tells v s _ (u ∷ os) m (pick-both (λ (x : Head). 1 ≤ kind_no x.kind) (is_node word) (λ e. omega arith) (λ e. omega arith))

    set_tells : (failed : ℕ → Memory → Step) (u : Move) (os : List Move) (x : Cell) → Tells v (failed (cell_at w m x) m) → Tells v (moving.set_node w failed s h u os x m)
    unfolding moving.set_node
    set_tells failed u os x o = exchange-both (Tells v) w h x _ _ _ m (λ e. last_tells _ os _) (λ e. o)

    after_tells : (g : ℕ) (os : List Move) (m : Memory) → Tells v (going s (moving.after_move h g os) os m)
    unfolding moving.after_move kind_no
    after_tells g [] m = level_tells Look g [] m (omega arith)
    after_tells g (o ∷ os) m = level_tells SetNext g (o ∷ os) m (omega arith)

    -- by kind
    kind_tells : (k : Kind) (ms : List Move) → h.kind ≡ k → 1 ≤ kind_no k → Tells v (act_by k w v s h ms m)
    unfolding act_by kind_no searching.look searching.take searching.put searching.read searching.read_word searching.tail searching.take_tail searching.append searching.level searching.close searching.follow searching.follow_word moving.chain_head moving.chain_next moving.set_next moving.set_look moving.set_put moving.set_read moving.set_read_word moving.set_tail moving.set_append moving.set_level moving.set_close moving.set_follow moving.set_follow_word moving.move_end
    kind_tells Idle ms e o = absurd (omega arith)
    kind_tells Look ms e o = search_tells _ Take Read m (omega arith) (omega arith)
    kind_tells Take ms e o = take_tells Put (omega arith)
    kind_tells Put ms e o = placed_tells _ _ (met_tells 1 _ _)
    kind_tells Read ms e o = met_tells 1 _ _
    kind_tells Tail ms e o = search_tells _ _ Follow m (count_open _ TakeTail Level Follow (omega arith) (omega arith) (omega arith)) (omega arith)
    kind_tells TakeTail ms e o = take_tells Append (omega arith)
    kind_tells Append ms e o = placed_tells _ _ (met_tells _ _ _)
    kind_tells Level ms e o = taken_tells Close [] (omega arith)
    kind_tells Close ms e o = closed_tells _ [] (met_tells _ _ _)
    kind_tells Follow ms e o = met_tells _ _ _
    kind_tells ChainHead ms e o = chain_tells _ _ _
    kind_tells ChainNext ms e o = chain_tells _ _ _
    kind_tells SetNext ms e o = to_tells SetLook _ _ (omega arith)
    kind_tells SetLook ms e o = peek_tells _ SetPut SetRead _ m (omega arith) (omega arith)
    kind_tells SetPut ms e o = set_tells _ _ _ _ (again_tells _ _ 1 _ _)
    kind_tells SetRead ms e o = again_tells _ _ 1 _ _
    kind_tells SetTail ms e o = peek_tells _ _ SetFollow _ m (count_open _ SetAppend SetLevel SetFollow (omega arith) (omega arith) (omega arith)) (omega arith)
    kind_tells SetAppend ms e o = set_tells _ _ _ _ (again_tells _ _ _ _ _)
    kind_tells SetLevel ms e o = taken_tells SetClose _ (omega arith)
    kind_tells SetClose ms e o = closed_tells _ _ (again_tells _ _ _ _ _)
    kind_tells SetFollow ms e o = again_tells _ _ _ _ _
    kind_tells MoveEnd ms e o = after_tells _ _ _
    kind_tells Unknown ms e o = open_tells v s h ms m (subst (λ (x : Kind). 1 ≤ kind_no x) (sym e) (omega arith))

-- a worker with a call open
pub act_tells : (w : ℕ) (v : Bool) (s : Settings) (r : Record) (m : Memory) → question8 r ≡ true → Tells v (act w v s r m)
unfolding question8 question7 act
act_tells w v s r m q = kind_tells w v s r.head m r.head.kind r.moves refl (some (kind_no r.head.kind) q)
  where
    some : (n : ℕ) → not (eqb n 0) ≡ true → 1 ≤ n
    some zero e = absurd (true_false (sym e))
    some (suc n) e = omega arith
