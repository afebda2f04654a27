-- Nodes taken counts the turns that took a next number for a node. This needs no invariant: it is read off the definitions.
-- Relies on the definitions of the turns and on demand 1.
use Prim.Native.Nat.{ℕ, ◌+◌}
use mathlib.Core.Path.{◌≡◌, refl, ap, ◌∙◌}
use mathlib.Core.Logic.{◌≢◌}
use mathlib.Core.Bool.{Bool, true, false}
use mathlib.Core.List.{List, [], ◌∷◌}
use native.Mathlib.Decide.{ℕ_discrete}
use native.Mathlib.Omega.{arith}
use lib.Dec.{eqb}
use borrow.Author.Tests.{eq-eqb, ne_eqb}
use Rattle.words.specs.Choice.{pick, both}
use Rattle.words.proofs.Choice.{pick-both, pick_true, pick_false}
use Rattle.settings.specs.Sizes.{views}
use Rattle.settings.specs.declared.Settings.{Settings}
use Rattle.areas.specs.Memory.{Memory, is_node, cell_at}
use Rattle.areas.specs.declared.Cell.{Cell}
use Rattle.areas.specs.declared.Cell.TheVariants.{Next}
use Rattle.record.specs.declared.Kind.{Kind}
use Rattle.record.specs.declared.Kind.TheVariants.{Idle, Look, Take, Put, Read, Tail, TakeTail, Append, Level, Close, Follow, ChainHead, ChainNext, SetNext, SetLook, SetPut, SetRead, SetTail, SetAppend, SetLevel, SetClose, SetFollow, MoveEnd, Unknown}
use Rattle.record.specs.declared.Head.{Head}
use Rattle.record.specs.declared.Move.{Move}
use Rattle.record.specs.Kinds.{kind_no}
use Rattle.record.specs.Layout.{Record}
use Rattle.rules.specs.Steps.{Step, took_node, took_level, with_node, take_node, with_level, take_level, closed}
use Rattle.rules.specs.Searching as searching
use Rattle.rules.specs.Moving as moving
use Rattle.rules.specs.Acts.{act_by, act}
use Rattle.rules.specs.Operations.{Result, record_of, memory_of, start, turn, taken, full}
use Rattle.rules.specs.Lists.{State, after}
use Rattle.rules.specs.Calls.{Event, starts, turns, happens, state_after}
use Rattle.rules.specs.Demands.{takes_number, numbers_taken}
use Rattle.rules.proofs.Exchanging.{exchange-both}
use Rattle.rules.proofs.Carried.{start_done}
use Rattle.rules.proofs.OneTurn.{done_number, nine_is_full, turn-refused}
use Rattle.rules.proofs.Refused.{refuses-start}

-- the nodes taken after a step
abbrev Same : Settings → Step → Type 0
Same s t = t.settings.nodes_taken ≡ s.nodes_taken

module _ (w : ℕ) (s : Settings) (h : Head) where
  level_same : (k : Kind) (ms : List Move) (m : Memory) → Same s (take_level w k s h ms m)
  unfolding take_level with_level took_level
  level_same k ms m = pick-both (Same s) (eqb h.held_level 0) (λ e. refl) (λ e. refl)

  closed_same : (failed : ℕ → Memory → Step) (ms : List Move) (m : Memory) → Same s (failed (cell_at w m (Next h.node)) m) → Same s (closed w failed s h ms m)
  unfolding closed
  closed_same failed ms m f = exchange-both (Same s) w h (Next h.node) _ _ _ m (λ e. refl) (λ e. f)

  placed_same : (failed : ℕ → Memory → Step) (x : Cell) (m : Memory) → Same s (failed (cell_at w m x) m) → Same s (searching.placed w failed s h x m)
  unfolding searching.placed
  placed_same failed x m f = exchange-both (Same s) w h x _ _ _ m (λ e. refl) (λ e. f)

  met_same : (c g word : ℕ) (m : Memory) → Same s (searching.met s h c g word m)
  unfolding searching.met searching.met_node
  met_same c g word m = pick-both (Same s) (is_node word) (λ e. pick-both (Same s) (eqb _ h.pixel) (λ q. refl) (λ q. refl)) (λ e. refl)

  viewed_same : (looks : Bool) (h' : Head) (m : Memory) → Same s (searching.viewed looks s h' m)
  unfolding searching.viewed
  viewed_same looks h' m = pick-both (Same s) _ (λ e. refl) (λ e. refl)

  chain_same : (v : Move) (os : List Move) (word : ℕ) (m : Memory) → Same s (moving.chain_word s h v os word m)
  unfolding moving.chain_word moving.set_last
  chain_same v os word m = pick-both (Same s) (is_node word) (λ e. refl) (λ e. refl)

  set_same : (failed : ℕ → Memory → Step) (v : Move) (os : List Move) (x : Cell) (m : Memory) → Same s (failed (cell_at w m x) m) → Same s (moving.set_node w failed s h v os x m)
  unfolding moving.set_node moving.set_last
  set_same failed v os x m f = exchange-both (Same s) w h x _ _ _ m (λ e. refl) (λ e. f)

  -- Take and TakeTail with nothing held take the next number
  take-counts : (k : Kind) (m : Memory) → (take_node k s h m).settings.nodes_taken ≡ s.nodes_taken + pick (eqb h.held_node 0) 1 0
  unfolding take_node with_node took_node
  take-counts k m =
      pick-both (λ (t : Step). t.settings.nodes_taken ≡ s.nodes_taken + pick (eqb h.held_node 0) 1 0) (eqb h.held_node 0)
      (λ e. let q : ◌≡◌ {A = ℕ} (pick (eqb h.held_node 0) 1 0) 1 = pick_true _ _ _ e in omega arith)
      (λ e. let q : ◌≡◌ {A = ℕ} (pick (eqb h.held_node 0) 1 0) 0 = pick_false _ _ _ e in omega arith)

  plus_zero : {n : ℕ} → n ≡ s.nodes_taken → n ≡ s.nodes_taken + 0
  plus_zero e = omega arith

  -- by kind
  kind_counts : (looks : Bool) (k : Kind) (ms : List Move) (m : Memory) → (act_by k w looks s h ms m).settings.nodes_taken ≡ s.nodes_taken + pick (both (searching.takes_node k) (eqb h.held_node 0)) 1 0
  unfolding act_by searching.takes_node kind_no both pick searching.look searching.take searching.put searching.read searching.read_word searching.tail searching.take_tail searching.append searching.level searching.close searching.follow searching.follow_word moving.chain_head moving.chain_next moving.set_next moving.set_look moving.set_put moving.set_read moving.set_read_word moving.set_met moving.set_tail moving.set_append moving.set_level moving.set_close moving.set_follow moving.set_follow_word moving.move_end
  kind_counts looks Idle ms m = plus_zero refl
  kind_counts looks Look ms m = plus_zero (viewed_same looks _ m)
  kind_counts looks Take ms m = take-counts Put m
  kind_counts looks Put ms m = plus_zero (placed_same _ _ m (met_same 1 _ _ m))
  kind_counts looks Read ms m = plus_zero (met_same 1 _ _ m)
  kind_counts looks Tail ms m = plus_zero (viewed_same looks _ m)
  kind_counts looks TakeTail ms m = take-counts Append m
  kind_counts looks Append ms m = plus_zero (placed_same _ _ m (met_same _ _ _ m))
  kind_counts looks Level ms m = plus_zero (level_same Close [] m)
  kind_counts looks Close ms m = plus_zero (closed_same _ [] m (met_same _ _ _ m))
  kind_counts looks Follow ms m = plus_zero (met_same _ _ _ m)
  kind_counts looks ChainHead ms m = plus_zero (chain_same _ _ _ m)
  kind_counts looks ChainNext ms m = plus_zero (chain_same _ _ _ m)
  kind_counts looks SetNext ms m = plus_zero refl
  kind_counts looks SetLook ms m = plus_zero refl
  kind_counts looks SetPut ms m = plus_zero (set_same _ _ _ _ m refl)
  kind_counts looks SetRead ms m = plus_zero refl
  kind_counts looks SetTail ms m = plus_zero refl
  kind_counts looks SetAppend ms m = plus_zero (set_same _ _ _ _ m refl)
  kind_counts looks SetLevel ms m = plus_zero (level_same SetClose _ m)
  kind_counts looks SetClose ms m = plus_zero (closed_same _ _ m refl)
  kind_counts looks SetFollow ms m = plus_zero refl
  kind_counts looks MoveEnd ms m = plus_zero refl
  kind_counts looks Unknown ms m = plus_zero refl

-- a turn that is carried out
act-counts : (w : ℕ) (looks : Bool) (s : Settings) (r : Record) (m : Memory) → (act w looks s r m).settings.nodes_taken ≡ s.nodes_taken + pick (both (searching.takes_node r.head.kind) (eqb r.head.held_node 0)) 1 0
unfolding act
act-counts w looks s r m = kind_counts w s r.head looks r.head.kind r.moves m

both_true_right : (a b : Bool) → both a (both b true) ≡ both a b
unfolding both
both_true_right true true = refl
both_true_right true false = refl
both_true_right false b = refl

both_false_last : (a b : Bool) → both a (both b false) ≡ false
unfolding both
both_false_last true true = refl
both_false_last true false = refl
both_false_last false b = refl

module _ (w : ℕ) (x : State) where
  turn-counts : (i : ℕ) → (turn w x.settings i x.areas).reply.settings.nodes_taken ≡ x.settings.nodes_taken + pick (takes_number w (turns i) x) 1 0
  unfolding takes_number happens taken full
  turn-counts i = by (ℕ_discrete (turn w x.settings i x.areas).reply.number 0) (ℕ_discrete (turn w x.settings i x.areas).reply.number 9)
    where
      r : Result
      r = turn w x.settings i x.areas

      a : Bool
      a = searching.takes_node (record_of x.areas i).head.kind

      b : Bool
      b = eqb (record_of x.areas i).head.held_node 0

      none : r.reply.settings.nodes_taken ≡ x.settings.nodes_taken → r.reply.number ≢ 0 → r.reply.settings.nodes_taken ≡ x.settings.nodes_taken + pick (both a (both b (eqb r.reply.number 0))) 1 0
      none e z =
          let q : eqb r.reply.number 0 ≡ false = ne_eqb _ _ z in
          let y : ◌≡◌ {A = ℕ} (pick (both a (both b (eqb r.reply.number 0))) 1 0) 0 = rw q (pick_false _ _ _ (both_false_last a b)) in
          omega arith

      by : Dec (r.reply.number ≡ 0) → Dec (r.reply.number ≡ 9) → r.reply.settings.nodes_taken ≡ x.settings.nodes_taken + pick (both a (both b (eqb r.reply.number 0))) 1 0
      by (yes z) d =
          let q : eqb r.reply.number 0 ≡ true = eq-eqb _ _ z in
          let y : ◌≡◌ {A = ℕ} (pick (both a (both b (eqb r.reply.number 0))) 1 0) (pick (both a b) 1 0) = rw (q, both_true_right) refl in
          let e : r.reply.settings.nodes_taken ≡ x.settings.nodes_taken + pick (both a b) 1 0 = ap (λ u. u.reply.settings.nodes_taken) (done_number w x.settings i x.areas z) ∙ act-counts w (views x.settings i) x.settings (record_of x.areas i) (memory_of x.areas) in
          omega arith
      by (no z) (yes y) = none (ap (λ u. u.reply.settings.nodes_taken) (nine_is_full w x.settings i x.areas y)) z
      by (no z) (no y) = none (ap (λ u. u.reply.settings.nodes_taken) (turn-refused w x.settings i x.areas z y)) z

  start-counts : (looks : Bool) (i row column : ℕ) → (start w x.settings looks i row column x.areas).reply.settings.nodes_taken ≡ x.settings.nodes_taken
  start-counts looks i row column = by (ℕ_discrete (start w x.settings looks i row column x.areas).reply.number 0)
    where
      r : Result
      r = start w x.settings looks i row column x.areas

      by : Dec (r.reply.number ≡ 0) → r.reply.settings.nodes_taken ≡ x.settings.nodes_taken
      by (yes z) = ap (λ u. u.reply.settings.nodes_taken) (start_done w x.settings looks i row column x.areas z)
      by (no z) = ap (λ u. u.settings.nodes_taken) ((refuses-start w x.settings looks i row column x.areas).unchanged z).1

  start-takes : (looks : Bool) (i row column : ℕ) → ◌≡◌ {A = ℕ} (pick (takes_number w (starts looks i row column) x) 1 0) 0
  unfolding takes_number pick
  start-takes looks i row column = refl

  -- one event
  event_counts : (e : Event) → (happens w e x).reply.settings.nodes_taken ≡ x.settings.nodes_taken + pick (takes_number w e x) 1 0
  unfolding happens
  event_counts (starts looks i row column) = let a = start-counts looks i row column in let b = start-takes looks i row column in omega arith
  event_counts (turns i) = turn-counts i

-- a sequence
pub sequence_counts : (w : ℕ) (es : List Event) (x : State) → (state_after w es x).settings.nodes_taken ≡ x.settings.nodes_taken + numbers_taken w es x
unfolding state_after numbers_taken
sequence_counts w [] x = omega arith
sequence_counts w (e ∷ es) x = let a = sequence_counts w es (after (happens w e x)) in let b = event_counts w x e in omega arith
