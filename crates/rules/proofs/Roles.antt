-- A viewer's record stays that of a viewer, which holds nothing, another worker's that of another: over a start, over a turn, over "full".
-- Relies on the definitions of the turns, on the answers that a record tells.
use Prim.Native.Nat.{ℕ, ◌≤◌, ◌<◌}
use mathlib.Core.Path.{◌≡◌, refl, sym, ap, ◌∙◌}
use mathlib.Core.Logic.{◌≢◌}
use mathlib.Core.Bool.{Bool, true, false}
use mathlib.Core.List.{List}
use lib.Dec.{eqb, ltb}
use native.Mathlib.Omega.{arith}
use borrow.Author.Tests.{eqb-false, le-leb}
use Rattle.words.specs.Choice.{pick, both}
use Rattle.words.proofs.Choice.{pick-both, true_false}
use Rattle.settings.specs.Sizes.{views}
use Rattle.settings.specs.declared.Settings.{Settings}
use Rattle.areas.specs.Memory.{Memory, is_node}
use Rattle.record.specs.declared.Kind.{Kind}
use Rattle.record.specs.declared.Kind.TheVariants.{Idle, Look, Take, Put, Read, Tail, TakeTail, Append, Level, Close, Follow, ChainHead, ChainNext, SetNext, SetLook, SetPut, SetRead, SetTail, SetAppend, SetLevel, SetClose, SetFollow, MoveEnd, Unknown}
use Rattle.record.specs.declared.Head.{Head}
use Rattle.record.specs.declared.Move.{Move}
use Rattle.record.specs.Kinds.{kind_no}
use Rattle.record.specs.Layout.{Record}
use Rattle.record.specs.Fits.{viewing, role_fits, viewer_told, answer_fits}
use Rattle.rules.specs.Heads.{to, to_level, to_node, ended, started}
use Rattle.rules.specs.Steps.{Step, expected, peeked, by_count}
use Rattle.rules.specs.Searching as searching
use Rattle.rules.specs.Searching.{takes_node, takes_next, viewed}
use Rattle.rules.specs.Acts.{act_by, act}
use Rattle.rules.specs.Asked.{question7}
use Rattle.rules.specs.Operations.{record_of, memory_of}
use Rattle.rules.specs.Lists.{State}
use Rattle.trie.proofs.Whole.{Worker}
use Rattle.rules.proofs.Idle.{open_of}
use Rattle.rules.proofs.Invariant.{WorldOf, views_same, HoldsNone, Role, Fine}
use Rattle.rules.proofs.Tells.{act_tells}

-- the four kinds of a viewer's call
pub data Viewing : Kind → Type 0 where
  at_look : Viewing Look
  at_read : Viewing Read
  at_tail : Viewing Tail
  at_follow : Viewing Follow

pub viewing_kind : (k : Kind) → viewing (kind_no k) ≡ true → Viewing k
unfolding viewing kind_no pick
viewing_kind Look e = at_look
viewing_kind Read e = at_read
viewing_kind Tail e = at_tail
viewing_kind Follow e = at_follow
viewing_kind Idle e = absurd (true_false (sym e))
viewing_kind Take e = absurd (true_false (sym e))
viewing_kind Put e = absurd (true_false (sym e))
viewing_kind TakeTail e = absurd (true_false (sym e))
viewing_kind Append e = absurd (true_false (sym e))
viewing_kind Level e = absurd (true_false (sym e))
viewing_kind Close e = absurd (true_false (sym e))
viewing_kind ChainHead e = absurd (true_false (sym e))
viewing_kind ChainNext e = absurd (true_false (sym e))
viewing_kind SetNext e = absurd (true_false (sym e))
viewing_kind SetLook e = absurd (true_false (sym e))
viewing_kind SetPut e = absurd (true_false (sym e))
viewing_kind SetRead e = absurd (true_false (sym e))
viewing_kind SetTail e = absurd (true_false (sym e))
viewing_kind SetAppend e = absurd (true_false (sym e))
viewing_kind SetLevel e = absurd (true_false (sym e))
viewing_kind SetClose e = absurd (true_false (sym e))
viewing_kind SetFollow e = absurd (true_false (sym e))
viewing_kind MoveEnd e = absurd (true_false (sym e))
viewing_kind Unknown e = absurd (true_false (sym e))

-- a viewer's head: of one of these kinds, or idle with one of its answers; it holds nothing
open_role : (k : Kind) (h : Head) → h.kind ≡ k → viewing (kind_no k) ≡ true → kind_no k ≢ 0 → HoldsNone h → Role true h
unfolding role_fits pick
open_role k h e v z o = record { rest = λ y. absurd (z (sym (ap kind_no e) ∙ y)); call = λ y. ap (λ (k : Kind). viewing (kind_no k)) e ∙ v; holds_none = λ y. o }

ended_role : (v : Bool) (a i n : ℕ) (h : Head) → answer_fits v a ≡ true → (v ≡ true → (n ≡ 0) × (h.held_level ≡ 0)) → Role v (ended a i n h)
unfolding ended kind_no
ended_role v a i n h e o = record { rest = λ y. e; call = λ y. absurd (y refl); holds_none = o }

-- a start
pub start_role : (v : Bool) (p : ℕ) (h : Head) → Role v h → Role v (started p h)
unfolding started role_fits viewing kind_no pick
start_role true p h r = record { rest = λ y. absurd (omega arith); call = λ y. refl; holds_none = r.holds_none }
start_role false p h r = record { rest = λ y. absurd (omega arith); call = λ y. refl; holds_none = r.holds_none }

pub of_viewer_lem : (k : ℕ) → role_fits true k ≡ true → viewing k ≡ true
unfolding role_fits pick
of_viewer_lem k e = e

pub takes-not : {k : Kind} → Viewing k → takes_node k ≡ true → ⊥
unfolding takes_node kind_no pick
takes-not at_look e = true_false (sym e)
takes-not at_read e = true_false (sym e)
takes-not at_tail e = true_false (sym e)
takes-not at_follow e = true_false (sym e)

takes_open : (k : Kind) → takes_node k ≡ true → kind_no k ≢ 0
unfolding takes_node pick
takes_open k t z = by (kind_no k) z t
  where
    by : (n : ℕ) → n ≡ 0 → pick (eqb n 2) true (eqb n 6) ≡ true → ⊥
    by n e t = none (rw e at t)
      where
        none : pick (eqb 0 2) true (eqb 0 6) ≡ true → ⊥
        none e = true_false (sym e)

-- "full": no viewer is about to take a node
pub full_role : (v : Bool) (n : ℕ) (h : Head) → takes_node h.kind ≡ true → Role v h → Role v (ended 3 0 n h)
unfolding answer_fits pick
full_role false n h t r = ended_role false 3 0 n h refl (λ y. absurd (true_false (sym y)))
full_role true n h t r = absurd (takes-not (viewing_kind h.kind (of_viewer_lem _ (r.call (takes_open h.kind t)))) t)

-- a viewer's turn
module _ (w : ℕ) (s : Settings) (h : Head) (m : Memory) (o : HoldsNone h) where
  abbrev Stays : Step → Type 0
  Stays t = Role true t.record'.head

  met_role : (c g word : ℕ) → Stays (searching.met s h c g word m)
  unfolding searching.met searching.met_node to_node to_level answer_fits viewer_told viewing kind_no pick
  met_role c g word =
      pick-both Stays (is_node word)
      (λ e. pick-both Stays (eqb _ h.pixel) (λ q. ended_role true 2 _ _ h refl (λ y. o)) (λ q. open_role Tail _ refl refl (λ z. omega arith) o))
      (λ e. open_role Look _ refl refl (λ z. omega arith) o)

  -- the next kind, by whether it is one that places
  abbrev Next : Kind → Type 0
  Next k = Stays (viewed true s (to k h) m)

  absent_so : (k : Kind) → takes_next k ≡ true → Next k
  unfolding viewed to both answer_fits viewer_told pick
  absent_so k e = pick-both Stays (takes_next k) (λ y. ended_role true 5 0 _ _ refl (λ z. o)) (λ y. absurd (true_false (sym e ∙ y)))

  goes_so : (k : Kind) → takes_next k ≡ false → viewing (kind_no k) ≡ true → kind_no k ≢ 0 → Next k
  unfolding viewed to both pick
  goes_so k e v z = pick-both Stays (takes_next k) (λ y. absurd (true_false (sym y ∙ e))) (λ y. open_role k _ refl v z o)

  count_role : (c : ℕ) → Next (by_count s c TakeTail Level Follow)
  unfolding by_count takes_next takes_node viewing kind_no pick
  count_role c =
      pick-both Next (ltb c s.limit) (λ e. absent_so TakeTail refl) (λ e. pick-both Next (eqb c s.limit) (λ f. absent_so Level refl) (λ f. goes_so Follow refl refl (λ z. omega arith)))

  viewer_role : {k : Kind} (ms : List Move) → Viewing k → Stays (act_by k w true s h ms m)
  unfolding act_by searching.look searching.tail searching.read searching.read_word searching.follow searching.follow_word peeked takes_next takes_node viewing kind_no pick
  viewer_role ms at_look = pick-both Next (expected h _) (λ e. absent_so Take refl) (λ e. goes_so Read refl refl (λ z. omega arith))
  viewer_role ms at_read = met_role _ _ _
  viewer_role ms at_tail = pick-both Next (expected h _) (λ e. count_role _) (λ e. goes_so Follow refl refl (λ z. omega arith))
  viewer_role ms at_follow = met_role _ _ _

low_fits : {a : ℕ} → a ≤ 3 → answer_fits false a ≡ true
unfolding answer_fits pick
low_fits {a} l = le-leb a 3 l

any_kind : (k : ℕ) → role_fits false k ≡ true
unfolding role_fits pick
any_kind k = refl

-- a turn
pub act_role : (w : ℕ) (v : Bool) (s : Settings) (r : Record) (m : Memory) → question7 r ≡ false → Role v r.head → Role v (act w v s r m).record'.head
unfolding act question7
act_role w true s r m b p = viewer_role w s r.head m (p.holds_none refl) r.moves (viewing_kind r.head.kind (of_viewer_lem _ (p.call (eqb-false _ _ b))))
act_role w false s r m b p = record { rest = λ z. low_fits ((act_tells w false s r m (open_of r b)).low refl z); call = λ z. any_kind _; holds_none = λ z. absurd (true_false (sym z)) }

-- of worker i, in a state that is fine
pub turn_role : {w : ℕ} {s₀ : Settings} {x : State} {W : WorldOf w s₀} {ws : ℕ → Worker} (F : Fine w s₀ x W ws) (i : ℕ) → i < s₀.workers → question7 (record_of x.areas i) ≡ false → Role (views s₀ i) (act w (views x.settings i) x.settings (record_of x.areas i) (memory_of x.areas)).record'.head
turn_role {w} {s₀} {x} F i h b = rw (views_same i F.table.same) (act_role w (views s₀ i) x.settings (record_of x.areas i) (memory_of x.areas) b (F.roles i h))
