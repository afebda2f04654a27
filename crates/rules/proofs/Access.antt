-- A turn makes one shared access, by kind.
-- Relies on the definitions of the kinds.
use mathlib.Core.Bool.{Bool}
use Rattle.settings.specs.Sizes.{views}
use Prim.Native.Nat.{ℕ, suc, ◌-◌}
use mathlib.Core.Path.{◌≡◌, refl}
use mathlib.Core.Bool.{false}
use mathlib.Core.List.{List, []}
use native.Mathlib.Nat.{mod-lt}
use native.Mathlib.Omega.{arith}
use lib.Dec.{eqb}
use borrow.Author.Tests.{eqb-false}
use Rattle.words.specs.Digits.{digit}
use Rattle.words.proofs.Choice.{pick-both}
use Rattle.settings.specs.declared.Settings.{Settings}
use Rattle.areas.specs.Memory.{Memory, is_node, entry_cell, cell_at}
use Rattle.areas.specs.declared.Cell.{Cell}
use Rattle.areas.specs.declared.Cell.TheVariants.{Next}
use Rattle.record.specs.declared.Kind.{Kind}
use Rattle.record.specs.declared.Kind.TheVariants.{Idle, Look, Take, Put, Read, Tail, TakeTail, Append, Level, Close, Follow, ChainHead, ChainNext, SetNext, SetLook, SetPut, SetRead, SetTail, SetAppend, SetLevel, SetClose, SetFollow, MoveEnd, Unknown}
use Rattle.record.specs.declared.Head.{Head}
use Rattle.record.specs.declared.Move.{Move}
use Rattle.record.specs.Layout.{Record}
use Rattle.rules.specs.Steps.{Step, with_node, take_node, with_level, take_level, closed}
use Rattle.rules.specs.Searching as searching
use Rattle.rules.specs.Moving as moving
use Rattle.rules.specs.Acts.{act_by, act}
use Rattle.rules.specs.Operations.{Result, record_of, memory_of, unless_refused, taken, full, turn}
use Rattle.rules.specs.Access.{Inside, Access, OneAccess}
use Rattle.rules.specs.Access as access
use Rattle.rules.proofs.Exchanging.{exchange-both}
use Rattle.rules.proofs.Dims.{base_pos}

-- the number of what is held, where something is
held : {n : ℕ} → eqb n 0 ≡ false → n ≡ suc (n - 1)
held {n} e = let d = eqb-false n 0 e in omega arith

module _ (w : ℕ) (looks : Bool) (s : Settings) (h : Head) (m : Memory) where
  abbrev By : Step → Type 0
  By t = Access w s h m t.settings t.memory

  still : Access w s h m s m
  still = access.none refl refl

  -- a pixel's digit is the number of an entry
  picked : (levels : List ℕ) (g p : ℕ) → Inside w (entry_cell w levels g p)
  unfolding entry_cell digit
  picked levels g p = mod-lt _ (base_pos w)

  placed_by : (failed : ℕ → Memory → Step) (x : Cell) → Inside w x → By (failed (cell_at w m x) m) → By (searching.placed w failed s h x m)
  unfolding searching.placed
  placed_by failed x i f = exchange-both By w h x _ _ _ m (λ e. access.cell x _ i refl refl) (λ e. f)

  met_by : (c g word : ℕ) → By (searching.met s h c g word m)
  unfolding searching.met searching.met_node
  met_by c g word = pick-both By (is_node word) (λ e. pick-both By (eqb _ h.pixel) (λ q. still) (λ q. still)) (λ e. still)

  viewed_by : (h' : Head) → By (searching.viewed looks s h' m)
  unfolding searching.viewed
  viewed_by h' = pick-both By _ (λ e. still) (λ e. still)

  take_by : (k : Kind) → By (take_node k s h m)
  unfolding take_node with_node
  take_by k = pick-both By (eqb h.held_node 0) (λ e. access.next_node _ _ refl refl) (λ e. access.spare_node _ _ _ (held e) refl refl)

  level_by : (k : Kind) (ms : List Move) → By (take_level w k s h ms m)
  unfolding take_level with_level
  level_by k ms = pick-both By (eqb h.held_level 0) (λ e. access.next_level _ _ refl refl) (λ e. access.spare-level _ _ _ (held e) refl refl)

  closed_by : (failed : ℕ → Memory → Step) (ms : List Move) → By (failed (cell_at w m (Next h.node)) m) → By (closed w failed s h ms m)
  unfolding closed
  closed_by failed ms f = exchange-both By w h (Next h.node) _ _ _ m (λ e. access.cell (Next h.node) _ tt refl refl) (λ e. f)

  chain_by : (v : Move) (os : List Move) (word : ℕ) → By (moving.chain_word s h v os word m)
  unfolding moving.chain_word moving.set_last
  chain_by v os word = pick-both By (is_node word) (λ e. still) (λ e. still)

  set_by : (failed : ℕ → Memory → Step) (v : Move) (os : List Move) (x : Cell) → Inside w x → By (failed (cell_at w m x) m) → By (moving.set_node w failed s h v os x m)
  unfolding moving.set_node moving.set_last
  set_by failed v os x i f = exchange-both By w h x _ _ _ m (λ e. access.cell x _ i refl refl) (λ e. f)

  kind_by : (k : Kind) (ms : List Move) → By (act_by k w looks s h ms m)
  unfolding act_by searching.entry_of moving.home_cell moving.set_cell_of searching.look searching.take searching.put searching.read searching.read_word searching.tail searching.take_tail searching.append searching.level searching.close searching.follow searching.follow_word moving.chain_head moving.chain_next moving.set_next moving.set_look moving.set_put moving.set_read moving.set_read_word moving.set_met moving.set_tail moving.set_append moving.set_level moving.set_close moving.set_follow moving.set_follow_word moving.move_end
  kind_by Idle ms = still
  kind_by Look ms = viewed_by _
  kind_by Take ms = take_by Put
  kind_by Put ms = placed_by _ _ (picked _ _ _) (met_by _ _ _)
  kind_by Read ms = met_by _ _ _
  kind_by Tail ms = viewed_by _
  kind_by TakeTail ms = take_by Append
  kind_by Append ms = placed_by _ (Next _) tt (met_by _ _ _)
  kind_by Level ms = level_by Close []
  kind_by Close ms = closed_by _ [] (met_by _ _ _)
  kind_by Follow ms = met_by _ _ _
  kind_by ChainHead ms = chain_by _ _ _
  kind_by ChainNext ms = chain_by _ _ _
  kind_by SetNext ms = access.cell (Next _) _ tt refl refl
  kind_by SetLook ms = still
  kind_by SetPut ms = set_by _ _ _ _ (picked _ _ _) still
  kind_by SetRead ms = still
  kind_by SetTail ms = still
  kind_by SetAppend ms = set_by _ _ _ (Next _) tt still
  kind_by SetLevel ms = level_by SetClose _
  kind_by SetClose ms = closed_by _ _ still
  kind_by SetFollow ms = still
  kind_by MoveEnd ms = access.cell _ _ (picked _ _ _) refl refl
  kind_by Unknown ms = still

pub one_access : (w : ℕ) → OneAccess w
unfolding turn unless_refused full taken act
one_access w s i a =
    let P : Result → Type 0 = λ r. Access w s (record_of a i).head (memory_of a) r.reply.settings (memory_of r.areas) in
    let h : Record = record_of a i in
    pick-both P _
    (λ e. access.none refl refl)
    (λ e. pick-both P _ (λ z. kind_by w (views s i) s h.head (memory_of a) h.head.kind h.moves) (λ z. access.none refl refl))
