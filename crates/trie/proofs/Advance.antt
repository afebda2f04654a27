-- A turn of a worker as a whole: the measure falls, a failed exchange frees a doomed worker, and only a done one dooms others.
-- Relies on Digits, Chain, Tree, World, Evolve, Stand, Search, Move, Whole, TakeNode, TakeLevel, Falls and Dooms.
use mathlib.Core.Path.{◌≡◌, refl}
use mathlib.Core.Logic.{◌≢◌}
use mathlib.Core.List.{List}
use Prim.Native.Nat.{ℕ, ◌+◌, ◌-◌, ◌≤◌}
use native.Mathlib.Omega.{arith}
use Rattle.trie.proofs.Digits.{Dims, digit}
use Rattle.trie.proofs.Chain.{level_ref}
use Rattle.trie.proofs.Tree.{Published}
use Rattle.trie.proofs.World.{World, Structure}
use Rattle.trie.proofs.Stand.{Pos, Stand}
use Rattle.trie.proofs.Search.{Phase, peek, fetch, put, again, level, shut, Local, fetches}
use Rattle.trie.proofs.Move.{Frame, gather, aim, set, finish}
use Rattle.trie.proofs.Whole.{Act, idle, searching, moving}
use Rattle.trie.proofs.TakeNode.{take_node, take_grows}
use Rattle.trie.proofs.TakeLevel.{take_level, level_grows}
use Rattle.trie.proofs.Falls.{Falls}
use Rattle.trie.proofs.Dooms.{missed, doom, fail, succeed, dooms, fails, succeeds, missed-le, EndsKept, ends_kept_refl, take_keeps_ends, level_keeps_ends, missed-stays}

-- failed and done exchanges of a turn from w to w', and who is doomed
pub record Dooming {δ : Dims} (w w' : World δ) (K : ℕ) (a a' : Act) : Type 0 where
  pub own : fails w K a + dooms w' K a' ≤ dooms w K a
  pub others : succeeds w K a ≡ 0 → EndsKept w w'

pub record Advance {δ : Dims} (n : ℕ) (w w' : World δ) (K : ℕ) (a a' : Act) : Type 0 where
  pub falls : Falls n w w' a a'
  pub dooming : Dooming w w' K a a'

-- what a worker's numbers are to one another: f exchanges of its turn fail, d are done, and it is doomed o times
pub record Numbers (f d o : ℕ) : Type 0 where
  -- who fails was doomed, who succeeds was not
  pub fails-le : f ≤ o
  pub not-doomed : d ≢ 0 → o ≡ 0
  -- a turn makes one exchange at most, and a worker is doomed once
  pub succeeds-le : d ≤ 1
  pub dooms-le : o ≤ 1

numbers_none : Numbers 0 0 0
numbers_none = record { fails-le = omega arith; not-doomed = λ z. refl; succeeds-le = omega arith; dooms-le = omega arith }

-- committed: the exchange is of a later turn, or of this one
numbers_later : {o : ℕ} → o ≤ 1 → Numbers 0 0 o
numbers_later l = record { fails-le = omega arith; not-doomed = λ z. absurd (z refl); succeeds-le = omega arith; dooms-le = l }

numbers_now : {o : ℕ} → o ≤ 1 → Numbers o (1 - o) o
numbers_now l = record { fails-le = omega arith; not-doomed = λ z. omega arith; succeeds-le = omega arith; dooms-le = l }

phase_numbers : {δ : Dims} (w : World δ) (K : ℕ) (p : Phase) → Numbers (fail w K p) (succeed w K p) (doom w K p)
phase_numbers w K (peek H x) = numbers_none
phase_numbers w K (fetch H x) = numbers_later (missed-le w K H x)
phase_numbers w K (put H x n) = numbers_now (missed-le w K H x)
phase_numbers w K (again H x) = numbers_none
phase_numbers w K (level H x) = numbers_later (missed-le w K H x)
phase_numbers w K (shut H x G) = numbers_now (missed-le w K H x)

pub numbers : {δ : Dims} (w : World δ) (K : ℕ) (a : Act) → Numbers (fails w K a) (succeeds w K a) (dooms w K a)
numbers w K idle = numbers_none
numbers w K (searching p) = phase_numbers w K p
numbers w K (moving f fs gather) = numbers_none
numbers w K (moving f fs (aim N T)) = numbers_none
numbers w K (moving f fs (set N p)) = phase_numbers w (w.pixel N) p
numbers w K (moving f fs finish) = numbers_none

module _ {δ : Dims} {w : World δ} (K : ℕ) where
  -- a turn after which the worker is not doomed: it wrote no end of an open chain
  pub dooming_kept : {w' : World δ} {a a' : Act} → EndsKept w w' → dooms w' K a' ≡ 0 → Dooming w w' K a a'
  dooming_kept {a = a} q z = record { own = omega (arith, (numbers w K a).fails-le); others = λ y. q }

  pub dooming_read : {a a' : Act} → dooms w K a' ≡ 0 → Dooming w w K a a'
  dooming_read z = dooming_kept (ends_kept_refl w) z

  -- or its exchange is done
  pub dooming_done : {w' : World δ} {a a' : Act} → succeeds w K a ≢ 0 → dooms w' K a' ≡ 0 → Dooming w w' K a a'
  dooming_done {a = a} s z = record { own = omega (arith, (numbers w K a).fails-le); others = λ y. absurd (s y) }

  module _ (S : Structure w) where
    -- Take, TakeTail
    pub fetch_dooming : {v b H n : ℕ} {x : Pos} (held : w.node_owner n ≢ 0) (holds : v ≢ 0) → Local w v K b (fetch H x) → Dooming w (take_node w n K (level_ref H) v) K (searching (fetch H x)) (searching (put H x n))
    fetch_dooming {v} {b} {H} {n} {x} held holds (fetches s c u) =
        let q = take_keeps_ends S held K (level_ref H) v in
        let m = missed-stays S (take_grows S held K (level_ref H) v holds) q {K = K} {L = K} {H = H} {x = x} refl s.path.pub_at s.stand in
        record { own = omega arith; others = λ y. q }

    -- Level, SetLevel
    module _ {T G : ℕ} {x : Pos} (held : w.tree.level_owner G ≢ 0) (H d p v : ℕ) (holds : v ≢ 0) (o : Published w.tree T) where
      misses : (L : ℕ) {P : ℕ → Type 0} → Stand w P T (digit δ L (w.tree.depth T)) x → missed (take_level w G H d p v) L T x ≤ missed w L T x
      misses L s = missed-stays S (level_grows S held H d p v holds) (level_keeps_ends S held H d p v) refl o s

      pub level_dooming : {P : ℕ → Type 0} → Stand w P T (digit δ K (w.tree.depth T)) x → Dooming w (take_level w G H d p v) K (searching (level T x)) (searching (shut T x G))
      level_dooming s = let m = misses K s in record { own = omega arith; others = λ y. level_keeps_ends S held H d p v }

      pub set-level_dooming : {P : ℕ → Type 0} {f : Frame} {fs : List Frame} {N : ℕ} → Stand w P T (digit δ (w.pixel N) (w.tree.depth T)) x → Dooming w (take_level w G H d p v) K (moving f fs (set N (level T x))) (moving f fs (set N (shut T x G)))
      set-level_dooming {N = N} s = let m = misses (w.pixel N) s in record { own = omega arith; others = λ y. level_keeps_ends S held H d p v }
