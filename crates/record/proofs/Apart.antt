-- Words that lie apart: outside of a block, blocks of which two lists agree, and the words of two workers, over any digit width.
-- Relies on words for blocks, on settings for sizes.
use mathlib.Core.Path.{◌≡◌, refl}
use mathlib.Core.Bool.{Bool, true, false}
use mathlib.Core.List.{List}
use Prim.Native.Nat.{ℕ, zero, suc, ◌+◌, ◌*◌, ◌≤◌, ◌<◌}
use native.Mathlib.Nat.{mul-suc, mul-le-mul_left, add-zero, add-suc, suc-add}
use native.Mathlib.Omega.{arith}
use lib.Dec.{ltb}
use lib.ListN.{length, get_or, replicate}
use lib.Seq.{sets}
use borrow.Author.Tests.{ltb-true, ltb-false}
use Rattle.words.specs.Blocks.{cells}
use Rattle.words.proofs.Blocks.{below_sets, above_sets}
use Rattle.settings.specs.Sizes.{head_words, move_words, most_moves, worker_words}
use Rattle.record.specs.Layout.{worker_place}

-- place k lies outside of the n places from place a on
pub data Outside (a n k : ℕ) : Type 0 where
  before : k < a → Outside a n k
  after : a + n ≤ k → Outside a n k

pub sets_outside : (vs l : List ℕ) (a k : ℕ) → Outside a (length vs) k → get_or (sets l a vs) k 0 ≡ get_or l k 0
sets_outside vs l a k (before h) = below_sets vs l a k h
sets_outside vs l a k (after h) = above_sets vs l a k h

-- two lists that agree in a block's words have the same block there
pub cells_same : (l l' : List ℕ) (p n : ℕ) → ((k : ℕ) → k < n → get_or l (p + k) 0 ≡ get_or l' (p + k) 0) → cells l p n ≡ cells l' p n
unfolding cells
cells_same l l' p zero h = refl
cells_same l l' p (suc n) h =
    let a : get_or l p 0 ≡ get_or l' p 0 = rw add-zero at (h 0 (omega arith)) in
    let b : (k : ℕ) → k < n → get_or l (suc p + k) 0 ≡ get_or l' (suc p + k) 0 = λ k g. rw (suc-add, ← add-suc) (h (suc k) (omega arith)) in
    rw (a, cells_same l l' (suc p) n b)

-- a block whose words are all v
pub cells-all : (l : List ℕ) (v p n : ℕ) → ((k : ℕ) → k < n → get_or l (p + k) 0 ≡ v) → cells l p n ≡ replicate n v
unfolding cells
cells-all l v p zero h = refl
cells-all l v p (suc n) h =
    let a : get_or l p 0 ≡ v = rw add-zero at (h 0 (omega arith)) in
    let b : (k : ℕ) → k < n → get_or l (suc p + k) 0 ≡ v = λ k g. rw (suc-add, ← add-suc) (h (suc k) (omega arith)) in
    rw (a, cells-all l v (suc p) n b)

-- the head and the Moves have room in a worker's words
pub room : head_words + move_words * most_moves ≤ worker_words
room = omega arith

-- the words of two workers lie apart
pub place_next : {i n : ℕ} → i < n → worker_words * i + worker_words ≤ worker_words * n
place_next {i} {n} h =
    let a : worker_words * suc i ≤ worker_words * n = mul-le-mul_left (worker_words) h in rw mul-suc at a

pub apart : (i j k : ℕ) → (j ≡ i → ⊥) → k < worker_words → Outside (worker_place i) (worker_words) (worker_place j + k)
unfolding worker_place
apart i j k d h = go (ltb j i) refl
  where
    go : (b : Bool) → ltb j i ≡ b → Outside (worker_words * i) (worker_words) (worker_words * j + k)
    go true t =
        let g : j < i = ltb-true _ _ t in
        let a : worker_words * j + worker_words ≤ worker_words * i = place_next g in
        before (omega arith)
    go false t =
        let g : i ≤ j = ltb-false _ _ t in
        let g' : i < j = omega arith in
        let a : worker_words * i + worker_words ≤ worker_words * j = place_next g' in
        after (omega arith)
