-- Laws of a worker's record in its words, over any digit width: what is stored is loaded again, other workers' words stay, words that are 0 are idle.
-- Relies on Pieces for the head and the Moves, on Apart for the words of two workers.
use mathlib.Core.Path.{◌≡◌, refl, ap, sym, ◌∙◌}
use mathlib.Core.Bool.{Bool, true, false}
use mathlib.Core.List.{List, []}
use Prim.Native.Nat.{ℕ, ◌+◌, ◌*◌, ◌≤◌, ◌<◌}
use native.Mathlib.Omega.{arith}
use lib.ListN.{length, get_or, replicate}
use Rattle.words.specs.Blocks.{cells}
use Rattle.words.specs.Choice.{pick}
use Rattle.words.proofs.Blocks.{get_d_cells}
use Rattle.settings.specs.Sizes.{head_words, move_words, most_moves, worker_words}
use Rattle.settings.specs.declared.Settings.{Settings}
use Rattle.record.specs.declared.Kind.TheVariants.{Idle}
use Rattle.record.specs.declared.Head.{Head}
use Rattle.record.specs.Kinds.{kinds, kind_of, kind_no}
use Rattle.record.specs.Layout.{Record, record', head_from, head_list, worker_place, head_at, moves_at, first_moves, load, store_head, store_moves, store}
use Rattle.record.specs.Fits.{viewer_told, answer_fits, fits_by, fits}
use Rattle.record.proofs.Apart.{Outside, before, after, cells_same, cells-all, room, apart}
use Rattle.record.proofs.Pieces.{AllSized, first_same, length-store_moves, moves_before, moves_outside, moves_back, length-store_head, head_back, head_outside, head_of, count_of}

-- a record that a worker's words can hold
pub record WellFormed (r : Record) : Type 0 where
  pub sized : AllSized r.moves
  pub few : length r.moves ≤ most_moves

-- the record of worker i
module _ (w : ℕ) (r : Record) (i : ℕ) (l : List ℕ) where
  -- the number of words stays
  pub length-store : length (store r i l) ≡ length l
  unfolding store
  length-store =
      length-store_moves w i r.moves (store_head r.head (length r.moves) i l)
      ∙ length-store_head r.head (length r.moves) i l

  -- the ten words of the head are there, and so is the head
  pub store_head_lem : worker_place i + 10 ≤ length l → cells (store r i l) (worker_place i) 10 ≡ head_list r.head (length r.moves)
  unfolding store
  store_head_lem h =
      let l₁ : List ℕ = store_head r.head (length r.moves) i l in
      cells_same (store_moves r.moves i l₁) l₁ (worker_place i) 10
      (λ k g. moves_before w i r.moves l₁ (worker_place i + k) (omega arith))
      ∙ head_back r.head (length r.moves) i l h

  pub head_stored : worker_place i + 10 ≤ length l → head_at (store r i l) i ≡ r.head
  unfolding head_at
  head_stored h = head_of (store r i l) (worker_place i) r.head (length r.moves) (store_head_lem h)

  -- what is stored is loaded again
  pub load_store : WellFormed r → worker_words * i + worker_words ≤ length l → load (store r i l) i ≡ r
  unfolding load head_at moves_at store worker_place
  load_store f h =
      let s : AllSized r.moves = f.sized in
      let c : length r.moves ≤ most_moves = f.few in
      let b : head_words + move_words * most_moves ≤ worker_words = room in
      let l₁ : List ℕ = store_head r.head (length r.moves) i l in
      let n : length l₁ ≡ length l = length-store_head r.head (length r.moves) i l in
      let t : cells (store r i l) (worker_place i) 10 ≡ head_list r.head (length r.moves) = store_head_lem (omega arith) in
      let m : get_or (store r i l) (worker_place i + 9) 0 ≡ length r.moves = count_of _ (worker_place i) r.head _ t in
      let a : head_at (store r i l) i ≡ r.head = head_stored (omega arith) in
      let q : first_moves (store_moves r.moves i l₁) i (length r.moves) ≡ r.moves = moves_back w i r.moves l₁ s (omega arith) in
      rw (a, m, q)

  -- what lies outside of the worker's words stays
  pub store_outside : WellFormed r → (k : ℕ) → Outside (worker_place i) (worker_words) k → get_or (store r i l) k 0 ≡ get_or l k 0
  unfolding store
  store_outside f k (before h) =
      moves_outside w i r.moves (store_head r.head (length r.moves) i l) k f.sized (before (omega arith))
      ∙ head_outside r.head (length r.moves) i l k (before h)
  store_outside f k (after h) =
      let c : length r.moves ≤ most_moves = f.few in
      let b : head_words + move_words * most_moves ≤ worker_words = room in
      moves_outside w i r.moves (store_head r.head (length r.moves) i l) k f.sized (after (omega arith))
      ∙ head_outside r.head (length r.moves) i l k (after (omega arith))

-- two lists that agree in the words of worker i have the same record there
pub load_same :
    (l l' : List ℕ) (i : ℕ) → ((k : ℕ) → k < worker_words → get_or l (worker_place i + k) 0 ≡ get_or l' (worker_place i + k) 0)
    → moves_at l' i ≤ most_moves → load l i ≡ load l' i
unfolding load head_at moves_at
load_same l l' i h g =
    let b : head_words + move_words * most_moves ≤ worker_words = room in
    let c : cells l (worker_place i) 9 ≡ cells l' (worker_place i) 9 = cells_same l l' (worker_place i) 9 (λ k q. h k (omega arith)) in
    let m : get_or l (worker_place i + 9) 0 ≡ get_or l' (worker_place i + 9) 0 = h 9 (omega arith) in
    rw (c, m, first_same l l' i h _ g)

-- storing the record of worker i leaves the words and the record of worker j
module _ (w : ℕ) (r : Record) (i j : ℕ) (l : List ℕ) where
  pub store_other :
      WellFormed r → (j ≡ i → ⊥) → (k : ℕ) → k < worker_words → get_or (store r i l) (worker_words * j + k) 0 ≡ get_or l (worker_words * j + k) 0
  unfolding worker_place
  store_other f d k h = store_outside w r i l f (worker_place j + k) (apart i j k d h)

  pub load_other : WellFormed r → (j ≡ i → ⊥) → moves_at l j ≤ most_moves → load (store r i l) j ≡ load l j
  load_other f d g =
      load_same (store r i l) l j (λ k h. store_outside w r i l f (worker_place j + k) (apart i j k d h)) g

-- a record with no Moves is stored by its head alone
pub store-none : (h : Head) (i : ℕ) (l : List ℕ) → store (record' h []) i l ≡ store_head h 0 i l
unfolding store store_moves
store-none h i l = refl

-- the record whose words are all 0: idle, no answer yet, nothing held
abbrev pub idle : Record
idle =
    record'
    (record { kind = Idle; pixel = 0; level = 0; node = 0; count = 0; held_node = 0; held_level = 0; answer = 0; answer_node = 0 })
    []

pub zero-idle : (l : List ℕ) (i : ℕ) → cells l (worker_place i) 10 ≡ replicate 10 0 → load l i ≡ idle
unfolding load head_at moves_at first_moves head_from kind_of kinds cells
zero-idle l i e =
    let a : head_from (cells l (worker_place i) 9) ≡ head_from (cells l (worker_place i) 10) = refl in
    let b : head_from (cells l (worker_place i) 9) ≡ idle.head = a ∙ ap head_from e in
    let m : get_or l (worker_place i + 9) 0 ≡ 0 = sym (get_d_cells l (worker_place i) 10 9 (omega arith)) ∙ ap (λ (v : List ℕ). get_or v 9 0) e in
    rw (b, m)

pub zero_words : (l : List ℕ) (i : ℕ) → ((k : ℕ) → k < 10 → get_or l (worker_place i + k) 0 ≡ 0) → load l i ≡ idle
zero_words l i h = zero-idle l i (cells-all l 0 (worker_place i) 10 h)

pub idle-fits : (w : ℕ) (v : Bool) (s : Settings) → fits w v s idle ≡ true
unfolding fits fits_by answer_fits viewer_told pick kind_no
idle-fits w true s = refl
idle-fits w false s = refl

pub zero-fits : (w : ℕ) (v : Bool) (s : Settings) (l : List ℕ) (i : ℕ) → cells l (worker_place i) 10 ≡ replicate 10 0 → fits w v s (load l i) ≡ true
zero-fits w v s l i e = ap (λ (r : Record). fits w v s r) (zero-idle l i e) ∙ idle-fits w v s
