-- The words of a Move, of a list of Moves and of a head: what is stored is there again, and what lies outside stays.
-- Relies on words for blocks, on Apart for words that lie apart, on Numbers for the kinds.
use mathlib.Core.Path.{◌≡◌, refl, ap, sym, ◌∙◌}
use mathlib.Core.List.{List, [], ◌∷◌}
use Prim.Native.Nat.{ℕ, zero, suc, ◌+◌, ◌*◌, ◌≤◌, ◌<◌}
use native.Mathlib.Nat.{add-zero, add_assoc}
use native.Mathlib.Omega.{arith}
use lib.ListN.{length, get_or}
use lib.Seq.{sets, length-sets}
use Rattle.words.specs.Blocks.{cells}
use Rattle.words.proofs.Blocks.{length-cells, get_d_cells, read_back, read_before, below_sets, above_sets, sets-cells}
use Rattle.settings.specs.Sizes.{head_words, move_words, max_limit, most_moves, worker_words}
use Rattle.record.specs.declared.Head.{Head}
use Rattle.record.specs.declared.Move.{Move}
use Rattle.record.specs.Layout.{head_from, head_list, worker_place, move_place, move_from, move_at, first_moves, store_head, move_to, store_moves, new_move}
use Rattle.record.proofs.Numbers.{kind_back}
use Rattle.record.proofs.Apart.{Outside, before, after, sets_outside, cells_same, room}

pub length-first : (l : List ℕ) (i n : ℕ) → length (first_moves l i n) ≡ n
unfolding first_moves
length-first l i zero = refl
length-first l i (suc n) = ap suc (length-first l i n)

-- Each Move of the list has a word for each place of a chain
abbrev pub AllSized : List Move → Type 0
AllSized [] = Unit
AllSized (m ∷ ms) = (length m.nodes ≡ max_limit) × AllSized ms

-- what a Move's words are: what was stored is there again, and what else is written stays
pub length-move_to : (m : Move) (p : ℕ) (l : List ℕ) → length (move_to m p l) ≡ length l
unfolding move_to
length-move_to m p l = length-sets (sets l p (m.home ∷ m.child ∷ m.count ∷ [])) (p + 3) m.nodes ∙ length-sets l p (m.home ∷ m.child ∷ m.count ∷ [])

pub move_before : (m : Move) (p : ℕ) (l : List ℕ) (k : ℕ) → k < p → get_or (move_to m p l) k 0 ≡ get_or l k 0
unfolding move_to
move_before m p l k h =
    below_sets m.nodes (sets l p (m.home ∷ m.child ∷ m.count ∷ [])) (p + 3) k (omega arith)
    ∙ below_sets (m.home ∷ m.child ∷ m.count ∷ []) l p k h

pub move_outside :
    (m : Move) (p : ℕ) (l : List ℕ) (k : ℕ) → length m.nodes ≡ max_limit → Outside p move_words k → get_or (move_to m p l) k 0 ≡ get_or l k 0
unfolding move_to
move_outside m p l k e (before h) = move_before m p l k h
move_outside m p l k e (after h) =
    above_sets m.nodes (sets l p (m.home ∷ m.child ∷ m.count ∷ [])) (p + 3) k (omega arith)
    ∙ above_sets (m.home ∷ m.child ∷ m.count ∷ []) l p k (omega arith)

move_of :
    (l : List ℕ) (p : ℕ) (m : Move)
    → cells l p 3 ≡ m.home ∷ m.child ∷ m.count ∷ [] → cells l (p + 3) max_limit ≡ m.nodes → move_from l p ≡ m
unfolding move_from cells
move_of l p m b c =
    let x : get_or l p 0 ≡ m.home = ap (λ (v : List ℕ). get_or v 0 0) b in
    let y : get_or l (p + 1) 0 ≡ m.child = sym (get_d_cells l p 3 1 (omega arith)) ∙ ap (λ (v : List ℕ). get_or v 1 0) b in
    let z : get_or l (p + 2) 0 ≡ m.count = sym (get_d_cells l p 3 2 (omega arith)) ∙ ap (λ (v : List ℕ). get_or v 2 0) b in
    let r : record { home = get_or l p 0; child = get_or l (p + 1) 0; count = get_or l (p + 2) 0; nodes = cells l (p + 3) max_limit } ≡ m = rw (x, y, z, c) in
    r

pub move_back : (m : Move) (p : ℕ) (l : List ℕ) → length m.nodes ≡ max_limit → p + move_words ≤ length l → move_from (move_to m p l) p ≡ m
unfolding move_to
move_back m p l e h =
    let f : List ℕ = m.home ∷ m.child ∷ m.count ∷ [] in
    let l₁ : List ℕ = sets l p f in
    let n : length l₁ ≡ length l = length-sets l p f in
    let c : cells (sets l₁ (p + 3) m.nodes) (p + 3) max_limit ≡ m.nodes = rw (← e) (read_back m.nodes l₁ (p + 3) (omega arith)) in
    let b : cells (sets l₁ (p + 3) m.nodes) p 3 ≡ f = read_before m.nodes l₁ (p + 3) 3 p (omega arith) ∙ read_back f l p (omega arith) in
    move_of _ p m b c

-- two lists that agree in the words of a Move have the same Move there
pub move_same :
    (l l' : List ℕ) (p : ℕ) → ((k : ℕ) → k < move_words → get_or l (p + k) 0 ≡ get_or l' (p + k) 0) → move_from l p ≡ move_from l' p
unfolding move_from
move_same l l' p h =
    let x : get_or l p 0 ≡ get_or l' p 0 = rw add-zero at (h 0 (omega arith)) in
    let b : (k : ℕ) → k < max_limit → get_or l (p + 3 + k) 0 ≡ get_or l' (p + 3 + k) 0 = λ k g. rw add_assoc (h (3 + k) (omega arith)) in
    simp (x, h 1 (omega arith), h 2 (omega arith), cells_same l l' (p + 3) max_limit b)

-- the Moves of worker i: how many words there are stays, what lies outside of the Moves' words stays, and they are there again
module _ (w i : ℕ) where
  pub length-store_moves : (ms : List Move) (l : List ℕ) → length (store_moves ms i l) ≡ length l
  unfolding store_moves
  length-store_moves [] l = refl
  length-store_moves (m ∷ ms) l =
      length-store_moves ms (move_to m (move_place i (length ms)) l) ∙ length-move_to m (move_place i (length ms)) l

  pub moves_before : (ms : List Move) (l : List ℕ) (k : ℕ) → k < worker_place i + head_words → get_or (store_moves ms i l) k 0 ≡ get_or l k 0
  unfolding store_moves move_place
  moves_before [] l k h = refl
  moves_before (m ∷ ms) l k h = moves_before ms _ k h ∙ move_before m (move_place i (length ms)) l k (omega arith)

  pub moves_outside :
      (ms : List Move) (l : List ℕ) (k : ℕ)
      → AllSized ms → Outside (worker_place i + head_words) (move_words * length ms) k → get_or (store_moves ms i l) k 0 ≡ get_or l k 0
  unfolding store_moves move_place
  moves_outside [] l k s (before h) = moves_before [] l k h
  moves_outside [] l k s (after h) = refl
  moves_outside (m ∷ ms) l k (e, s) (before h) = moves_before (m ∷ ms) l k h
  moves_outside (m ∷ ms) l k (e, s) (after h) =
      moves_outside ms (move_to m (move_place i (length ms)) l) k s (after (omega arith))
      ∙ move_outside m (move_place i (length ms)) l k e (after (omega arith))

  pub moves_back :
      (ms : List Move) (l : List ℕ)
      → AllSized ms → worker_place i + head_words + move_words * length ms ≤ length l → first_moves (store_moves ms i l) i (length ms) ≡ ms
  unfolding store_moves first_moves move_at move_place
  moves_back [] l s h = refl
  moves_back (m ∷ ms) l (e, s) h =
      let p : ℕ = move_place i (length ms) in
      let l₁ : List ℕ = move_to m p l in
      let n : length l₁ ≡ length l = length-move_to m p l in
      let a : move_from (store_moves ms i l₁) p ≡ move_from l₁ p =
      move_same (store_moves ms i l₁) l₁ p (λ k g. moves_outside ms l₁ (p + k) s (after (omega arith)))
      in
      let b : move_from l₁ p ≡ m = move_back m p l e (omega arith) in
      rw (a, b, moves_back ms l₁ s (omega arith))

-- two lists that agree in the words of worker i have the same first Moves there
pub first_same :
    (l l' : List ℕ) (i : ℕ) → ((k : ℕ) → k < worker_words → get_or l (worker_place i + k) 0 ≡ get_or l' (worker_place i + k) 0)
    → (n : ℕ) → n ≤ most_moves → first_moves l i n ≡ first_moves l' i n
unfolding first_moves move_at move_place
first_same l l' i h zero g = refl
first_same l l' i h (suc n) g =
    let b : head_words + move_words * most_moves ≤ worker_words = room in
    let p : ℕ = move_place i n in
    let a : move_from l p ≡ move_from l' p =
    move_same l l' p (λ k q.
    let e : p + k ≡ worker_place i + (head_words + move_words * n + k) = omega arith in
    rw e (h (head_words + move_words * n + k) (omega arith)))
    in
    rw (a, first_same l l' i h n (omega arith))

-- Moves that were read, and one that has remembered nothing, have a word for each place of a chain
pub first_sized : (l : List ℕ) (i n : ℕ) → AllSized (first_moves l i n)
unfolding first_moves move_at move_from
first_sized l i zero = tt
first_sized l i (suc n) = (length-cells l (move_place i n + 3) max_limit, first_sized l i n)

pub new_sized : (home child : ℕ) → length (new_move home child).nodes ≡ max_limit
unfolding new_move
new_sized home child = refl

-- the head: its ten words are there again
head_eta : (h : Head) (m : ℕ) → head_from (head_list h m) ≡ h
unfolding head_from head_list
head_eta h m = simp kind_back

pub head_of : (l : List ℕ) (p : ℕ) (h : Head) (m : ℕ) → cells l p 10 ≡ head_list h m → head_from (cells l p 9) ≡ h
unfolding head_from cells
head_of l p h m e =
    let a : head_from (cells l p 9) ≡ head_from (cells l p 10) = refl in a ∙ (ap head_from e ∙ head_eta h m)

pub count_of : (l : List ℕ) (p : ℕ) (h : Head) (m : ℕ) → cells l p 10 ≡ head_list h m → get_or l (p + 9) 0 ≡ m
unfolding head_list
count_of l p h m e = sym (get_d_cells l p 10 9 (omega arith)) ∙ ap (λ (v : List ℕ). get_or v 9 0) e

pub length-store_head : (h : Head) (m i : ℕ) (l : List ℕ) → length (store_head h m i l) ≡ length l
unfolding store_head
length-store_head h m i l = length-sets l (worker_place i) (head_list h m)

pub head_back :
    (h : Head) (m i : ℕ) (l : List ℕ) → worker_place i + 10 ≤ length l → cells (store_head h m i l) (worker_place i) 10 ≡ head_list h m
unfolding store_head head_list
head_back h m i l g = read_back (head_list h m) l (worker_place i) g

pub head_outside :
    (h : Head) (m i : ℕ) (l : List ℕ) (k : ℕ) → Outside (worker_place i) 10 k → get_or (store_head h m i l) k 0 ≡ get_or l k 0
unfolding store_head head_list
head_outside h m i l k o = sets_outside (head_list h m) l (worker_place i) k o

-- writing back what was read changes nothing
pub move_kept : (l : List ℕ) (p : ℕ) → move_to (move_from l p) p l ≡ l
unfolding move_to move_from cells
move_kept l p =
    let f : List ℕ = get_or l p 0 ∷ get_or l (p + 1) 0 ∷ get_or l (p + 2) 0 ∷ [] in
    let y : get_or (cells l p 3) 1 0 ≡ get_or l (p + 1) 0 = get_d_cells l p 3 1 (omega arith) in
    let z : get_or (cells l p 3) 2 0 ≡ get_or l (p + 2) 0 = get_d_cells l p 3 2 (omega arith) in
    let a : f ≡ cells l p 3 = rw (← y, ← z) in
    let b : sets l p f ≡ l = ap (λ (v : List ℕ). sets l p v) a ∙ sets-cells l p 3 in
    rw b (sets-cells l (p + 3) max_limit)

pub moves_kept : (i : ℕ) (l : List ℕ) (n : ℕ) → store_moves (first_moves l i n) i l ≡ l
unfolding store_moves first_moves move_at
moves_kept i l zero = refl
moves_kept i l (suc n) =
    let e : move_to (move_at l i n) (move_place i (length (first_moves l i n))) l ≡ l = rw (length-first l i n) (move_kept l (move_place i n)) in
    ap (λ (v : List ℕ). store_moves (first_moves l i n) i v) e ∙ moves_kept i l n
