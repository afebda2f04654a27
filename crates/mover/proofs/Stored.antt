-- A mover in a worker's words: it is loaded with the Moves left there, and what is stored of it is as if the whole record were.
-- Relies on words for blocks, on record for writing back what was read.
use mathlib.Core.Path.{◌≡◌, refl, ap, sym, ◌∙◌}
use mathlib.Core.Bool.{Bool, true, false}
use mathlib.Core.List.{List, [], ◌∷◌}
use Prim.Native.Nat.{ℕ, zero, suc, ◌+◌, ◌*◌, ◌-◌, ◌≤◌, ◌<◌}
use lib.Dec.{ltb}
use lib.ListN.{length, get_or, set}
use lib.Seq.{sets, get_or-set_other}
use borrow.Author.Tests.{eq-eqb, ne_eqb, lt-ltb, le-ltb, lt-leb, ltb-true}
use native.Mathlib.Omega.{arith}
use Rattle.words.specs.Choice.{pick}
use Rattle.words.specs.Blocks.{cells}
use Rattle.words.proofs.Blocks.{above_sets, sets-cells, get_d_cells, length-cells, sets_skip, set-sets, sets-set}
use Rattle.settings.specs.Sizes.{head_words, move_words, max_limit}
use Rattle.record.specs.declared.Head.{Head}
use Rattle.record.specs.declared.Move.{Move}
use Rattle.record.specs.Kinds.{kind_no}
use Rattle.record.specs.Layout.{record', worker_place, move_place, head_from, head_list, head_at, moves_at, move_from, move_at, first_moves, store_head, move_to, store_moves, store, new_move}
use Rattle.record.proofs.Apart.{after}
use Rattle.record.proofs.Pieces.{length-first, move_before, move_same, head_outside, moves_kept}
use Rattle.rules.specs.Heads.{last_node}
use Rattle.mover.specs.declared.Inner.{Inner}
use Rattle.mover.specs.declared.Mover.{Mover}
use Rattle.mover.specs.Words.{last_at, inner_at, outer_at, mover_at, Keeps, head_to, last_to, inner_on, inner_to, mover_to}
use Rattle.mover.specs.Moved.{outer_node, inner_of, Around, move_after, list_after, Counts, as_many, one_move_more, one_less}

-- a loaded mover: its innermost Move and those around it are the Moves in the words
last_from : (l : List ℕ) (p : ℕ) → (move_from l p).count ≤ max_limit → last_at l p ≡ last_node (move_from l p)
unfolding last_at last_node move_from
last_from l p h = sym (get_d_cells l (p + 3) max_limit (get_or l (p + 2) 0 - 1) (omega arith))

inner_from : (l : List ℕ) (p : ℕ) → (move_from l p).count ≤ max_limit → inner_at l p ≡ inner_of (move_from l p)
unfolding inner_at move_from
inner_from l p h = rw (last_from l p h) refl

module _ (w : ℕ) (l : List ℕ) (i : ℕ) where
  first_inner : (n : ℕ) → 1 ≤ n → move_at l i (n - 1) ∷ first_moves l i (n - 1) ≡ first_moves l i n
  unfolding first_moves
  first_inner zero h = absurd (omega arith)
  first_inner (suc n) h = let e : suc n - 1 ≡ n = omega arith in rw e

  outer-first : (n : ℕ) → (2 ≤ n → (move_at l i (n - 2)).count ≤ max_limit) → outer_at l i n ≡ outer_node (first_moves l i (n - 1))
  unfolding outer_at outer_node first_moves move_at pick
  outer-first zero h = refl
  outer-first (suc zero) h = refl
  outer-first (suc (suc n)) h =
      let e : suc (suc n) - 1 ≡ suc n = omega arith in
      let f : suc (suc n) - 2 ≡ n = omega arith in
      let g : (move_from l (move_place i n)).count ≤ max_limit = rw f at (h (omega arith)) in
      simp (e, f, lt-leb (suc (suc n)) 1 (omega arith), last_from l (move_place i n) g)

  pub loaded_moves : 1 ≤ moves_at l i → move_at l i (moves_at l i - 1) ∷ first_moves l i (moves_at l i - 1) ≡ first_moves l i (moves_at l i)
  loaded_moves o = first_inner (moves_at l i) o

  pub loaded_around :
      (h : Head)
      → 1 ≤ moves_at l i → (move_at l i (moves_at l i - 1)).count ≤ max_limit → (2 ≤ moves_at l i → (move_at l i (moves_at l i - 2)).count ≤ max_limit)
      → Around (mover_at l i h) (move_at l i (moves_at l i - 1)) (first_moves l i (moves_at l i - 1))
  unfolding mover_at move_at
  loaded_around h o c d =
      let e : length (first_moves l i (moves_at l i - 1)) ≡ moves_at l i - 1 = length-first l i (moves_at l i - 1) in
      record { inner_is = inner_from l (move_place i (moves_at l i - 1)) c; count = omega arith; outer_is = outer-first (moves_at l i) d }

-- the head: what a moving turn does not change stands in the words
kept_words :
    (l : List ℕ) (p k x g r c y q a z n : ℕ)
    → get_or l (suc p) 0 ≡ x → get_or l (suc (suc (suc (suc (suc p))))) 0 ≡ y → get_or l (suc (suc (suc (suc (suc (suc (suc p))))))) 0 ≡ a
    → get_or l (suc (suc (suc (suc (suc (suc (suc (suc p)))))))) 0 ≡ z
    → set (set (sets (set l p k) (suc (suc p)) (g ∷ r ∷ c ∷ [])) (suc (suc (suc (suc (suc (suc p)))))) q) (suc (suc (suc (suc (suc (suc (suc (suc (suc p))))))))) n
    ≡ sets l p (k ∷ x ∷ g ∷ r ∷ c ∷ y ∷ q ∷ a ∷ z ∷ n ∷ [])
kept_words l p k x g r c y q a z n e₁ e₅ e₇ e₈ =
    let p₅ : ℕ = suc (suc (suc (suc (suc p)))) in
    let l₁ : List ℕ = set l p k in
    let l₂ : List ℕ = sets l₁ (suc (suc p)) (g ∷ r ∷ c ∷ []) in
    let l₃ : List ℕ = set l₂ (suc p₅) q in
    let one : (j : ℕ) → p < j → get_or l₁ j 0 ≡ get_or l j 0 = λ j h. get_or-set_other l p j k 0 (λ e. omega arith) in
    let two : (j : ℕ) → p₅ ≤ j → get_or l₂ j 0 ≡ get_or l j 0 = λ j h. above_sets (g ∷ r ∷ c ∷ []) l₁ (suc (suc p)) j (omega arith) ∙ one j (omega arith) in
    let three : (j : ℕ) → suc (suc p₅) ≤ j → get_or l₃ j 0 ≡ get_or l j 0 = λ j h. get_or-set_other l₂ (suc p₅) j q 0 (λ e. omega arith) ∙ two j (omega arith) in
    let s₁ : sets l₁ (suc p) (x ∷ g ∷ r ∷ c ∷ y ∷ q ∷ a ∷ z ∷ n ∷ []) ≡ sets l₁ (suc (suc p)) (g ∷ r ∷ c ∷ y ∷ q ∷ a ∷ z ∷ n ∷ []) =
    sets_skip l₁ (suc p) x (g ∷ r ∷ c ∷ y ∷ q ∷ a ∷ z ∷ n ∷ []) (one (suc p) (omega arith) ∙ e₁)
    in
    let s₅ : sets l₂ p₅ (y ∷ q ∷ a ∷ z ∷ n ∷ []) ≡ sets l₂ (suc p₅) (q ∷ a ∷ z ∷ n ∷ []) =
    sets_skip l₂ p₅ y (q ∷ a ∷ z ∷ n ∷ []) (two p₅ (omega arith) ∙ e₅)
    in
    let s₇ : sets l₃ (suc (suc p₅)) (a ∷ z ∷ n ∷ []) ≡ sets l₃ (suc (suc (suc p₅))) (z ∷ n ∷ []) =
    sets_skip l₃ (suc (suc p₅)) a (z ∷ n ∷ []) (three (suc (suc p₅)) (omega arith) ∙ e₇)
    in
    let s₈ : sets l₃ (suc (suc (suc p₅))) (z ∷ n ∷ []) ≡ set l₃ (suc (suc (suc (suc p₅)))) n =
    sets_skip l₃ (suc (suc (suc p₅))) z (n ∷ []) (three (suc (suc (suc p₅))) (omega arith) ∙ e₈)
    in
    sym (s₁ ∙ (s₅ ∙ (s₇ ∙ s₈)))

head_to_lem : (h : Head) (n i : ℕ) (l : List ℕ) → Keeps h (head_at l i) → head_to h n i l ≡ store_head h n i l
unfolding head_to store_head head_list head_at head_from
head_to_lem h n i l k =
    let p : ℕ = worker_place i in
    let at : (j q : ℕ) → p + j ≡ q → j < 9 → get_or (cells l p 9) j 0 ≡ get_or l q 0 = λ j q e g. get_d_cells l p 9 j g ∙ ap (λ (x : ℕ). get_or l x 0) e in
    let e₂ : p + 2 ≡ suc (suc p) = omega arith in
    let e₆ : p + 6 ≡ suc (suc (suc (suc (suc (suc p))))) = omega arith in
    let e₉ : p + 9 ≡ suc (suc (suc (suc (suc (suc (suc (suc (suc p)))))))) = omega arith in
    rw (e₂, e₆, e₉)
    (kept_words l p (kind_no h.kind) h.pixel h.level h.node h.count h.held_node h.held_level h.answer h.answer_node n
    (sym (k.pixel_is ∙ at 1 _ (omega arith) (omega arith)))
    (sym (k.held_is ∙ at 5 _ (omega arith) (omega arith)))
    (sym (k.answer_is ∙ at 7 _ (omega arith) (omega arith)))
    (sym (k.answer_node_is ∙ at 8 _ (omega arith) (omega arith))))

-- the innermost Move: what a turn does not change of it stands in the words
nodes_to :
    (u : Inner) (p : ℕ) (l : List ℕ) (b : Bool) → ltb (get_or l (p + 2) 0) u.count ≡ b → u.count ≤ max_limit
    → sets l (p + 3) (pick b (set (cells l (p + 3) max_limit) (u.count - 1) u.last) (cells l (p + 3) max_limit)) ≡ pick b (set l (p + 2 + u.count) u.last) l
unfolding pick
nodes_to u p l true e h =
    let one : get_or l (p + 2) 0 < u.count = ltb-true _ _ e in
    let len : length (cells l (p + 3) max_limit) ≡ max_limit = length-cells l (p + 3) max_limit in
    let at : p + 3 + (u.count - 1) ≡ p + 2 + u.count = omega arith in
    sets-set (cells l (p + 3) max_limit) l (p + 3) (u.count - 1) u.last (omega arith)
    ∙ (ap (λ (m : List ℕ). set m (p + 3 + (u.count - 1)) u.last) (sets-cells l (p + 3) max_limit) ∙ ap (λ (j : ℕ). set l j u.last) at)
nodes_to u p l false e h = sets-cells l (p + 3) max_limit

inner-to : (u : Inner) (p : ℕ) (l : List ℕ) → u.count ≤ max_limit → move_to (move_after u (move_from l p)) p l ≡ inner_on u p l
unfolding move_to move_after move_from inner_on last_to
inner-to u p l h =
    let vs : List ℕ = pick (ltb (get_or l (p + 2) 0) u.count) (set (cells l (p + 3) max_limit) (u.count - 1) u.last) (cells l (p + 3) max_limit) in
    let e₁ : p + 1 ≡ suc p = omega arith in
    let e₂ : p + 2 ≡ suc (suc p) = omega arith in
    let s₀ : sets l p (get_or l p 0 ∷ get_or l (p + 1) 0 ∷ u.count ∷ []) ≡ sets l (suc p) (get_or l (p + 1) 0 ∷ u.count ∷ []) =
    sets_skip l p (get_or l p 0) (get_or l (p + 1) 0 ∷ u.count ∷ []) refl
    in
    let s₁ : sets l (suc p) (get_or l (p + 1) 0 ∷ u.count ∷ []) ≡ set l (suc (suc p)) u.count =
    sets_skip l (suc p) (get_or l (p + 1) 0) (u.count ∷ []) (ap (λ (x : ℕ). get_or l x 0) (sym e₁))
    in
    let s₂ : set l (suc (suc p)) u.count ≡ set l (p + 2) u.count = ap (λ (x : ℕ). set l x u.count) (sym e₂) in
    ap (λ (m : List ℕ). sets m (p + 3) vs) (s₀ ∙ (s₁ ∙ s₂))
    ∙ (set-sets vs l (p + 3) (p + 2) u.count (omega arith)
    ∙ ap (λ (m : List ℕ). set m (p + 2) u.count) (nodes_to u p l (ltb (get_or l (p + 2) 0) u.count) refl h))

-- Moves that stand in the words already are not changed by writing them again
module _ (w i : ℕ) where
  first_stand :
      (l l' : List ℕ) (n : ℕ)
      → ((k : ℕ) → worker_place i + head_words ≤ k → k < worker_place i + head_words + move_words * n → get_or l' k 0 ≡ get_or l k 0)
      → first_moves l' i n ≡ first_moves l i n
  unfolding first_moves move_at move_place
  first_stand l l' zero h = refl
  first_stand l l' (suc n) h =
      let p : ℕ = worker_place i + head_words + move_words * n in
      let a : move_from l' p ≡ move_from l p = move_same l' l p (λ k g. h (p + k) (omega arith) (omega arith)) in
      let b : first_moves l' i n ≡ first_moves l i n = first_stand l l' n (λ k f g. h k f (omega arith)) in
      rw (a, b)

  moves_stand :
      (l l' : List ℕ) (n : ℕ)
      → ((k : ℕ) → worker_place i + head_words ≤ k → k < worker_place i + head_words + move_words * n → get_or l' k 0 ≡ get_or l k 0)
      → store_moves (first_moves l i n) i l' ≡ l'
  moves_stand l l' n h = rw (← first_stand l l' n h) (moves_kept i l' n)

  -- the head alone
  store-first : (h : Head) (l : List ℕ) (n : ℕ) → store (record' h (first_moves l i n)) i l ≡ store_head h n i l
  unfolding store
  store-first h l n =
      let e : length (first_moves l i n) ≡ n = length-first l i n in
      rw e (moves_stand l (store_head h n i l) n (λ k f g. head_outside h n i l k (after (omega arith))))

  -- the head and one Move
  store_one :
      (h : Head) (v : Move) (l : List ℕ) (n : ℕ)
      → store (record' h (v ∷ first_moves l i n)) i l ≡ move_to v (move_place i n) (store_head h (suc n) i l)
  unfolding store store_moves move_place
  store_one h v l n =
      let e : length (first_moves l i n) ≡ n = length-first l i n in
      let p : ℕ = worker_place i + head_words + move_words * n in
      ap (λ (j : ℕ). store_moves (first_moves l i n) i (move_to v (worker_place i + head_words + move_words * j) (store_head h (suc j) i l))) e
      ∙ (moves_stand l (move_to v p (store_head h (suc n) i l)) n
      (λ k f g. move_before v p (store_head h (suc n) i l) k g ∙ head_outside h (suc n) i l k (after (omega arith))))

  -- the head, and of the Move in the words what has changed
  move_stands : (h : Head) (l : List ℕ) (n : ℕ) → move_from (store_head h (suc n) i l) (move_place i n) ≡ move_from l (move_place i n)
  unfolding move_place
  move_stands h l n =
      move_same _ l (worker_place i + head_words + move_words * n) (λ k g. head_outside h (suc n) i l _ (after (omega arith)))

  store_changed :
      (h : Head) (u : Inner) (l : List ℕ) (n : ℕ)
      → u.count ≤ max_limit → store (record' h (move_after u (move_at l i n) ∷ first_moves l i n)) i l ≡ inner_on u (move_place i n) (store_head h (suc n) i l)
  unfolding move_at
  store_changed h u l n c =
      let p : ℕ = move_place i n in
      let l₁ : List ℕ = store_head h (suc n) i l in
      store_one h (move_after u (move_from l p)) l n
      ∙ (ap (λ (x : Move). move_to (move_after u x) p l₁) (sym (move_stands h l n)) ∙ inner-to u p l₁ c)

module _ (w : ℕ) (l : List ℕ) (i : ℕ) (v : Mover) where
  -- storing the mover is storing the whole record, the Moves around being those in the words
  pub store_is :
      Keeps v.head (head_at l i) → v.inner.count ≤ max_limit → 1 ≤ moves_at l i → Counts (mover_at l i (head_at l i)) v
      → mover_to v i l
      ≡ store (record' v.head (list_after (mover_at l i (head_at l i)) v (move_at l i (moves_at l i - 1)) (first_moves l i (moves_at l i - 1)))) i l
  unfolding mover_at mover_to inner_to list_after pick
  store_is k c o (as_many e) =
      let n : ℕ = moves_at l i - 1 in
      let f : v.moves ≡ suc n = omega arith in
      let g : suc n - 1 ≡ n = omega arith in
      let q : suc n ≡ moves_at l i = omega arith in
      simp (f, g, eq-eqb (suc n) (moves_at l i) q, head_to_lem v.head (suc n) i l k, store_changed w i v.head v.inner l n c)
  store_is k c o (one_move_more e) =
      let n : ℕ = moves_at l i in
      let f : v.moves ≡ suc n = omega arith in
      let g : suc n - 1 ≡ n = omega arith in
      simp
      (f, g, ne_eqb (suc n) n (λ q. omega arith), lt-ltb n (suc n) (omega arith), first_inner w l i n o, head_to_lem v.head (suc n) i l k, store_one w i v.head (new_move v.inner.home v.inner.child) l n)
  store_is k c o (one_less e) =
      let n : ℕ = moves_at l i - 1 in
      let f : v.moves ≡ n = omega arith in
      simp
      (f, ne_eqb n (moves_at l i) (λ q. omega arith), le-ltb (moves_at l i) n (omega arith), head_to_lem v.head n i l k, store-first w i v.head l n)
