-- A mover in a worker's words, as the code loads and stores it: of the head and of the innermost Move only what a turn can change. These mirrors follow
-- the code and are tied to the record's layout by lemmas; a reader need not believe them. Relies on the record's layout.
use Rattle.std.specs.Prelude.{ℕ, ◌+◌, ◌-◌, ◌≡◌, List, [], ◌∷◌, eqb, ltb, leb, get_or, set}
use Rattle.std.proofs.lemmas.List.Edits.{sets}
use Rattle.words.specs.Choice.{pick}
use Rattle.record.specs.declared.Head.{Head}
use Rattle.record.specs.Kinds.{kind_no}
use Rattle.record.specs.Layout.{worker_place, moves_at, move_place, move_to, new_move}
use Rattle.mover.specs.declared.Inner.{Inner}
use Rattle.mover.specs.declared.Mover.{Mover}

-- the node that the Move at place p remembered last
unfoldable pub last_at : List ℕ → ℕ → ℕ
last_at l p = get_or l (p + 3 + (get_or l (p + 2) 0 - 1)) 0

unfoldable pub inner_at : List ℕ → ℕ → Inner
inner_at l p = record { home = get_or l p 0; child = get_or l (p + 1) 0; count = get_or l (p + 2) 0; last = last_at l p }

unfoldable pub outer_at : List ℕ → ℕ → ℕ → ℕ
outer_at l i n = pick (leb n 1) 0 (last_at l (move_place i (n - 2)))

-- the mover in a worker's words, with the head h
unfoldable pub mover_at : List ℕ → ℕ → Head → Mover
mover_at l i h =
    record {
      head = h;
      moves = moves_at l i;
      inner = inner_at l (move_place i (moves_at l i - 1));
      outer = outer_at l i (moves_at l i);
    }

-- what a moving turn does not change of a head
pub record Keeps (h h₀ : Head) : Type 0 where
  pub pixel_is : h.pixel ≡ h₀.pixel
  pub held_is : h.held_node ≡ h₀.held_node
  pub answer_is : h.answer ≡ h₀.answer
  pub answer_node_is : h.answer_node ≡ h₀.answer_node

-- the words with the head and the number n of Moves: pixel, held node, last answer and its node are not changed by a moving turn
unfoldable pub head_to : Head → ℕ → ℕ → List ℕ → List ℕ
head_to h n i l =
    set
    (set (sets (set l (worker_place i) (kind_no h.kind)) (worker_place i + 2) (h.level ∷ h.node ∷ h.count ∷ [])) (worker_place i + 6)
    h.held_level)
    (worker_place i + 9)
    n

-- the words with the Move at place p: a node that is remembered newly, then how many there are
unfoldable pub last_to : Inner → ℕ → List ℕ → List ℕ
last_to v p l = pick (ltb (get_or l (p + 2) 0) v.count) (set l (p + 2 + v.count) v.last) l

unfoldable pub inner_on : Inner → ℕ → List ℕ → List ℕ
inner_on v p l = set (last_to v p l) (p + 2) v.count

-- the innermost Move: what changed of it, all of one that has begun, and nothing where one has ended
unfoldable pub inner_to : ℕ → Mover → ℕ → List ℕ → List ℕ
inner_to before v i l =
    pick (eqb v.moves before)
    (inner_on v.inner (move_place i (v.moves - 1)) l)
    (pick (ltb before v.moves) (move_to (new_move v.inner.home v.inner.child) (move_place i (v.moves - 1)) l) l)

unfoldable pub mover_to : Mover → ℕ → List ℕ → List ℕ
mover_to v i l = inner_to (moves_at l i) v i (head_to v.head v.moves i l)
