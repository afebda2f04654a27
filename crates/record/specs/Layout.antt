-- The layout of a worker's words, which document 01 leaves to docs/LAYOUT.md: ten words of the head, and the Moves from word 16 on.
-- Relies on words for blocks, on settings for sizes.
use Rattle.std.specs.Prelude.{ℕ, zero, suc, ◌+◌, ◌*◌, List, [], ◌∷◌, get_or, length, replicate}
use Rattle.std.proofs.lemmas.List.Edits.{sets}
use Rattle.words.specs.Blocks.{cells}
use Rattle.settings.specs.Sizes.{head_words, move_words, worker_words, max_limit}
use Rattle.record.specs.declared.Head.{Head}
use Rattle.record.specs.declared.Move.{Move}
use Rattle.record.specs.Kinds.{kind_of, kind_no}

-- A worker's record: the numbers of its call, and its Moves, the innermost first
pub record Record : Type 0 where
  pub head : Head
  pub moves : List Move

-- a record by its head and its Moves
abbrev pub record' : Head → List Move → Record
record' h ms = record { head = h; moves = ms }

-- the nine words of a head
unfoldable pub head_from : List ℕ → Head
head_from b =
    record {
      kind = kind_of (get_or b 0 0);
      pixel = get_or b 1 0;
      level = get_or b 2 0;
      node = get_or b 3 0;
      count = get_or b 4 0;
      held_node = get_or b 5 0;
      held_level = get_or b 6 0;
      answer = get_or b 7 0;
      answer_node = get_or b 8 0;
    }

-- the same as words, and behind them the number of Moves
unfoldable pub head_list : Head → ℕ → List ℕ
head_list h m =
    kind_no h.kind ∷ h.pixel ∷ h.level ∷ h.node ∷ h.count ∷ h.held_node ∷ h.held_level ∷ h.answer ∷ h.answer_node ∷ m ∷ []

-- the first word of worker i
unfoldable pub worker_place : ℕ → ℕ
worker_place i = worker_words * i

-- the first word of Move j of worker i, the outermost Move being 0
unfoldable pub move_place : ℕ → ℕ → ℕ
move_place i j = worker_place i + head_words + move_words * j

-- the head of worker i
unfoldable pub head_at : List ℕ → ℕ → Head
head_at l i = head_from (cells l (worker_place i) 9)

-- the number of Moves
unfoldable pub moves_at : List ℕ → ℕ → ℕ
moves_at l i = get_or l (worker_place i + 9) 0

-- the Move at place p: the level whose chain moves, the level it moves to, the number of nodes remembered, a word for each of them
unfoldable pub move_from : List ℕ → ℕ → Move
move_from l p = record { home = get_or l p 0; child = get_or l (p + 1) 0; count = get_or l (p + 2) 0; nodes = cells l (p + 3) max_limit }

-- Move j of worker i, from 0, the outermost
unfoldable pub move_at : List ℕ → ℕ → ℕ → Move
move_at l i j = move_from l (move_place i j)

-- the first n Moves, the last of them first
unfoldable pub first_moves : List ℕ → ℕ → ℕ → List Move
first_moves l i zero = []
first_moves l i (suc j) = move_at l i j ∷ first_moves l i j

-- the record of worker i in the workers' words
unfoldable pub load : List ℕ → ℕ → Record
load l i = record' (head_at l i) (first_moves l i (moves_at l i))

-- the head and the number of Moves are written
unfoldable pub store_head : Head → ℕ → ℕ → List ℕ → List ℕ
store_head h m i l = sets l (worker_place i) (head_list h m)

-- a Move is written from word p on
unfoldable pub move_to : Move → ℕ → List ℕ → List ℕ
move_to m p l = sets (sets l p (m.home ∷ m.child ∷ m.count ∷ [])) (p + 3) m.nodes

-- the Moves are written, the innermost first
unfoldable pub store_moves : List Move → ℕ → List ℕ → List ℕ
store_moves [] i l = l
store_moves (m ∷ ms) i l = store_moves ms i (move_to m (move_place i (length ms)) l)

-- the workers' words with the record of worker i; every other word stays
unfoldable pub store : Record → ℕ → List ℕ → List ℕ
store r i l = store_moves r.moves i (store_head r.head (length r.moves) i l)

-- a Move that has remembered nothing
unfoldable pub new_move : ℕ → ℕ → Move
new_move home child = record { home = home; child = child; count = 0; nodes = replicate max_limit 0 }
