-- Whether a record fits its layout, which is the first part of question 6. Words that a kind does not use are not asked.
-- Relies on the layout, and on settings for the chain limit.
use Rattle.std.specs.Prelude.{ℕ, ◌+◌, Bool, true, false, List, [], ◌∷◌, leb, eqb, length}
use Rattle.words.specs.Choice.{pick, both, every}
use Rattle.words.specs.Digits.{max_pixel}
use Rattle.settings.specs.Sizes.{max_moves, within}
use Rattle.settings.specs.declared.Settings.{Settings}
use Rattle.record.specs.declared.Head.{Head}
use Rattle.record.specs.declared.Move.{Move}
use Rattle.record.specs.Kinds.{kind_no}
use Rattle.record.specs.Layout.{Record}

-- the kinds, by number, that stand at a node of a chain: Tail to Follow, SetTail to SetFollow
unfoldable pub on_chain : ℕ → Bool
on_chain k = pick (leb k 10) (leb 5 k) (both (leb 17 k) (leb k 21))

-- the kinds in which the innermost Move has a node to go on with: ChainNext to SetFollow
unfoldable pub has_node : ℕ → Bool
has_node k = both (leb 12 k) (leb k 21)

-- an open call: its pixel, and on a chain its count ("A count past the limit stays at limit + 1")
unfoldable pub call_fits : Settings → ℕ → Head → Bool
call_fits s k h = both (leb h.pixel max_pixel) (pick (on_chain k) (within h.count (s.limit + 1)) true)

-- the number of nodes that the innermost Move remembers
unfoldable pub inner_fits : Settings → ℕ → ℕ → Bool
inner_fits s k c = pick (has_node k) (within c s.limit) (eqb c 0)

-- a Move around another one is setting a node: it remembers at least that
unfoldable pub outer_fits : Settings → Move → Bool
outer_fits s m = within m.count s.limit

-- every Move of a record fits
unfoldable pub moves_fit : Settings → ℕ → List Move → Bool
moves_fit s k [] = false
moves_fit s k (m ∷ ms) = both (inner_fits s k m.count) (every (outer_fits s) ms)

-- a moving worker's Moves: "Moves one inside another at most 7" (the last depth), "the moved chain at most the chain limit"
unfoldable pub moving_fits : ℕ → Settings → ℕ → List Move → Bool
moving_fits w s k ms = pick (leb (length ms) (max_moves w)) (moves_fit s k ms) false

-- the kinds, by number, of a viewer's call: it "follows Look, Read, Tail and Follow"
unfoldable pub viewing : ℕ → Bool
viewing k = pick (eqb k 1) true (pick (eqb k 4) true (pick (eqb k 5) true (eqb k 10)))

-- an open call of a viewer (v) is at one of these
unfoldable pub role_fits : Bool → ℕ → Bool
role_fits v k = pick v (viewing k) true

-- the number of a viewer's last answer: none, found, absent
unfoldable pub viewer_told : ℕ → Bool
viewer_told a = pick (eqb a 0) true (pick (eqb a 2) true (eqb a 5))

-- the number of an idle worker's last answer; that of another worker is none, new, found, full
unfoldable pub answer_fits : Bool → ℕ → Bool
answer_fits v a = pick v (viewer_told a) (leb a 3)

-- "Does the record fit its layout": idle, its last answer; searching, no Move; moving, its Moves; another number is no kind
unfoldable pub fits_by : ℕ → Bool → Settings → ℕ → Record → Bool
fits_by w v s k r =
    pick (eqb k 0)
    (answer_fits v r.head.answer)
    (both (role_fits v k)
    (pick (leb k 10)
    (both (call_fits s k r.head) (eqb (length r.moves) 0))
    (pick (leb k 22) (both (call_fits s k r.head) (moving_fits w s k r.moves)) false)))

-- "Does the record fit its layout", of a viewer or of another worker
unfoldable pub fits : ℕ → Bool → Settings → Record → Bool
fits w v s r = fits_by w v s (kind_no r.head.kind) r
