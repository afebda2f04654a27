-- Questions 4 to 9 and 17, each under its number. Question 6 has a part for each kind of turn, apart from what the kind then does.
-- Relies on the record's layout and on the cells that the kinds of turn read.
use Rattle.std.specs.Prelude.{ℕ, ◌+◌, Bool, true, not, List, [], ◌∷◌, eqb, ltb, leb, length}
use Rattle.words.specs.Choice.{pick, both, every}
use Rattle.words.specs.Digits.{last_depth, max_side, max_pixel}
use Rattle.settings.specs.Sizes.{level_count, max_moves, views}
use Rattle.settings.specs.declared.Settings.{Settings}
use Rattle.areas.specs.Memory.{Memory, is_node, named, pixel_at, next_at, depth_at, cell_at, level_taken, node_taken, ref_taken}
use Rattle.areas.specs.declared.Cell.{Cell}
use Rattle.areas.specs.declared.Cell.TheVariants.{Next}
use Rattle.record.specs.declared.Kind.{Kind}
use Rattle.record.specs.declared.Kind.TheVariants.{Idle, Look, Take, Put, Read, Tail, TakeTail, Append, Level, Close, Follow, ChainHead, ChainNext, SetNext, SetLook, SetPut, SetRead, SetTail, SetAppend, SetLevel, SetClose, SetFollow, MoveEnd, Unknown}
use Rattle.record.specs.declared.Head.{Head}
use Rattle.record.specs.declared.Move.{Move}
use Rattle.record.specs.Kinds.{kind_no}
use Rattle.record.specs.Layout.{Record}
use Rattle.record.specs.Fits.{fits}
use Rattle.rules.specs.Heads.{last_node}
use Rattle.rules.specs.Steps.{expected, back_meets}
use Rattle.rules.specs.Searching.{entry_of, takes_node}
use Rattle.rules.specs.Moving.{home_cell, set_cell_of}
use Rattle.rules.specs.Acts.{inner, outer}

-- "Is the worker number .. below workers?"
unfoldable pub question4 : Settings → ℕ → Bool
question4 s i = ltb i s.workers

-- ".. or each in a list of turns"
unfoldable pub question4_all : Settings → List ℕ → Bool
question4_all s l = every (question4 s) l

-- "Are row and column at most 4,095?"
unfoldable pub question5 : ℕ → ℕ → Bool
question5 row column = both (leb row max_side) (leb column max_side)

-- "It refuses with 17, asked after question 5, a placing call on a viewer, a looking call on another worker" (looks: it is a looking call)
unfoldable pub question17 : Settings → Bool → ℕ → Bool
question17 s looks i = pick looks (views s i) (not (views s i))

-- the parts of question 6

-- Put, Append, Close: a node or level in hand, by its number + 1: there is one, and it is taken
unfoldable pub in_hand : ℕ → ℕ → Bool
in_hand held taken = both (leb 1 held) (leb held taken)

-- Take, Level: a spare node or level, by its number + 1: it is taken, or there is none
unfoldable pub spare : ℕ → ℕ → Bool
spare held taken = leb held taken

-- level g is taken, and "depths .. at most 7", which is the last depth at width 3: an entry is picked in it
unfoldable pub picks_in : ℕ → Settings → ℕ → List ℕ → Bool
picks_in w s g levels = both (level_taken s g) (leb (depth_at w levels g) (last_depth w))

-- node i is taken, and "each pixel word read at most 16,777,215"
unfoldable pub pixel_fits : Settings → ℕ → List ℕ → Bool
pixel_fits s i nodes = both (node_taken s i) (leb (pixel_at nodes i) max_pixel)

-- the word read from a cell "names a taken node or level"
unfoldable pub reads_ref : ℕ → Settings → Cell → Memory → Bool
reads_ref w s x m = ref_taken s (cell_at w m x)

-- Read and Follow: as above, and a node's pixel word is compared
unfoldable pub compares_ref : Settings → ℕ → List ℕ → Bool
compares_ref s word nodes = pick (is_node word) (pixel_fits s (named word) nodes) (level_taken s (named word))

-- Follow and SetFollow: "does going back meet its level within 7 moves (previous words read)": as many as the last depth
unfoldable pub goes_back : ℕ → ℕ → ℕ → ℕ → List ℕ → Bool
goes_back w taken level word levels = pick (is_node word) true (back_meets w taken levels (last_depth w) level (named word))

-- Follow's word: as Read's, and the way back from a level
unfoldable pub follows_ref : ℕ → Settings → Head → ℕ → Memory → Bool
follows_ref w s h word m = both (compares_ref s word m.nodes) (goes_back w s.levels_taken h.level word m.levels)

-- SetFollow's word: it names something taken, and the way back from a level
unfoldable pub set_follows_ref : ℕ → Settings → Head → ℕ → List ℕ → Bool
set_follows_ref w s h word levels = both (ref_taken s word) (goes_back w s.levels_taken h.level word levels)

-- Put, Append, Close and those of a Move exchange cell x. Done: nothing more is asked, but of SetClose room for the Move that begins.
-- Failed: the word that it gives is asked.
-- document 02: "The word a failed exchange gives counts as a reference read for question 6."
unfoldable pub exchanges : ℕ → Head → Cell → Bool → (ℕ → Bool) → Memory → Bool
exchanges w h x room asks m =
    let word : ℕ = cell_at w m x in
    pick (expected h word) room (asks word)

-- Level and SetLevel: "depths, a new level's too, at most 7" (the last depth), "is a needed level left?"
unfoldable pub level_left : ℕ → Settings → Head → List ℕ → Bool
level_left w s h levels =
    both (leb (depth_at w levels h.level + 1) (last_depth w))
    (pick (eqb h.held_level 0) (ltb s.levels_taken (level_count w s)) true)

-- ChainHead and ChainNext: "the moved chain at most the chain limit"
unfoldable pub remembers : Settings → Move → ℕ → Bool
remembers s v word = pick (is_node word) (leb (v.count + 1) s.limit) true

-- SetClose: "Moves one inside another at most 7" (the last depth): is there room for one more?
unfoldable pub move_left : ℕ → List Move → Bool
move_left w ms = ltb (length ms) (max_moves w)

-- the key of a Move inside a Move is the outer N's pixel
unfoldable pub key_fits : Settings → List Move → List ℕ → Bool
key_fits s [] nodes = true
key_fits s (o ∷ os) nodes = pixel_fits s (last_node o) nodes

-- Take, TakeTail
unfoldable pub takes : Settings → Head → Bool
takes s h = both (level_taken s h.level) (spare h.held_node s.nodes_taken)

-- Tail, Follow and those of a Move: the level, and R
unfoldable pub stands_at : Settings → Head → Bool
stands_at s h = both (level_taken s h.level) (node_taken s h.node)

-- Tail, SetTail: R's next too
unfoldable pub tails : Settings → Head → List ℕ → Bool
tails s h nodes = both (stands_at s h) (ref_taken s (next_at nodes h.node))

-- Level, SetLevel
unfoldable pub takes_level : ℕ → Settings → Head → List ℕ → Bool
takes_level w s h levels = both (level_taken s h.level) (both (spare h.held_level s.levels_taken) (level_left w s h levels))

-- SetAppend: the level, R, and N (n)
unfoldable pub stands_setting : Settings → Head → ℕ → Bool
stands_setting s h n = both (stands_at s h) (node_taken s n)

-- Append, Close, SetClose: the level, R, and the node or level in hand
unfoldable pub stands_with : Settings → Head → ℕ → ℕ → Bool
stands_with s h held taken = both (stands_at s h) (in_hand held taken)

-- Look: H, and the entry
unfoldable pub looks : ℕ → Settings → Head → Memory → Bool
looks w s h m = both (picks_in w s h.level m.levels) (reads_ref w s (entry_of w h m.levels) m)

-- Put: H, and the node in hand
unfoldable pub picks_with : ℕ → Settings → Head → List ℕ → Bool
picks_with w s h levels = both (picks_in w s h.level levels) (in_hand h.held_node s.nodes_taken)

-- Put: of a word met, as Read
unfoldable pub puts : ℕ → Settings → Head → Memory → Bool
puts w s h m = both (picks_with w s h m.levels) (exchanges w h (entry_of w h m.levels) true (λ word. compares_ref s word m.nodes) m)

-- Read: H, the entry, and the pixel of a node in it
unfoldable pub reads : ℕ → Settings → Head → Memory → Bool
reads w s h m = both (picks_in w s h.level m.levels) (compares_ref s (cell_at w m (entry_of w h m.levels)) m.nodes)

-- Append: H and R, and the node in hand; of a word met, as Follow
unfoldable pub appends : ℕ → Settings → Head → Memory → Bool
appends w s h m =
    both (stands_with s h h.held_node s.nodes_taken) (exchanges w h (Next h.node) true (λ word. follows_ref w s h word m) m)

-- Close: H and R, and the level in hand; of a word met, as Follow
unfoldable pub closes : ℕ → Settings → Head → Memory → Bool
closes w s h m =
    both (stands_with s h h.held_level s.levels_taken) (exchanges w h (Next h.node) true (λ word. follows_ref w s h word m) m)

-- Follow: H and R, R's next, the pixel of a node there, the way back from a level
unfoldable pub follows : ℕ → Settings → Head → Memory → Bool
follows w s h m = both (stands_at s h) (follows_ref w s h (next_at m.nodes h.node) m)

-- ChainHead, MoveEnd: the entry of the key in H
unfoldable pub picks_home : ℕ → Settings → Move → List Move → Memory → Bool
picks_home w s v os m = both (picks_in w s v.home m.levels) (key_fits s os m.nodes)

-- ChainHead: the entry, and room to remember its node
unfoldable pub chain_heads : ℕ → Settings → Head → Move → List Move → Memory → Bool
chain_heads w s h v os m =
    both (picks_home w s v os m)
    (both (reads_ref w s (home_cell w h v os m) m) (remembers s v (cell_at w m (home_cell w h v os m))))

-- ChainNext: the node remembered last, its next, and room to remember the node there
unfoldable pub chain_nexts : Settings → Move → List ℕ → Bool
chain_nexts s v nodes =
    both (node_taken s (last_node v))
    (both (ref_taken s (next_at nodes (last_node v))) (remembers s v (next_at nodes (last_node v))))

-- MoveEnd: the entry, and the level G that it is written to
unfoldable pub move_ends : ℕ → Settings → Move → List Move → Memory → Bool
move_ends w s v os m = both (picks_home w s v os m) (level_taken s v.child)

-- SetNext: the node N (n), and the level that it is set into
unfoldable pub set_nexts : Settings → Head → ℕ → Bool
set_nexts s h n = both (node_taken s n) (level_taken s h.level)

-- SetLook, SetPut, SetRead: the entry of N's pixel
unfoldable pub set_entry : ℕ → Settings → Head → ℕ → Memory → Bool
set_entry w s h n m = both (picks_in w s h.level m.levels) (pixel_fits s n m.nodes)

-- SetLook, SetRead: the word in that entry too
unfoldable pub set_looks : ℕ → Settings → Head → ℕ → Memory → Bool
set_looks w s h n m = both (set_entry w s h n m) (reads_ref w s (set_cell_of w h n m) m)

-- SetPut: the entry of N's pixel; of a word met, as SetRead
unfoldable pub set_puts : ℕ → Settings → Head → ℕ → Memory → Bool
set_puts w s h n m = both (set_entry w s h n m) (exchanges w h (set_cell_of w h n m) true (ref_taken s) m)

-- SetAppend: the level, R, and N; of a word met, as SetFollow
unfoldable pub set_appends : ℕ → Settings → Head → ℕ → Memory → Bool
set_appends w s h n m =
    both (stands_setting s h n) (exchanges w h (Next h.node) true (λ word. set_follows_ref w s h word m.levels) m)

-- SetClose: the level, R, the level in hand, and room for a Move inside; of a word met, as SetFollow
unfoldable pub set_closes : ℕ → Settings → Head → List Move → Memory → Bool
set_closes w s h ms m =
    both (stands_with s h h.held_level s.levels_taken)
    (exchanges w h (Next h.node) (move_left w ms) (λ word. set_follows_ref w s h word m.levels) m)

-- SetFollow: the level, R, R's next, the way back from a level
unfoldable pub set_follows : ℕ → Settings → Head → Memory → Bool
set_follows w s h m = both (stands_at s h) (set_follows_ref w s h (next_at m.nodes h.node) m.levels)

-- what question 6 asks of a turn besides that the record fits, by kind
unfoldable pub reads_by : Kind → ℕ → Settings → Head → List Move → Memory → Bool
reads_by Idle w s h ms m = true
reads_by Look w s h ms m = looks w s h m
reads_by Take w s h ms m = takes s h
reads_by Put w s h ms m = puts w s h m
reads_by Read w s h ms m = reads w s h m
reads_by Tail w s h ms m = tails s h m.nodes
reads_by TakeTail w s h ms m = takes s h
reads_by Append w s h ms m = appends w s h m
reads_by Level w s h ms m = takes_level w s h m.levels
reads_by Close w s h ms m = closes w s h m
reads_by Follow w s h ms m = follows w s h m
reads_by ChainHead w s h ms m = chain_heads w s h (inner ms) (outer ms) m
reads_by ChainNext w s h ms m = chain_nexts s (inner ms) m.nodes
reads_by SetNext w s h ms m = set_nexts s h (last_node (inner ms))
reads_by SetLook w s h ms m = set_looks w s h (last_node (inner ms)) m
reads_by SetPut w s h ms m = set_puts w s h (last_node (inner ms)) m
reads_by SetRead w s h ms m = set_looks w s h (last_node (inner ms)) m
reads_by SetTail w s h ms m = tails s h m.nodes
reads_by SetAppend w s h ms m = set_appends w s h (last_node (inner ms)) m
reads_by SetLevel w s h ms m = takes_level w s h m.levels
reads_by SetClose w s h ms m = set_closes w s h ms m
reads_by SetFollow w s h ms m = set_follows w s h m
reads_by MoveEnd w s h ms m = move_ends w s (inner ms) (outer ms) m
reads_by Unknown w s h ms m = true

-- question 6 of a turn: "Does the record fit its layout, does each reference read in this turn .. name a taken node or level, .."
unfoldable pub question6 : ℕ → Bool → Settings → Record → Memory → Bool
question6 w v s r m = both (fits w v s r) (reads_by r.head.kind w s r.head r.moves m)

-- question 6 of a start and of reading a last answer, which read the record alone
unfoldable pub question6_record : ℕ → Bool → Settings → Record → Bool
question6_record w v s r = fits w v s r

-- "For a start: is the worker idle?"
unfoldable pub question7 : Record → Bool
question7 r = eqb (kind_no r.head.kind) 0

-- "For a turn: has it a call open?"
unfoldable pub question8 : Record → Bool
question8 r = not (question7 r)

-- "For Take and TakeTail: is a node spare or left?"
unfoldable pub node_left : Settings → Head → Bool
node_left s h = pick (eqb h.held_node 0) (ltb s.nodes_taken s.nodes) true

-- asked of Take and TakeTail alone
unfoldable pub question9 : Settings → Record → Bool
question9 s r = pick (takes_node r.head.kind) (node_left s r.head) true
