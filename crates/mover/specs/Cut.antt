-- A moving turn as the code cuts it: over the mover alone, without the Moves around its innermost one. These mirrors follow the code and are
-- tied to the definitions by lemmas; a reader need not believe them. Relies on rules for the parts of a turn.
use Rattle.std.specs.Prelude.{ℕ, ◌+◌, ◌-◌, Bool, true, List, eqb, leb}
use Rattle.words.specs.Choice.{pick, both}
use Rattle.words.specs.Digits.{last_depth}
use Rattle.settings.specs.declared.Settings.{Settings}
use Rattle.areas.specs.Memory.{Memory, is_node, named, pixel_at, entry_cell, level_taken, ref_taken}
use Rattle.areas.specs.declared.Cell.{Cell}
use Rattle.record.specs.declared.Kind.{Kind}
use Rattle.record.specs.declared.Kind.TheVariants.{Look, ChainHead, ChainNext, SetNext, SetTail, MoveEnd}
use Rattle.record.specs.declared.Answer.{Answer}
use Rattle.record.specs.declared.Answer.TheVariants.{Nothing, Open}
use Rattle.record.specs.declared.Head.{Head}
use Rattle.record.specs.Kinds.{kind_no}
use Rattle.rules.specs.Heads.{to, to_level, to_node, holding_level}
use Rattle.rules.specs.Steps.{expected, peeked, more, child_of}
use Rattle.rules.specs.Asked.{picks_in, pixel_fits, set_follows_ref}
use Rattle.mover.specs.declared.Inner.{Inner}
use Rattle.mover.specs.declared.Mover.{Mover}
use Rattle.mover.specs.Moved.{Gave}

abbrev pub moved_of : ℕ → Answer → Settings → Head → ℕ → Inner → ℕ → Gave
moved_of n a s h k v o =
    record { number = n; answer = a; settings = s; mover = record { head = h; moves = k; inner = v; outer = o } }

-- the call goes on with as many Moves, the innermost now i
abbrev pub stays : Mover → Settings → Head → Inner → Gave
stays v s h i = moved_of 0 Open s h v.moves i v.outer

-- one node more is remembered; the last one is forgotten
unfoldable pub remember_in : ℕ → Inner → Inner
remember_in i v = record { home = v.home; child = v.child; count = v.count + 1; last = i }

unfoldable pub forget_in : Inner → Inner
forget_in v = record { home = v.home; child = v.child; count = v.count - 1; last = v.last }

-- question 6 is answered no: everything stays
abbrev pub refuses : Mover → Settings → Gave
refuses v s = moved_of 6 Nothing s v.head v.moves v.inner v.outer

-- the key of the innermost Move and its entry in the level whose chain moves
unfoldable pub key_cut : Mover → List ℕ → ℕ
key_cut v nodes = pick (eqb v.moves 1) v.head.pixel (pixel_at nodes v.outer)

unfoldable pub home_cut : ℕ → Mover → Memory → Cell
home_cut w v m = entry_cell w m.levels v.inner.home (key_cut v m.nodes)

-- questions
unfoldable pub key_fits_cut : Settings → Mover → List ℕ → Bool
key_fits_cut s v nodes = pick (eqb v.moves 1) true (pixel_fits s v.outer nodes)

unfoldable pub picks_home_cut : ℕ → Settings → Mover → Memory → Bool
picks_home_cut w s v m = both (picks_in w s v.inner.home m.levels) (key_fits_cut s v m.nodes)

-- a word read from a chain names a taken node or level, and there is room to remember it
unfoldable pub room_in : Settings → Inner → ℕ → Bool
room_in s v word = pick (is_node word) (leb (v.count + 1) s.limit) true

unfoldable pub word_asked : Settings → Inner → ℕ → Bool
word_asked s v word = both (ref_taken s word) (room_in s v word)

unfoldable pub move_ends_cut : ℕ → Settings → Mover → Memory → Bool
move_ends_cut w s v m = both (picks_home_cut w s v m) (level_taken s v.inner.child)

-- the head after the last node remembered was set, or after a chain's end: the next node, or the Move's end
unfoldable pub last_head : Head → Inner → Head
last_head h v = pick (eqb v.count 0) (to MoveEnd h) (to_level SetNext v.child h)

-- a word read from a chain
unfoldable pub word_head : Head → Inner → ℕ → Head
word_head h v word = pick (is_node word) (to ChainNext h) (last_head h v)

unfoldable pub word_inner : Inner → ℕ → Inner
word_inner v word = pick (is_node word) (remember_in (named word) v) v

-- a word read where a node is set
unfoldable pub met_head : Head → ℕ → ℕ → ℕ → Head
met_head h c g word = pick (is_node word) (to_node SetTail (named word) c h) (to_level SetNext g h)

unfoldable pub follow_head : ℕ → Settings → Head → ℕ → List ℕ → Head
follow_head w s h word levels = met_head h (more s h.count) (child_of w levels (last_depth w) h.level (named word)) word

-- SetPut, SetAppend: the node remembered last is set
abbrev pub set_done : Mover → Settings → Gave
set_done v s = stays v s (last_head v.head (forget_in v.inner)) (forget_in v.inner)

-- SetClose: a Move to the level in hand has begun inside
abbrev pub begun_cut : Mover → Settings → Gave
begun_cut v s =
    moved_of 0 Open s (holding_level ChainHead 0 v.head) (v.moves + 1)
    (record { home = v.head.level; child = v.head.held_level - 1; count = 0; last = 0 }) v.inner.last

-- a word read, or met by a failed exchange: question 6, the rest of it asked before, then what SetLook and SetTail, SetRead, SetFollow do with it
unfoldable pub peek_met : Bool → Mover → Settings → ℕ → Kind → Kind → Gave
peek_met before v s word here other = pick (both before (ref_taken s word)) (stays v s (peeked v.head word here other) v.inner) (refuses v s)

unfoldable pub read_met : Bool → Mover → Settings → ℕ → Gave
read_met before v s word = pick (both before (ref_taken s word)) (stays v s (met_head v.head 1 (named word) word) v.inner) (refuses v s)

unfoldable pub follow_met : Bool → ℕ → Mover → Settings → ℕ → List ℕ → Gave
follow_met before w v s word levels =
    pick (both before (set_follows_ref w s v.head word levels)) (stays v s (follow_head w s v.head word levels) v.inner) (refuses v s)

-- the word that an exchange met: the level that N is set into, and it is done; another, and it failed
unfoldable pub put_met : Mover → Settings → ℕ → Gave
put_met v s word = pick (expected v.head word) (set_done v s) (read_met true v s word)

-- the word that SetAppend's or SetClose's exchange met; where no Move more has room, SetClose's done is a refusal
unfoldable pub next_met : Gave → ℕ → Mover → Settings → ℕ → List ℕ → Gave
next_met done w v s word levels = pick (expected v.head word) done (follow_met true w v s word levels)

-- MoveEnd: one Move less
unfoldable pub end_head : Mover → Head
end_head v = pick (eqb v.moves 1) (to_level Look v.inner.child v.head) (to_level SetNext v.inner.child v.head)

abbrev pub ends : Mover → Settings → Gave
ends v s = moved_of 0 Open s (end_head v) (v.moves - 1) v.inner v.outer

-- the kinds of turn of a Move
unfoldable pub is_moving : Kind → Bool
is_moving k = both (leb 11 (kind_no k)) (leb (kind_no k) 22)
