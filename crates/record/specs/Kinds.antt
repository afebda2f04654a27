-- The kinds of turn and the answers, with their numbers.
-- Relies on nothing.
use Rattle.std.specs.Prelude.{ℕ, List, [], ◌∷◌, get_or}
use Rattle.record.specs.declared.Kind.{Kind}
use Rattle.record.specs.declared.Kind.TheVariants.{Idle, Look, Take, Put, Read, Tail, TakeTail, Append, Level, Close, Follow, ChainHead, ChainNext, SetNext, SetLook, SetPut, SetRead, SetTail, SetAppend, SetLevel, SetClose, SetFollow, MoveEnd, Unknown}
use Rattle.record.specs.declared.Answer.{Answer}
use Rattle.record.specs.declared.Answer.TheVariants.{Nothing, New, Found, Full, Open, Absent}

-- The kinds by number: 0 idle, 1 to 10 searching ("Turns of a call for pixel K"), 11 to 22 moving ("Move").
unfoldable pub kinds : List Kind
kinds =
    Idle
    ∷ Look ∷ Take ∷ Put ∷ Read ∷ Tail ∷ TakeTail ∷ Append ∷ Level ∷ Close ∷ Follow
    ∷ ChainHead ∷ ChainNext ∷ SetNext ∷ SetLook ∷ SetPut ∷ SetRead ∷ SetTail ∷ SetAppend ∷ SetLevel ∷ SetClose ∷ SetFollow ∷ MoveEnd
    ∷ []

-- any other number is no kind
unfoldable pub kind_of : ℕ → Kind
kind_of n = get_or kinds n Unknown

-- the number of a kind in the record
unfoldable pub kind_no : Kind → ℕ
kind_no Idle = 0
kind_no Look = 1
kind_no Take = 2
kind_no Put = 3
kind_no Read = 4
kind_no Tail = 5
kind_no TakeTail = 6
kind_no Append = 7
kind_no Level = 8
kind_no Close = 9
kind_no Follow = 10
kind_no ChainHead = 11
kind_no ChainNext = 12
kind_no SetNext = 13
kind_no SetLook = 14
kind_no SetPut = 15
kind_no SetRead = 16
kind_no SetTail = 17
kind_no SetAppend = 18
kind_no SetLevel = 19
kind_no SetClose = 20
kind_no SetFollow = 21
kind_no MoveEnd = 22
kind_no Unknown = 23

-- An answer as numbers: none 0, new 1, found 2, full 3, open 4, absent 5; and its node, 0 where it has none
unfoldable pub answer_no : Answer → ℕ
answer_no Nothing = 0
answer_no (New n) = 1
answer_no (Found n) = 2
answer_no Full = 3
answer_no Open = 4
answer_no Absent = 5

-- the node of an answer; 0 where it has none
unfoldable pub answer_node : Answer → ℕ
answer_node Nothing = 0
answer_node (New n) = n
answer_node (Found n) = n
answer_node Full = 0
answer_node Open = 0
answer_node Absent = 0

-- the answer of a number 0 to 3 or 5 and a node; an idle worker's is not "open"
unfoldable pub answer_of : ℕ → ℕ → Answer
answer_of c n = get_or (Nothing ∷ New n ∷ Found n ∷ Full ∷ Nothing ∷ Absent ∷ []) c Nothing
