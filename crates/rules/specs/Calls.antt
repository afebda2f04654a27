-- A sequence of starts and turns, the ended calls in it, the row of calls and the book that reads it ("The row of calls").
-- Relies on the definitions of start and turn.
use Rattle.std.specs.Prelude.{ℕ, suc, ◌+◌, ◌<◌, ◌≡◌, Bool, eqb}
use mathlib.Core.List.{List, [], ◌∷◌, ◌++◌, Memᴰ}
use Rattle.words.specs.Choice.{pick}
use Rattle.words.specs.Digits.{pixel_number}
use Rattle.record.specs.declared.Answer.{Answer}
use Rattle.record.specs.declared.Answer.TheVariants.{Nothing, New, Found, Full, Open, Absent}
use Rattle.record.specs.declared.Reply.{Reply}
use Rattle.rules.specs.Operations.{Result, start, turn}
use Rattle.rules.specs.Lists.{State, after}

-- "The sequence is any list of starts and turns, with any numbers in them": whether the call looks, worker, row and column; worker
pub data Event : Type 0 where
  starts : Bool → ℕ → ℕ → ℕ → Event
  turns : ℕ → Event

-- an event in a state
unfoldable pub happens : ℕ → Event → State → Result
happens w (starts looks i row column) x = start w x.settings looks i row column x.areas
happens w (turns i) x = turn w x.settings i x.areas

-- an event with the reply that it got
pub record Happened : Type 0 where
  pub event : Event
  pub reply : Reply

-- "Each start or turn gets the settings and areas that the one before gave back and left"
unfoldable pub history : ℕ → List Event → State → List Happened
history w [] x = []
history w (e ∷ es) x = record { event = e; reply = (happens w e x).reply } ∷ history w es (after (happens w e x))

-- the state that the sequence leaves
unfoldable pub state_after : ℕ → List Event → State → State
state_after w [] x = x
state_after w (e ∷ es) x = state_after w es (after (happens w e x))

-- an ended call: the index of the start that opened it, the index of the turn that ended it, its pixel, its answer
pub record Call : Type 0 where
  pub start : ℕ
  pub end : ℕ
  pub pixel : ℕ
  pub answer : Answer

-- an open call: its worker, the index of the start that opened it, its pixel
pub record Opened : Type 0 where
  pub worker : ℕ
  pub index : ℕ
  pub pixel : ℕ

-- the open calls of all workers but i
unfoldable pub others : ℕ → List Opened → List Opened
others i [] = []
others i (o ∷ os) = pick (eqb o.worker i) (others i os) (o ∷ others i os)

-- "The turn that answers it "new", "found" or "full" ends it.", a viewer's "absent" too: what is open after a turn of worker i
unfoldable pub left_open : ℕ → Answer → List Opened → List Opened
left_open i Nothing os = os
left_open i (New n) os = others i os
left_open i (Found n) os = others i os
left_open i Full os = others i os
left_open i Open os = os
left_open i Absent os = others i os

-- "A start that is carried out opens a call for its pixel." The calls that are open after an event, the newest first.
unfoldable pub opens : Event → ℕ → Reply → List Opened → List Opened
opens (starts looks i row column) k r os = pick (eqb r.number 0) (record { worker = i; index = k; pixel = pixel_number row column } ∷ os) os
opens (turns i) k r os = left_open i r.answer os

-- the worker's open call ends
unfoldable pub ended_by : ℕ → ℕ → Answer → List Opened → List Call
ended_by i k a [] = []
ended_by i k a (o ∷ os) = pick (eqb o.worker i) (record { start = o.index; end = k; pixel = o.pixel; answer = a } ∷ []) (ended_by i k a os)

-- "The turn that answers it "new", "found" or "full" ends it.", a viewer's "absent" too
unfoldable pub ends_with : ℕ → ℕ → Answer → List Opened → List Call
ends_with i k Nothing os = []
ends_with i k (New n) os = ended_by i k (New n) os
ends_with i k (Found n) os = ended_by i k (Found n) os
ends_with i k Full os = ended_by i k Full os
ends_with i k Open os = []
ends_with i k Absent os = ended_by i k Absent os

-- "Other refused starts and turns open and end nothing.": the calls that an event ends
unfoldable pub ends : Event → ℕ → Reply → List Opened → List Call
ends (starts looks i row column) k r os = []
ends (turns i) k r os = ends_with i k r.answer os

-- the ended calls of a history whose first event has index k, with the calls that are open before it
unfoldable pub calls_from : ℕ → List Opened → List Happened → List Call
calls_from k os [] = []
calls_from k os (x ∷ xs) = ends x.event k x.reply os ++ calls_from (suc k) (opens x.event k x.reply os) xs

-- all ended calls of a sequence
unfoldable pub calls : List Happened → List Call
calls xs = calls_from 0 [] xs

-- the number of turns answered "new", "found", "full" or "absent", by the events and the replies alone
unfoldable pub ending_answer : Answer → ℕ
ending_answer Nothing = 0
ending_answer (New n) = 1
ending_answer (Found n) = 1
ending_answer Full = 1
ending_answer Open = 0
ending_answer Absent = 1

-- whether an event is such a turn
unfoldable pub ending : Event → Reply → ℕ
ending (starts looks i row column) r = 0
ending (turns i) r = ending_answer r.answer

-- how many there are in a history
unfoldable pub endings : List Happened → ℕ
endings [] = 0
endings (x ∷ xs) = ending x.event x.reply + endings xs

-- "It holds pairs of a pixel and a node, none at first."
abbrev pub Book : Type 0
Book = List (ℕ × ℕ)

-- the book has the pixel with the node
abbrev pub Holds : Book → ℕ → ℕ → Type 0
Holds b p n = Memᴰ {A = ℕ × ℕ} (p, n) b

-- the pixel stands in the book; the node does
abbrev pub HasPixel : Book → ℕ → Type 0
HasPixel b p = (n : ℕ) × Holds b p n

-- the node stands in the book
abbrev pub HasNode : Book → ℕ → Type 0
HasNode b n = (p : ℕ) × Holds b p n

-- one line of the book
pub data Reads : Book → Call → Book → Type 0 where
  -- "New n: neither the pixel nor n stands in the book. The pair is entered."
  new : {b b' : Book} {c : Call} (n : ℕ) → c.answer ≡ New n → ¬ (HasPixel b c.pixel) → ¬ (HasNode b n) → b' ≡ b ++ ((c.pixel, n) ∷ []) → Reads b c b'
  -- "Found n: the book has the pixel with n. It stays as it is."
  found : {b b' : Book} {c : Call} (n : ℕ) → c.answer ≡ Found n → Holds b c.pixel n → b' ≡ b → Reads b c b'
  -- "Full: the pixel does not stand in the book. It stays as it is."
  full : {b b' : Book} {c : Call} → c.answer ≡ Full → ¬ (HasPixel b c.pixel) → b' ≡ b → Reads b c b'
  -- Request 06: "Such a call stands in the row before its pixel is placed": the pixel does not stand in the book. It stays as it is.
  absent : {b b' : Book} {c : Call} → c.answer ≡ Absent → ¬ (HasPixel b c.pixel) → b' ≡ b → Reads b c b'

-- "A book reads the row from its first call on."
pub data ReadsRow : Book → List Call → Book → Type 0 where
  done : {b b' : Book} → b' ≡ b → ReadsRow b [] b'
  then : {b b₁ b' : Book} {c : Call} {cs : List Call} → Reads b c b₁ → ReadsRow b₁ cs b' → ReadsRow b (c ∷ cs) b'

-- "a call that ended before another started stands earlier": no call in the row ended before one that stands earlier started
pub data InOrder : List Call → Type 0 where
  empty : InOrder []
  first : {c : Call} {cs : List Call} → ((d : Call) → Memᴰ d cs → ¬ (d.end < c.start)) → InOrder cs → InOrder (c ∷ cs)
