-- Document 02, how often exchanges fail: what the exchange of a turn came to, how many of a sequence are done and failed, and what a list of turns reports.
-- Relies on the turns, on the operations, and on the starts and turns that an operation is made of.
use Rattle.std.specs.Prelude.{ℕ, ◌+◌, Bool, false, not, List, [], ◌∷◌, eqb}
use Rattle.words.specs.Choice.{pick}
use Rattle.settings.specs.declared.Settings.{Settings}
use Rattle.areas.specs.Memory.{Areas, Memory, cell_at}
use Rattle.areas.specs.declared.Cell.{Cell}
use Rattle.areas.specs.declared.Cell.TheVariants.{Next}
use Rattle.record.specs.declared.Kind.{Kind}
use Rattle.record.specs.declared.Kind.TheVariants.{Idle, Look, Take, Put, Read, Tail, TakeTail, Append, Level, Close, Follow, ChainHead, ChainNext, SetNext, SetLook, SetPut, SetRead, SetTail, SetAppend, SetLevel, SetClose, SetFollow, MoveEnd, Unknown}
use Rattle.record.specs.declared.Exchange.{Exchange}
use Rattle.record.specs.declared.Exchange.TheVariants.{None, Done, Failed}
use Rattle.record.specs.declared.Head.{Head}
use Rattle.record.specs.declared.Move.{Move}
use Rattle.record.specs.Layout.{Record}
use Rattle.rules.specs.Heads.{last_node}
use Rattle.rules.specs.Steps.{expected}
use Rattle.rules.specs.Searching.{entry_of}
use Rattle.rules.specs.Moving.{set_cell_of}
use Rattle.rules.specs.Acts.{inner}
use Rattle.rules.specs.Operations.{Result, record_of, memory_of, turn}
use Rattle.rules.specs.Lists.{State, state, after}
use Rattle.rules.specs.Lists as many
use Rattle.rules.specs.Calls.{Event, starts, turns, happens}
use Rattle.rules.specs.Sequences.{list_events}

-- A worker is committed to a cell from the turn that read it as the worker's level to the turn that exchanges it from that level; its kind tells.
-- free: it is not; later: another turn exchanges the cell; now: this turn does
pub data Commitment : Type 0 where
  free : Commitment
  later : Cell → Commitment
  now : Cell → Commitment

-- by kind: the six that exchange are Put, Append, Close and those of a Move; SetNext and MoveEnd write, and exchange nothing
unfoldable pub commits : Kind → ℕ → Head → List Move → Memory → Commitment
commits Idle w h ms m = free
commits Look w h ms m = free
commits Take w h ms m = later (entry_of w h m.levels)
commits Put w h ms m = now (entry_of w h m.levels)
commits Read w h ms m = free
commits Tail w h ms m = free
commits TakeTail w h ms m = later (Next h.node)
commits Append w h ms m = now (Next h.node)
commits Level w h ms m = later (Next h.node)
commits Close w h ms m = now (Next h.node)
commits Follow w h ms m = free
commits ChainHead w h ms m = free
commits ChainNext w h ms m = free
commits SetNext w h ms m = free
commits SetLook w h ms m = free
commits SetPut w h ms m = now (set_cell_of w h (last_node (inner ms)) m)
commits SetRead w h ms m = free
commits SetTail w h ms m = free
commits SetAppend w h ms m = now (Next h.node)
commits SetLevel w h ms m = later (Next h.node)
commits SetClose w h ms m = now (Next h.node)
commits SetFollow w h ms m = free
commits MoveEnd w h ms m = free
commits Unknown w h ms m = free

-- ""Exchange x from a to b" writes b only if x holds a."
unfoldable pub exchange_by : ℕ → Head → Memory → Commitment → Exchange
exchange_by w h m free = None
exchange_by w h m (later x) = None
exchange_by w h m (now x) = pick (expected h (cell_at w m x)) Done Failed

-- the exchange of a turn of this record over these nodes and levels
abbrev pub exchange_of : ℕ → Record → Memory → Exchange
exchange_of w r m = exchange_by w r.head m (commits r.head.kind w r.head r.moves m)

-- A worker is doomed: it is committed to a cell that holds something else by now, so that its exchange, if it comes to one, fails
unfoldable pub doomed_by : ℕ → Head → Memory → Commitment → Bool
doomed_by w h m free = false
doomed_by w h m (later x) = not (expected h (cell_at w m x))
doomed_by w h m (now x) = not (expected h (cell_at w m x))

-- of the record of worker i in a state
unfoldable pub doomed : ℕ → ℕ → State → Bool
doomed w i x =
    let r : Record = record_of x.areas i in
    doomed_by w r.head (memory_of x.areas) (commits r.head.kind w r.head r.moves (memory_of x.areas))

-- of a start or a turn in a state: a start makes no exchange, nor does a turn that is refused
unfoldable pub exchange_at : ℕ → Event → State → Exchange
exchange_at w (starts looks i row column) x = None
exchange_at w (turns i) x = pick (eqb (turn w x.settings i x.areas).reply.number 0) (exchange_of w (record_of x.areas i) (memory_of x.areas)) None

-- 1 if it is done
unfoldable pub done_in : Exchange → ℕ
done_in None = 0
done_in Done = 1
done_in Failed = 0

-- 1 if it failed
unfoldable pub failed_in : Exchange → ℕ
failed_in None = 0
failed_in Done = 0
failed_in Failed = 1

-- a number f of each exchange of a sequence of starts and turns, added up
unfoldable pub total : (Exchange → ℕ) → ℕ → List Event → State → ℕ
total f w [] x = 0
total f w (e ∷ es) x = f (exchange_at w e x) + total f w es (after (happens w e x))

-- how many exchanges of a sequence are done
abbrev pub successes : ℕ → List Event → State → ℕ
successes w es x = total done_in w es x

-- how many fail
abbrev pub failures : ℕ → List Event → State → ℕ
failures w es x = total failed_in w es x

-- what a list of turns gives: its result, and the exchanges done and failed
pub record Report : Type 0 where
  pub result : Result
  pub done : ℕ
  pub failed : ℕ

-- a report by its parts
abbrev pub report : Result → ℕ → ℕ → Report
report r d f = record { result = r; done = d; failed = f }

-- "A list of turns reports both numbers for its own turns, equal to a count over the turns' definition.": its own turns are those at the entries reached; a
-- list that is refused has none
unfoldable pub list_report : ℕ → Settings → List ℕ → ℕ → Areas → Report
list_report w s l limit a =
    let es : List Event = list_events w l limit (state s a) in
    report (many.turns w s l limit a) (successes w es (state s a)) (failures w es (state s a))
