-- Document 02, how often exchanges fail: the bound along every sequence of operations, and that a worker alone fails none.
-- Relies on what the exchanges of a turn and of a sequence are.
use Rattle.std.specs.Prelude.{ℕ, ◌+◌, ◌*◌, ◌-◌, ◌≤◌, ◌≡◌, Bool, false, List, [], ◌∷◌, eqb}
use Rattle.words.specs.Choice.{pick}
use Rattle.settings.specs.declared.Settings.{Settings}
use Rattle.areas.specs.Memory.{Areas}
use Rattle.record.specs.declared.Exchange.{Exchange}
use Rattle.rules.specs.Operations.{opening}
use Rattle.rules.specs.Lists.{State, after}
use Rattle.rules.specs.Alone.{turns_of}
use Rattle.rules.specs.Sequences.{Operation, opens, starts, turns, lists, asks, performs, leaves, left_by, events_of}
use Rattle.rules.specs.Exchanges.{doomed, done_in, failed_in, total, failures}

-- the workers whose calls place pixels: those that are no viewers, which are the first
unfoldable pub placing : Settings → ℕ
placing s = s.workers - s.viewers

-- an opening that is carried out begins a sequence anew
unfoldable pub begins : Operation → State → Bool
begins (opens s) x = eqb (opening s.width s x.areas).reply.number 0
begins (starts looks i row column) x = false
begins (turns i) x = false
begins (lists l limit) x = false
begins (asks i) x = false

-- A number f of each exchange since the newest opening, added up operation by operation to n, which was counted before them. What a list of turns adds is what it
-- reports
unfoldable pub sum_since : (Exchange → ℕ) → List Operation → State → ℕ → ℕ
sum_since f [] x n = n
sum_since f (o ∷ os) x n = sum_since f os (leaves o x) (pick (begins o x) 0 n + total f x.settings.width (events_of o x) x)

-- how many exchanges have failed since the newest opening
abbrev pub failed_since : List Operation → State → ℕ
failed_since os x = sum_since failed_in os x 0

-- how many were done
abbrev pub done_since : List Operation → State → ℕ
done_since os x = sum_since done_in os x 0

-- the width that the settings of a state give
abbrev pub width_of : State → ℕ
width_of x = x.settings.width

-- the operations os from a state x that a carried out opening left
pub record Bounded (x : State) (os : List Operation) : Type 0 where
  -- "In every sequence from a fresh table, failed exchanges are at most (placing workers − 1) × successful ones;"
  -- excludes: a machine whose failed Put tries the same exchange again; one whose Look goes to Take also where the entry is used
  pub bound : failed_since os x ≤ (placing (left_by os x).settings - 1) * done_since os x
  -- "with no placing worker both are zero."
  -- excludes: a viewer that goes on to Take and Put; one whose Tail goes to Level and Close
  pub none : placing (left_by os x).settings ≡ 0 → (failed_since os x ≡ 0) × (done_since os x ≡ 0)
  -- one placing worker: nothing ever fails
  -- excludes: a machine whose calls start at Take, on an entry that is used; one whose Tail goes to TakeTail where R's next is another node
  pub single : placing (left_by os x).settings ≡ 1 → failed_since os x ≡ 0
  -- a worker that is not doomed fails none in k turns that it has to itself, the others amid anything; a doomed one fails once at most
  -- excludes: a machine that goes to Take instead of Look in the next level; one whose failed exchange goes back to the exchange
  pub alone : (i k : ℕ) → failures (width_of (left_by os x)) (turns_of i k) (left_by os x) ≤ pick (doomed (width_of (left_by os x)) i (left_by os x)) 1 0
  -- a call fails none from its start on, while its worker has the turns to itself
  -- excludes: a start that stands before Take, on an entry that is used; one that stands before Put with the worker's spare node
  pub started : (looks : Bool) (i row column k : ℕ) → (performs (starts looks i row column) (left_by os x)).reply.number ≡ 0 → failures (width_of (left_by os x)) (turns_of i k) (after (performs (starts looks i row column) (left_by os x))) ≡ 0

-- for every state that a carried out opening left and every sequence of operations
abbrev pub BoundStatement : Type 0
BoundStatement = (s : Settings) (a : Areas) → (opening s.width s a).reply.number ≡ 0 → (os : List Operation) → Bounded (after (opening s.width s a)) os
