-- Demand 3 of all public operations: a list of turns is the turns at its entries reached, a last answer changes nothing, an opening begins anew.
-- Relies on the operations' definitions and on the statement of demand 3.
use Rattle.std.specs.Prelude.{ℕ, ◌≡◌, Bool, ◌≢◌, List, [], ◌∷◌, ◌++◌, eqb}
use Rattle.words.specs.Choice.{pick, first_no}
use Rattle.settings.specs.declared.Settings.{Settings}
use Rattle.areas.specs.Memory.{Areas}
use Rattle.rules.specs.Operations.{Result, opening, start, turn, last_answer}
use Rattle.rules.specs.Lists as many
use Rattle.rules.specs.Lists.{State, after, Visit, visits, list_questions}
use Rattle.rules.specs.Calls.{Event, state_after}
use Rattle.rules.specs.Calls as event
use Rattle.rules.specs.Demands.{Demand3}

-- an operation with any numbers in it; each gets the settings that the one before gave back, an opening gets its own
pub data Operation : Type 0 where
  opens : Settings → Operation
  starts : Bool → ℕ → ℕ → ℕ → Operation
  turns : ℕ → Operation
  lists : List ℕ → ℕ → Operation
  asks : ℕ → Operation

-- by the definitions that the public operations' contracts cite, each at the width of the settings that it gets: an opening may bring another
unfoldable pub performs : Operation → State → Result
performs (opens s) x = opening s.width s x.areas
performs (starts looks i row column) x = start x.settings.width x.settings looks i row column x.areas
performs (turns i) x = turn x.settings.width x.settings i x.areas
performs (lists l limit) x = many.turns x.settings.width x.settings l limit x.areas
performs (asks i) x = last_answer x.settings.width x.settings i x.areas

-- an opening that was refused gives back the settings that it got: the user goes on with those from before it
unfoldable pub leaves : Operation → State → State
leaves (opens s) x = pick (eqb (opening s.width s x.areas).reply.number 0) (after (opening s.width s x.areas)) x
leaves (starts looks i row column) x = after (performs (starts looks i row column) x)
leaves (turns i) x = after (performs (turns i) x)
leaves (lists l limit) x = after (performs (lists l limit) x)
leaves (asks i) x = after (performs (asks i) x)

-- the state that the operations leave
unfoldable pub left_by : List Operation → State → State
left_by [] x = x
left_by (o ∷ os) x = left_by os (leaves o x)

-- the turns at the entries that a list reached
unfoldable pub turns_at : List Visit → List Event
turns_at [] = []
turns_at (v ∷ vs) = event.turns v.worker ∷ turns_at vs

-- the turns that a list of turns is made of: none where it is refused
unfoldable pub list_events : ℕ → List ℕ → ℕ → State → List Event
list_events w l limit x = pick (eqb (first_no (list_questions w x.settings l x.areas)) 0) (turns_at (visits w l limit x)) []

-- the starts and turns that an operation is made of
unfoldable pub events_of : Operation → State → List Event
events_of (opens s) x = []
events_of (starts looks i row column) x = event.starts looks i row column ∷ []
events_of (turns i) x = event.turns i ∷ []
events_of (lists l limit) x = list_events x.settings.width l limit x
events_of (asks i) x = []

-- where the newest carried out opening left the table, and the starts and turns since
pub record Since : Type 0 where
  pub began : State
  pub events : List Event

-- after one operation more, which found the state x
unfoldable pub since : Operation → State → Since → Since
since (opens s) x h =
    pick (eqb (opening s.width s x.areas).reply.number 0) (record { began = after (opening s.width s x.areas); events = [] }) h
since (starts looks i row column) x h = record { began = h.began; events = h.events ++ events_of (starts looks i row column) x }
since (turns i) x h = record { began = h.began; events = h.events ++ events_of (turns i) x }
since (lists l limit) x h = record { began = h.began; events = h.events ++ events_of (lists l limit) x }
since (asks i) x h = h

-- the same over all operations
unfoldable pub since_all : List Operation → State → Since → Since
since_all [] x h = h
since_all (o ∷ os) x h = since_all os (leaves o x) (since o x h)

-- from a state on
abbrev pub since_opening : List Operation → State → Since
since_opening os x = since_all os x (record { began = x; events = [] })

-- demand 3 of a sequence of operations from a state x that a carried out opening left
pub record OperationsMeet (x : State) (os : List Operation) : Type 0 where
  -- the operations leave what the starts and turns since the newest opening leave, at the width that it brought
  -- excludes: a list of turns that loses the changes of an entry that it reached; a last answer that writes to the record
  pub ends : state_after (since_opening os x).began.settings.width (since_opening os x).events (since_opening os x).began ≡ left_by os x
  -- and of these demand 3 holds
  -- excludes: a list whose turns place a pixel twice; an opening over an old table that leaves a chain of it reachable
  pub demand3 : Demand3 (since_opening os x).began.settings.width (since_opening os x).began (since_opening os x).events
  -- "6 is never given"
  -- excludes: a list that stops at a 6 on a table that nobody spoiled; a last answer that finds its record unfit amid a Move
  pub never_6 : (before : List Operation) (o : Operation) (rest : List Operation) → os ≡ before ++ o ∷ rest → (performs o (left_by before x)).reply.number ≢ 6

-- for every state that a carried out opening left and every sequence of operations
abbrev pub OperationsStatement : Type 0
OperationsStatement = (s : Settings) (a : Areas) → (opening s.width s a).reply.number ≡ 0 → (os : List Operation) → OperationsMeet (after (opening s.width s a)) os
