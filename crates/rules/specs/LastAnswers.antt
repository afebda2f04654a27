-- "Reading a last answer gives "none" before a worker's first end and "open" during a call.": what a history tells, and that it is read.
-- Relies on the operations and on the sequence of starts and turns.
use Rattle.std.specs.Prelude.{ℕ, ◌<◌, ◌≡◌, List, [], ◌∷◌, eqb}
use Rattle.words.specs.Choice.{pick}
use Rattle.settings.specs.declared.Settings.{Settings}
use Rattle.areas.specs.Memory.{Areas}
use Rattle.record.specs.declared.Answer.{Answer}
use Rattle.record.specs.declared.Answer.TheVariants.{Nothing, New, Found, Full, Open, Absent}
use Rattle.record.specs.declared.Reply.{Reply}
use Rattle.rules.specs.Operations.{opening, last_answer}
use Rattle.rules.specs.Lists.{State, after}
use Rattle.rules.specs.Calls.{Event, starts, turns, Happened, history, state_after}

-- "The turn that answers it "new", "found" or "full" ends it.", a viewer's "absent" too: the last answer after a turn of the worker itself, by the turn's answer
unfoldable pub end_told : Answer → Answer → Answer
end_told Nothing before = before
end_told (New n) before = New n
end_told (Found n) before = Found n
end_told Full before = Full
end_told Open before = before
end_told Absent before = Absent

-- worker i's last answer after an event with its reply: "open" from a start of its own that is carried out, the answer from the turn that ends its call; every other event leaves it
unfoldable pub told_by : ℕ → Event → Reply → Answer → Answer
told_by i (starts looks j row column) r before = pick (eqb j i) (pick (eqb r.number 0) Open before) before
told_by i (turns j) r before = pick (eqb j i) (end_told r.answer before) before

-- after a history, from its first event on
unfoldable pub told : ℕ → List Happened → Answer → Answer
told i [] before = before
told i (h ∷ hs) before = told i hs (told_by i h.event h.reply before)

-- worker i's last answer, read after the events: it is given, and it is what their history tells, from "none" on
-- excludes: a machine that answers "found" and keeps "new" in the record; one whose start leaves the answer of the call before readable
abbrev pub ReadsTold : ℕ → State → List Event → ℕ → Type 0
ReadsTold w x es i =
    ((last_answer w (state_after w es x).settings i (state_after w es x).areas).reply.number ≡ 0)
    × ((last_answer w (state_after w es x).settings i (state_after w es x).areas).reply.answer ≡ told i (history w es x) Nothing)

-- for every carried out opening, every sequence of starts and turns, and every worker of the table
abbrev pub LastAnswers : ℕ → Settings → Type 0
LastAnswers w s = (a : Areas) → (opening w s a).reply.number ≡ 0 → (es : List Event) (i : ℕ) → i < s.workers → ReadsTold w (after (opening w s a)) es i
