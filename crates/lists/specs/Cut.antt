-- The parts in which the code carries out a list of turns. They follow the code's cut and are tied to the operation's definition by
-- lemmas. Relies on rules for the operations, on table for questions 1 to 4.
use Rattle.std.specs.Prelude.{ℕ, ◌+◌, ◌-◌, Bool, List, [], ◌∷◌, eqb, length, Ok, Err}
use Rattle.std.specs.Prelude as Res
use Rattle.words.specs.Choice.{pick}
use Rattle.settings.specs.Cut.{counted}
use Rattle.settings.specs.Sizes.{views}
use Rattle.settings.specs.declared.Settings.{Settings}
use Rattle.settings.specs.declared.Refusal.{Refusal}
use Rattle.settings.specs.Refusals.{refusal_no, outcome_no}
use Rattle.areas.specs.Memory.{Areas}
use Rattle.record.specs.declared.Answer.TheVariants.{Nothing}
use Rattle.record.specs.declared.Exchange.{Exchange}
use Rattle.record.specs.declared.Head.{Head}
use Rattle.record.specs.declared.Reply.{Reply}
use Rattle.record.specs.Kinds.{kind_no}
use Rattle.record.specs.Fits.{answer_fits}
use Rattle.record.specs.Layout.{head_at}
use Rattle.rules.specs.Operations.{Result, result_of, reply, turn, last_of}
use Rattle.rules.specs.Lists.{State, state, after}
use Rattle.rules.specs.Calls.{turns}
use Rattle.rules.specs.Exchanges.{exchange_at, done_in, failed_in, Report, report}
use Rattle.table.specs.Cut.{first_four}
use Rattle.turns.specs.Cut.{Outcome}
use Rattle.lists.specs.declared.Tally.{Tally}
use Rattle.lists.specs.declared.Ran.{Ran}

-- where a list of turns stands: 0 or 6, the state, the turns that may still be done, and the exchanges done and failed
pub record Run : Type 0 where
  pub number : ℕ
  pub state' : State
  pub left : ℕ
  pub done : ℕ
  pub failed : ℕ

abbrev pub run : ℕ → State → ℕ → ℕ → ℕ → Run
run n x l d f = record { number = n; state' = x; left = l; done = d; failed = f }

-- after one entry of the list, with the turn's exchange and its result
unfoldable pub ran_by : Run → Exchange → Result → Run
ran_by u e r =
    pick (eqb r.reply.number 6)
    (run 6 u.state' u.left u.done u.failed)
    (pick (eqb r.reply.number 8) u (run 0 (after r) (u.left - 1) (u.done + done_in e) (u.failed + failed_in e)))

unfoldable pub ran_entry : ℕ → Run → ℕ → Run
ran_entry w u i =
    pick (eqb u.left 0) u
    (pick (eqb u.number 0) (ran_by u (exchange_at w (turns i) u.state') (turn w u.state'.settings i u.state'.areas)) u)

unfoldable pub ran_list : ℕ → List ℕ → Run → Run
ran_list w [] u = u
ran_list w (i ∷ l) u = ran_list w l (ran_entry w u i)

-- what a list of turns with this limit gives where the code stands at its end
unfoldable pub ran_report : ℕ → Run → Report
ran_report limit u = report (result_of (reply u.number Nothing (limit - u.left) u.state'.settings) u.state'.areas) u.done u.failed

-- where the code stands: the number, 0 or that of the refusal that has ended the list, and its tally
pub record Stand : Type 0 where
  pub number : ℕ
  pub nodes_taken : ℕ
  pub levels_taken : ℕ
  pub left : ℕ
  pub done : ℕ
  pub failed : ℕ

abbrev pub stand : ℕ → Tally → Stand
stand n t = record { number = n; nodes_taken = t.nodes_taken; levels_taken = t.levels_taken; left = t.left; done = t.done; failed = t.failed }

-- after an entry: a refusal leaves the tally; and at the list's end
abbrev pub went : Tally → Res.Result Tally Refusal → Stand
went t (Ok u) = stand 0 u
went t (Err r) = stand (refusal_no r) t

abbrev pub ended : Ran → Stand
ended r = stand (outcome_no r.outcome) r.tally

-- the list's settings with the counts of the code's tally, and the tally with the areas
abbrev pub counted_by : Settings → Stand → Settings
counted_by s t = counted s t.nodes_taken t.levels_taken

abbrev pub ran_of : Settings → Stand → Areas → Run
ran_of s t a = run t.number (state (counted_by s t) a) t.left t.done t.failed

-- a tally by its parts
abbrev pub tally : ℕ → ℕ → ℕ → ℕ → ℕ → ℕ → Stand
tally n i g l d f = record { number = n; nodes_taken = i; levels_taken = g; left = l; done = d; failed = f }

-- the tally after a 6, after an idle worker's entry (v: it is a viewer), after a turn that was done, and after any turn of a worker with a call open
abbrev pub six_tally : Stand → Stand
six_tally t = tally 6 t.nodes_taken t.levels_taken t.left t.done t.failed

unfoldable pub idle_tally : Bool → Stand → ℕ → Stand
idle_tally v t answer = pick (answer_fits v answer) t (six_tally t)

abbrev pub next_tally : Stand → Outcome → ℕ → ℕ → Stand
next_tally t d done failed = tally 0 d.nodes_taken d.levels_taken (t.left - 1) done failed

unfoldable pub open_tally : Stand → Outcome → Stand
open_tally t d = pick (eqb d.number 6) (six_tally t) (next_tally t d (t.done + done_in d.exchange) (t.failed + failed_in d.exchange))

-- the number of a turn of an idle worker (v: it is a viewer), by the number of its last answer
unfoldable pub idle_number : Bool → ℕ → ℕ
idle_number v answer = pick (answer_fits v answer) 8 6

-- the number of a turn that was done, as its worker's head tells it; the answer is that of the head
unfoldable pub number_by : Head → ℕ
number_by h = pick (eqb (kind_no h.kind) 0) (pick (eqb h.answer 3) 9 0) 0

-- the reply of a turn that was done, by its worker's head after it, with the settings
abbrev pub told_reply : Head → Settings → Reply
told_reply h s = reply (number_by h) (last_of h) 0 s

-- the number that refuses a turn before its record is asked further: questions 1 to 4, then 8 or 6 of an idle worker; 0 where the worker has a call open
unfoldable pub refused_turn : ℕ → Settings → ℕ → Areas → ℕ
refused_turn w s i a =
    let q = first_four w s i (length a.nodes) (length a.levels) (length a.workers) in
    let h = head_at a.workers i in
    pick (eqb q 0) (pick (eqb (kind_no h.kind) 0) (idle_number (views s i) h.answer) 0) q

-- what a list reports where it is tallied so, with its settings then
abbrev pub listed : ℕ → Stand → Settings → Areas → Report
listed limit t s a = report (result_of (reply t.number Nothing (limit - t.left) s) a) t.done t.failed
