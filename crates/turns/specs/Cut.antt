-- The parts in which the code carries out one turn. They follow the code's cut and are tied to the operation's definition by lemmas.
-- Relies on rules for the operations, on steps for what a method gives.
use Rattle.settings.specs.Sizes.{views}
use Rattle.std.specs.Prelude.{Bool, ℕ, eqb, ltb, Ok, Err}
use Rattle.std.specs.Prelude as Res
use Rattle.words.specs.Choice.{pick}
use Rattle.settings.specs.declared.Settings.{Settings}
use Rattle.settings.specs.declared.Refusal.{Refusal}
use Rattle.settings.specs.Refusals.{refusal_no}
use Rattle.areas.specs.Memory.{Areas, areas, Memory}
use Rattle.record.specs.declared.Exchange.{Exchange}
use Rattle.record.specs.declared.Exchange.TheVariants.{None, Done, Failed}
use Rattle.record.specs.declared.Head.{Head}
use Rattle.record.specs.Layout.{Record, store}
use Rattle.record.specs.Fits.{fits}
use Rattle.rules.specs.Acts.{act_by}
use Rattle.rules.specs.Asked.{reads_by, question7, question9}
use Rattle.rules.specs.Exchanges.{exchange_of}
use Rattle.rules.specs.Operations.{Result, result_of, reply, refused, record_of, memory_of}
use Rattle.steps.specs.Tried.{Tried, unless_six, unless_nine}
use Rattle.turns.specs.declared.Done as done

-- what the method for the kind of a record gives, of a viewer (v) or of another worker
unfoldable pub tried_of : ℕ → Bool → Settings → Record → Memory → Tried
tried_of w v s r m =
    unless_six (reads_by r.head.kind w s r.head r.moves m) s r.head r.moves m
    (unless_nine (question9 s r) s r.head m (act_by r.head.kind w v s r.head r.moves m))

-- what a turn leaves of it: a refusal by 6 nothing, else the record is stored
unfoldable pub finished : Tried → ℕ → Settings → Areas → Result
finished t i s a =
    pick (eqb t.number 6)
    (refused 6 s a)
    (result_of (reply t.number t.step'.answer 0 t.step'.settings)
    (areas t.step'.memory.nodes t.step'.memory.levels (store t.step'.record' i a.workers)))

-- a turn of a worker below workers, a viewer (v) or another: that the record fits, question 8, then what the kind's method gives
unfoldable pub turn_as : ℕ → Bool → Settings → ℕ → Areas → Result
turn_as w v s i a =
    pick (fits w v s (record_of a i))
    (pick (question7 (record_of a i)) (refused 8 s a) (finished (tried_of w v s (record_of a i) (memory_of a)) i s a))
    (refused 6 s a)

abbrev pub turn_here : ℕ → Settings → ℕ → Areas → Result
turn_here w s i a = turn_as w (views s i) s i a

-- what is handed on of a turn that is done
abbrev pub left_by : Settings → Exchange → done.Done
left_by s e = record { nodes_taken = s.nodes_taken; levels_taken = s.levels_taken; exchange = e }

-- what a turn comes to: its number, of the settings what it can change, and its exchange
pub record Outcome : Type 0 where
  pub number : ℕ
  pub nodes_taken : ℕ
  pub levels_taken : ℕ
  pub exchange : Exchange

abbrev pub turn_done : ℕ → Settings → Exchange → Outcome
turn_done n s e = record { number = n; nodes_taken = s.nodes_taken; levels_taken = s.levels_taken; exchange = e }

-- a turn begun with these counts: a refusal leaves them, and makes no exchange
abbrev pub done_at : ℕ → ℕ → Res.Result done.Done Refusal → Outcome
done_at n g (Ok d) = record { number = 0; nodes_taken = d.nodes_taken; levels_taken = d.levels_taken; exchange = d.exchange }
done_at n g (Err r) = record { number = refusal_no r; nodes_taken = n; levels_taken = g; exchange = None }

-- with these settings
abbrev pub done_of : Settings → Res.Result done.Done Refusal → Outcome
done_of s = done_at s.nodes_taken s.levels_taken

-- with the areas
pub record Did : Type 0 where
  pub done : Outcome
  pub areas : Areas

abbrev pub did : Outcome → Areas → Did
did d a = record { done = d; areas = a }

-- of a turn whose exchange comes to e: a turn that is refused makes none
unfoldable pub did_of : Exchange → Result → Did
did_of e x = did (turn_done x.reply.number x.reply.settings (pick (eqb x.reply.number 0) e None)) x.areas

abbrev pub did_as : ℕ → Bool → Settings → ℕ → Areas → Did
did_as w v s i a = did_of (exchange_of w (record_of a i) (memory_of a)) (turn_as w v s i a)

-- what an exchange came to, as the code tells it: what was put into the cell is no longer in hand, or no longer remembered
unfoldable pub by_held : ℕ → Exchange
by_held held = pick (eqb held 0) Done Failed

unfoldable pub by_remembered : ℕ → ℕ → Exchange
by_remembered before after = pick (ltb after before) Done Failed

-- by the number of the kind before the turn, the head after it, and the nodes that the innermost Move remembered before and after
unfoldable pub came_to : ℕ → Head → ℕ → ℕ → Exchange
came_to k h before after =
    pick (eqb k 3) (by_held h.held_node)
    (pick (eqb k 7) (by_held h.held_node)
    (pick (eqb k 9) (by_held h.held_level)
    (pick (eqb k 15) (by_remembered before after)
    (pick (eqb k 18) (by_remembered before after)
    (pick (eqb k 20) (by_held h.held_level) None)))))
