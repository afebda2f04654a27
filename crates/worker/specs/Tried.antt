-- What a method for a kind of turn hands back, as a number and what is left with it. This follows the code's cut and is tied to the definitions
-- by lemmas; a reader need not believe it. Relies on steps for the number and what is left, on rules for the steps.
use Rattle.std.specs.Prelude.{ℕ, [], Option, Result, Ok, Err}
use Rattle.settings.specs.declared.Refusal.{Refusal}
use Rattle.settings.specs.declared.Settings.{Settings}
use Rattle.settings.specs.Refusals.{refusal_no}
use Rattle.areas.specs.Memory.{Memory}
use Rattle.record.specs.declared.Answer.{Answer}
use Rattle.record.specs.declared.Answer.TheVariants.{Nothing, New, Found, Full, Open, Absent}
use Rattle.record.specs.declared.Head.{Head}
use Rattle.rules.specs.Steps.{step}
use Rattle.steps.specs.Cut.{begun}
use Rattle.steps.specs.Tried.{Tried, tried}
use Rattle.worker.specs.declared.Turned.{Turned}

-- the number of a turn that is done: 9 ends its call with the answer "full"
abbrev pub done_no : Answer → ℕ
done_no Nothing = 0
done_no (New i) = 0
done_no (Found i) = 0
done_no Full = 9
done_no Open = 0
done_no Absent = 0

-- what a turn that is done gives back, with the memory that it leaves
abbrev pub done : Turned → Memory → Tried
done r m = tried (done_no r.answer) (step r.answer r.settings r.worker.head (begun r.worker.head.level r.child []) m)

-- what a searching method gives back, called with these settings and this head: a refusal leaves both
abbrev pub turned : Settings → Head → Result Turned Refusal → Memory → Tried
turned s h (Ok r) m = done r m
turned s h (Err e) m = tried (refusal_no e) (step Nothing s h [] m)

abbrev pub turned_of : Answer → Settings → Head → Option ℕ → Turned
turned_of a s h c = record { answer = a; settings = s; worker = record { head = h }; child = c }
