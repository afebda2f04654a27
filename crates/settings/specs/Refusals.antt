-- The refusals by number, and the number that a test's outcome stands for.
-- Relies on nothing.
use Rattle.std.specs.Prelude.{ℕ, Result, Ok, Err}
use Rattle.settings.specs.declared.Refusal.{Refusal}
use Rattle.settings.specs.declared.Refusal.TheVariants.{Settings, Area, Counts, Worker, Pixel, Memory, Busy, Idle, Full, Line, Place, Sort}

-- document 01's numbers 1 to 10; document 02 has 11 for a listing's place and 17 for viewers
abbrev pub refusal_no : Refusal → ℕ
refusal_no Settings = 1
refusal_no Area = 2
refusal_no Counts = 3
refusal_no Worker = 4
refusal_no Pixel = 5
refusal_no Memory = 6
refusal_no Busy = 7
refusal_no Idle = 8
refusal_no Full = 9
refusal_no Line = 10
refusal_no Place = 11
refusal_no Sort = 17

-- "the number is the answer when it is no": 0 where no question is answered no
abbrev pub outcome_no : {A : Type 0} → Result A Refusal → ℕ
outcome_no (Ok x) = 0
outcome_no (Err r) = refusal_no r
