-- The steps of the text program's loop: where a run begins, what is still to be printed where it stands, and what `next` tells of every progress.
-- Relies on the definition of the run.
use Rattle.std.specs.Prelude.{ℕ, ◌+◌, ◌-◌, ◌<◌, ◌≡◌, Bool, true, false, List, [], ◌∷◌, leb, ltb, length, drop}
use Rattle.words.specs.Choice.{both}
use Rattle.settings.specs.Sizes.{fresh}
use Rattle.settings.specs.declared.Settings.{Settings}
use Rattle.areas.specs.Memory.{Areas}
use Rattle.rules.specs.Lists.{state}
use Rattle.text.specs.Parts.{line_end, split}
use Rattle.printing.specs.declared.Printed.{Printed}
use Rattle.printing.specs.declared.Printed.TheVariants.{Nothing, Refused}
use Rattle.run.specs.declared.Stage.{Stage}
use Rattle.run.specs.declared.Stage.TheVariants.{Begin, TooLong, First, Lines, Last, Done}
use Rattle.run.specs.declared.Progress.{Progress}
use Rattle.run.specs.declared.Told.{Told}
use Rattle.run.specs.Program.{width, prints, input_prints, lines_print, end_line}

-- where a run stands, by its parts: the stage, the number of the next line, the place of its first byte, the table's settings
abbrev pub progress : Stage → ℕ → ℕ → Settings → Progress
progress g n k s = record { stage = g; line = n; at = k; settings = s }

-- what is printed next, and where the run stands then
abbrev pub told : Printed → Progress → Told
told x p = record { printed = x; progress = p }

-- where a run begins: nothing is printed yet, line 1 comes next
abbrev pub begun : Progress
begun = progress Begin 1 0 (fresh 0 0 0 0 width)

-- what is still to be printed, by the stage. At the beginning it is all.
unfoldable pub remaining_at : Stage → Progress → List ℕ → Areas → List Printed
remaining_at Begin p input a = prints input a
remaining_at TooLong p input a = Refused 0 10 ∷ []
remaining_at First p input a = input_prints (split line_end input) a
remaining_at Lines p input a = lines_print p.line (split line_end (drop p.at input)) (state p.settings a)
remaining_at Last p input a = end_line (state p.settings a) ∷ []
remaining_at Done p input a = []

-- what is still to be printed where a run stands, over the areas as they are then
abbrev pub remaining : Progress → List ℕ → Areas → List Printed
remaining p input a = remaining_at p.stage p input a

-- the bytes and stages that are left: each thing printed takes from it, so that a run ends
unfoldable pub left_at : Stage → Progress → List ℕ → ℕ
left_at Begin p input = length input + 4
left_at TooLong p input = 1
left_at First p input = length input + 3
left_at Lines p input = (length input - p.at) + 2
left_at Last p input = 1
left_at Done p input = 0

-- how much is left where a run stands
abbrev pub left : Progress → List ℕ → ℕ
left p input = left_at p.stage p input

-- whether something is still to be printed
unfoldable pub goes_on : Stage → Bool
goes_on Begin = true
goes_on TooLong = true
goes_on First = true
goes_on Lines = true
goes_on Last = true
goes_on Done = false

-- the next line begins within an input of n bytes that is short enough, and no more lines than bytes are before it: the count of lines does not wrap
unfoldable pub counted : Progress → ℕ → Bool
counted p n = both (leb n 65536) (both (leb p.at n) (leb p.line (p.at + 1)))

-- what is asked of a progress, by its stage: an input that is too long has no lines to read, one that is not is not refused for it. Every place of a run passes; so
-- do some that no run has, since neither the settings are asked, nor whether a line begins there, nor how many lines stand before it.
unfoldable pub can_stand_at : Stage → Progress → List ℕ → Bool
can_stand_at Begin p input = true
can_stand_at TooLong p input = ltb 65536 (length input)
can_stand_at First p input = leb (length input) 65536
can_stand_at Lines p input = counted p (length input)
can_stand_at Last p input = counted p (length input)
can_stand_at Done p input = true

-- what is asked of a progress over this input
abbrev pub can_stand : Progress → List ℕ → Bool
can_stand p input = can_stand_at p.stage p input

-- one thing is printed, and the rest remains
pub record Prints (p : Progress) (input : List ℕ) (a : Areas) (r : Told) (b : Areas) : Type 0 where
  pub says : remaining p input a ≡ r.printed ∷ remaining r.progress input b
  pub stands : can_stand r.progress input ≡ true
  pub less : left r.progress input < left p input

-- nothing is printed, nothing changes, and the run goes no further
abbrev pub Ends : Progress → Areas → Told → Areas → Type 0
Ends p a r b = (r ≡ told Nothing (progress Done p.line p.at p.settings)) × (b ≡ a)

-- what is told next, of every progress: one thing where the run goes on and the progress passes, else nothing more
pub record Next (p : Progress) (input : List ℕ) (a : Areas) (r : Told) (b : Areas) : Type 0 where
  pub prints : goes_on p.stage ≡ true → can_stand p input ≡ true → Prints p input a r b
  pub at_end : goes_on p.stage ≡ false → Ends p a r b
  pub nowhere : can_stand p input ≡ false → Ends p a r b
