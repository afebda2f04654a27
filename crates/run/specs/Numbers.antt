-- Every number that is printed has at most five digits, which are all that is spelled: what is read is the number itself.
-- Relies on the definition of the run.
use Rattle.std.specs.Prelude.{ℕ, ◌/◌, ◌%◌, ◌<◌, List, [], ◌∷◌}
use Rattle.areas.specs.Memory.{Areas}
use Rattle.printing.specs.declared.Printed.{Printed}
use Rattle.printing.specs.declared.Printed.TheVariants.{Nothing, Header, New, Found, Full, Absent, Refused, End}
use Rattle.run.specs.Program.{prints}

-- a number of at most five digits
abbrev pub Five : ℕ → Type 0
Five n = n < 100000

-- the fields before an answer: worker, row, column
abbrev pub FiveCall : ℕ → ℕ → Type 0
FiveCall worker pixel = Five worker × Five (pixel / 4096) × Five (pixel % 4096)

-- each number that is spelled: "worker,row,column,answer,node", "refused,line,number", "nodes taken, then levels taken"
unfoldable pub Small : Printed → Type 0
Small Nothing = Unit
Small Header = Unit
Small (New worker pixel node) = FiveCall worker pixel × Five node
Small (Found worker pixel node) = FiveCall worker pixel × Five node
Small (Full worker pixel) = FiveCall worker pixel
Small (Absent worker pixel) = FiveCall worker pixel
Small (Refused line number) = Five line × Five number
Small (End nodes levels) = Five nodes × Five levels

-- of all that is printed
unfoldable pub AllSmall : List Printed → Type 0
AllSmall [] = Unit
AllSmall (p ∷ ps) = Small p × AllSmall ps

-- for every input, over areas of any content
abbrev pub NumbersSmall : Type 0
NumbersSmall = (input : List ℕ) (a : Areas) → AllSmall (prints input a)
