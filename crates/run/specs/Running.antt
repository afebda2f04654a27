-- The loop of the text program's `main`, and what it prints and writes: the bytes that document 01 has the program write.
-- Relies on the definition of what is printed, and on what `next` tells.
use Rattle.std.specs.Prelude.{◌≡◌, true, false, List, [], ◌∷◌, ℕ}
use Rattle.areas.specs.Memory.{Areas}
use Rattle.printing.specs.declared.Printed.{Printed}
use Rattle.run.specs.declared.Progress.{Progress}
use Rattle.run.specs.declared.Told.{Told}
use Rattle.run.specs.Program.{prints, spelled, lent, output}
use Rattle.run.specs.Remaining.{begun, goes_on, Next}

-- what a call of `next` told, and the areas that it left
pub record Stop : Type 0 where
  pub told : Told
  pub areas : Areas

-- the loop of `main`: while `goes_on`, `next` is called with the progress that it gave and the areas that it left before
unfoldable pub Runs : Progress → List ℕ → Areas → List Stop → Type 0
Runs p input a [] = goes_on p.stage ≡ false
Runs p input a (t ∷ ts) =
    (goes_on p.stage ≡ true) × Next p input a t.told t.areas × Runs t.told.progress input t.areas ts

-- what the loop is told to print, one thing after the other
unfoldable pub printed_by : List Stop → List Printed
printed_by [] = []
printed_by (t ∷ ts) = t.told.printed ∷ printed_by ts

-- from the beginning on it is what document 01 has the program print, for every input and over areas of any content
abbrev pub RunPrints : Type 0
RunPrints = (input : List ℕ) (a : Areas) (ts : List Stop) → Runs begun input a ts → printed_by ts ≡ prints input a

-- over the memory that the program lends, the bytes of it are the output
abbrev pub RunWrites : Type 0
RunWrites = (input : List ℕ) (ts : List Stop) → Runs begun input lent ts → spelled (printed_by ts) ≡ output input
