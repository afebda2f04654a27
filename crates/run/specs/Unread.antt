-- Question 10 in exactly its own case: the lines that do not read are the lines that are refused by 10.
-- Relies on the definition of the run, and on the text format.
use Rattle.std.specs.Prelude.{ℕ, suc, ◌≡◌, Bool, true, false, List, [], ◌∷◌, ◌++◌, Option, Some, None, eqb, leb, length}
use Rattle.words.specs.Choice.{pick}
use Rattle.areas.specs.Memory.{Areas}
use Rattle.text.specs.Parts.{line_end, split}
use Rattle.text.specs.Commands.{command}
use Rattle.text.specs.declared.Command.{Command}
use Rattle.text.specs.declared.Command.TheVariants.{Sizes, Starts, Views, Turns}
use Rattle.printing.specs.declared.Printed.{Printed}
use Rattle.printing.specs.declared.Printed.TheVariants.{Nothing, Header, New, Found, Full, Absent, Refused, End}
use Rattle.run.specs.Program.{first_line, prints}

-- "A refused line prints refused,line,number": the line, where the number is 10
unfoldable pub ten_line : Printed → List ℕ
ten_line Nothing = []
ten_line Header = []
ten_line (New i pixel node) = []
ten_line (Found i pixel node) = []
ten_line (Full i pixel) = []
ten_line (Absent i pixel) = []
ten_line (Refused line number) = pick (eqb number 10) (line ∷ []) []
ten_line (End nodes levels) = []

-- the lines that are refused by 10 in what is printed, in their order
unfoldable pub ten_lines : List Printed → List ℕ
ten_lines [] = []
ten_lines (p ∷ ps) = ten_line p ++ ten_lines ps

-- "First line s,workers,limit,nodes ..": a line s reads as the first one alone
unfoldable pub reads_first : Option Command → Bool
reads_first (Some (Sizes workers limit nodes viewers)) = true
reads_first (Some (Starts i row column)) = false
reads_first (Some (Views i row column)) = false
reads_first (Some (Turns i)) = false
reads_first None = false

-- ".. then c,worker,row,column starts and t,worker turns", "A viewer's call, program line v,worker,row,column"
unfoldable pub reads_later : Option Command → Bool
reads_later (Some (Sizes workers limit nodes viewers)) = false
reads_later (Some (Starts i row column)) = true
reads_later (Some (Views i row column)) = true
reads_later (Some (Turns i)) = true
reads_later None = false

-- "An empty input or unended last line is a refused line": what stands behind the last byte 10, as line n
unfoldable pub unread_rest : ℕ → List ℕ → List ℕ
unread_rest n [] = []
unread_rest n (b ∷ p) = n ∷ []

-- "10. Text program: does the line read?" of the lines from line n on
unfoldable pub unread_from : ℕ → List (List ℕ) → List ℕ
unread_from n [] = []
unread_from n (p ∷ []) = unread_rest n p
unread_from n (p ∷ q ∷ ps) = pick (reads_later (command p)) [] (n ∷ []) ++ unread_from (suc n) (q ∷ ps)

-- of all lines; "refused line 1 ends the program", by whichever number
unfoldable pub unread_input : List (List ℕ) → Areas → List ℕ
unread_input [] a = []
unread_input (p ∷ []) a = 1 ∷ []
unread_input (p ∷ q ∷ ps) a =
    pick (reads_first (command p)) (pick (eqb (first_line (command p) a).reply.number 0) (unread_from 2 (q ∷ ps)) []) (1 ∷ [])

-- "Input above 65,536 bytes gives refused,0,10"
unfoldable pub unread_lines : List ℕ → Areas → List ℕ
unread_lines input a = pick (leb (length input) 65536) (unread_input (split line_end input) a) (0 ∷ [])

-- 10 is given to each line that does not read, once, and to no other
abbrev pub TenExactly : Type 0
TenExactly = (input : List ℕ) (a : Areas) → ten_lines (prints input a) ≡ unread_lines input a
