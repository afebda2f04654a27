-- The text program: what each line prints and leaves, and the whole run over the bytes of its input.
-- Relies on the text format and on the operations' definitions.
use Rattle.std.specs.Prelude.{ℕ, suc, ◌*◌, true, false, List, [], ◌∷◌, ◌++◌, Option, Some, None, eqb, leb, length, replicate}
use Rattle.words.specs.Choice.{pick}
use Rattle.settings.specs.Sizes.{max_workers, node_words, level_words, worker_words, level_count, fresh}
use Rattle.areas.specs.Memory.{Areas, areas}
use Rattle.record.specs.declared.Answer.{Answer}
use Rattle.record.specs.declared.Answer.TheVariants as answer
use Rattle.rules.specs.Operations.{Result, refused, record_of, opening, start, turn}
use Rattle.rules.specs.Lists.{State, after}
use Rattle.text.specs.Parts.{line_end, split}
use Rattle.text.specs.Commands.{command}
use Rattle.printing.specs.Printing.{bytes_of}
use Rattle.text.specs.declared.Command.{Command}
use Rattle.text.specs.declared.Command.TheVariants.{Sizes, Starts, Views, Turns}
use Rattle.printing.specs.declared.Printed.{Printed}
use Rattle.printing.specs.declared.Printed.TheVariants.{Nothing, Header, New, Found, Full, Absent, Refused, End}

-- what a line prints, and the state that it leaves
pub record Line : Type 0 where
  pub printed : Printed
  pub state' : State

-- a line's result by its parts
abbrev pub line : Printed → State → Line
line p x = record { printed = p; state' = x }

-- a start prints nothing; "A refused line prints refused,line,number"
unfoldable pub start_line : ℕ → Result → Line
start_line n r = line (pick (eqb r.reply.number 0) Nothing (Refused n r.reply.number)) (after r)

-- "A call's row is printed by the turn that ends it, with the call's pixel. .. full .. prints no refused line."
unfoldable pub turn_prints : ℕ → ℕ → ℕ → ℕ → Answer → Printed
turn_prints n i pixel number answer.Nothing = Refused n number
turn_prints n i pixel number (answer.New m) = New i pixel m
turn_prints n i pixel number (answer.Found m) = Found i pixel m
turn_prints n i pixel number answer.Full = Full i pixel
turn_prints n i pixel number answer.Open = Nothing
turn_prints n i pixel number answer.Absent = Absent i pixel

-- pixel: that of the worker's call, as its record has it before the turn
unfoldable pub turn_line : ℕ → ℕ → ℕ → Result → Line
turn_line n i pixel r = line (turn_prints n i pixel r.reply.number r.reply.answer) (after r)

-- document 02: "The text program keeps width 3."
abbrev pub width : ℕ
width = 3

-- line n, which is not the first: a line of another shape is 10, and so is a second line s
unfoldable pub carried : ℕ → Option Command → State → Line
carried n (Some (Sizes workers limit nodes viewers)) x = line (Refused n 10) x
carried n (Some (Starts i row column)) x = start_line n (start x.settings.width x.settings false i row column x.areas)
carried n (Some (Views i row column)) x = start_line n (start x.settings.width x.settings true i row column x.areas)
carried n (Some (Turns i)) x = turn_line n i (record_of x.areas i).head.pixel (turn x.settings.width x.settings i x.areas)
carried n None x = line (Refused n 10) x

-- "here nodes above 128 is refusal 1"
abbrev pub most_nodes : ℕ
most_nodes = 128

-- "First line s,workers,limit,nodes (here nodes above 128 is refusal 1)"; document 02: it "may end in a fifth field" with the number of viewers. Another first line does
-- not read
unfoldable pub first_line : Option Command → Areas → Result
first_line (Some (Sizes workers limit nodes viewers)) a =
    pick (leb nodes most_nodes) (opening width (fresh workers limit nodes viewers width) a) (refused 1 (fresh workers limit nodes viewers width) a)
first_line (Some (Starts i row column)) a = refused 10 (fresh 0 0 0 0 width) a
first_line (Some (Views i row column)) a = refused 10 (fresh 0 0 0 0 width) a
first_line (Some (Turns i)) a = refused 10 (fresh 0 0 0 0 width) a
first_line None a = refused 10 (fresh 0 0 0 0 width) a

-- "The last line is the flagged count, which is nodes taken, then levels taken."
abbrev pub end_line : State → Printed
end_line x = End x.settings.nodes_taken x.settings.levels_taken

-- what stands behind the last byte 10, as line n: "An empty input or unended last line is a refused line."
unfoldable pub rest_prints : ℕ → List ℕ → State → List Printed
rest_prints n [] x = end_line x ∷ []
rest_prints n (b ∷ p) x = Refused n 10 ∷ end_line x ∷ []

-- the lines from line n on; the last part has no byte 10 behind it
unfoldable pub lines_print : ℕ → List (List ℕ) → State → List Printed
lines_print n [] x = []
lines_print n (p ∷ []) x = rest_prints n p x
lines_print n (p ∷ q ∷ ps) x = (carried n (command p) x).printed ∷ lines_print (suc n) (q ∷ ps) (carried n (command p) x).state'

-- "refused line 1 ends the program without an end line"
unfoldable pub opened_prints : Result → List (List ℕ) → List Printed
opened_prints r ps = pick (eqb r.reply.number 0) (Nothing ∷ lines_print 2 ps (after r)) (Refused 1 r.reply.number ∷ [])

-- the whole input, part by part
unfoldable pub input_prints : List (List ℕ) → Areas → List Printed
input_prints [] a = []
input_prints (p ∷ []) a = Refused 1 10 ∷ []
input_prints (p ∷ q ∷ ps) a = opened_prints (first_line (command p) a) (q ∷ ps)

-- "The header is always printed. Input above 65,536 bytes gives refused,0,10 after the header and ends."
unfoldable pub prints : List ℕ → Areas → List Printed
prints input a = Header ∷ pick (leb (length input) 65536) (input_prints (split line_end input) a) (Refused 0 10 ∷ [])

-- the bytes of what is printed
unfoldable pub spelled : List Printed → List ℕ
spelled [] = []
spelled (p ∷ ps) = bytes_of p ++ spelled ps

-- the memory that the program lends: zeros, with room for the most nodes and workers at every chain limit
abbrev pub lent : Areas
lent =
    areas (replicate (node_words * most_nodes) 0) (replicate (level_words width * level_count width (fresh max_workers 1 most_nodes 0 width)) 0)
    (replicate (worker_words * max_workers) 0)

-- the bytes that the program writes for the bytes that it reads
abbrev pub output : List ℕ → List ℕ
output input = spelled (prints input lent)
