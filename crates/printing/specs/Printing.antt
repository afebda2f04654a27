-- What the program prints, as bytes.
-- Relies on text for the bytes of a word.
use Rattle.std.specs.Prelude.{ℕ, zero, suc, ◌+◌, ◌/◌, ◌%◌, List, [], ◌∷◌, ◌++◌, ltb}
use Rattle.words.specs.Choice.{pick}
use Rattle.text.specs.Parts.{ascii, comma, line_end}
use Rattle.printing.specs.declared.Printed.{Printed}
use Rattle.printing.specs.declared.Printed.TheVariants.{Nothing, Header, New, Found, Full, Absent, Refused, End}

-- the last k + 1 digits of n, without zeros in front
unfoldable pub decimal_in : ℕ → ℕ → List ℕ
decimal_in zero n = (48 + n % 10) ∷ []
decimal_in (suc k) n = pick (ltb n 10) ((48 + n) ∷ []) (decimal_in k (n / 10) ++ ((48 + n % 10) ∷ []))

-- a number of at most five digits
abbrev pub decimal : ℕ → List ℕ
decimal n = decimal_in 4 n

-- the fields before an answer: worker, row, column
unfoldable pub call_bytes : ℕ → ℕ → List ℕ
call_bytes worker pixel =
    decimal worker ++ (comma ∷ []) ++ decimal (pixel / 4096) ++ (comma ∷ []) ++ decimal (pixel % 4096)

-- "prints refused,line,number", "Answers are new, found, full; full has node -", a viewer's "absent", node -, "The last line is the flagged count, which is nodes taken, then levels taken."
unfoldable pub bytes_of : Printed → List ℕ
bytes_of Nothing = []
bytes_of Header = ascii "worker,row,column,answer,node" ++ (line_end ∷ [])
bytes_of (New i p n) = call_bytes i p ++ ascii ",new," ++ decimal n ++ (line_end ∷ [])
bytes_of (Found i p n) = call_bytes i p ++ ascii ",found," ++ decimal n ++ (line_end ∷ [])
bytes_of (Full i p) = call_bytes i p ++ ascii ",full,-" ++ (line_end ∷ [])
bytes_of (Absent i p) = call_bytes i p ++ ascii ",absent,-" ++ (line_end ∷ [])
bytes_of (Refused line number) = ascii "refused," ++ decimal line ++ (comma ∷ []) ++ decimal number ++ (line_end ∷ [])
bytes_of (End nodes levels) = ascii "end," ++ decimal nodes ++ (comma ∷ []) ++ decimal levels ++ (line_end ∷ [])
