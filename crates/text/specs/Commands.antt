-- What a line asks for: its fields, the numbers in them, and the shapes that read.
-- Relies on the parts of a text.
use Rattle.std.specs.Prelude.{ℕ, zero, suc, ◌+◌, ◌-◌, ◌*◌, Bool, true, not, List, [], ◌∷◌, ◌++◌, Option, Some, None, eqb, leb, length, get_or}
use Rattle.words.specs.Choice.{pick, both, every}
use Rattle.text.specs.Parts.{comma, split, part}
use Rattle.text.specs.declared.Command.{Command}
use Rattle.text.specs.declared.Command.TheVariants.{Sizes, Starts, Views, Turns}

-- the digits 0 to 9 are the bytes 48 to 57
abbrev pub is_digit : ℕ → Bool
is_digit b = both (leb 48 b) (leb b 57)

-- "numbers are decimal, 1 to 4 digits, no leading zero except 0"
unfoldable pub is_number : List ℕ → Bool
is_number f =
    both (both (leb 1 (length f)) (leb (length f) 4))
    (both (every is_digit f) (pick (eqb (length f) 1) true (not (eqb (get_or f 0 0) 48))))

-- the number n with the digits of f behind it
unfoldable pub value_from : ℕ → List ℕ → ℕ
value_from n [] = n
value_from n (b ∷ f) = value_from (n * 10 + (b - 48)) f

-- the number that the digits of f stand for
abbrev pub number_of : List ℕ → ℕ
number_of f = value_from 0 f

-- the number that a field is, where it is one
abbrev pub number : List ℕ → Option ℕ
number f = pick (is_number f) (Some (number_of f)) None

-- "A field is handed on as the part of the line between two commas."
abbrev pub field : ℕ → List ℕ → List ℕ
field n line = part n (split comma line)

-- the number that field n of the line is, where it is one
abbrev pub number_at : ℕ → List ℕ → Option ℕ
number_at n line = number (field n line)

-- how many fields a line has
abbrev pub field_count : List ℕ → ℕ
field_count line = length (split comma line)

-- a field is the one letter x
unfoldable pub is_letter : ℕ → List ℕ → Bool
is_letter x f = both (eqb (length f) 1) (eqb (get_or f 0 0) x)

-- fields 1 to n of the line are numbers
unfoldable pub all_numbers : ℕ → List ℕ → Bool
all_numbers zero line = true
all_numbers (suc n) line = both (all_numbers n line) (is_number (field (suc n) line))

-- the line has n numbers behind its first field
abbrev pub has_numbers : ℕ → List ℕ → Bool
has_numbers n line = both (eqb (field_count line) (suc n)) (all_numbers n line)

-- what fields 1 to n stand for
unfoldable pub values : ℕ → List ℕ → List ℕ
values zero line = []
values (suc n) line = values n line ++ (number_of (field (suc n) line) ∷ [])

-- the n numbers of a line that has so many
abbrev pub numbers : ℕ → List ℕ → Option (List ℕ)
numbers n line = pick (has_numbers n line) (Some (values n line)) None

-- a line with the letter x and three numbers
abbrev pub has_three : ℕ → List ℕ → Bool
has_three x line = both (is_letter x (field 0 line)) (has_numbers 3 line)

-- a line with the letter x and four numbers
abbrev pub has_four : ℕ → List ℕ → Bool
has_four x line = both (is_letter x (field 0 line)) (has_numbers 4 line)

-- a line with the letter x and one number
abbrev pub has_one : ℕ → List ℕ → Bool
has_one x line = both (is_letter x (field 0 line)) (has_numbers 1 line)

-- "then c,worker,row,column starts and t,worker turns", "A viewer's call, program line v,worker,row,column": the letters c, v and t are the bytes 99, 118 and 116
unfoldable pub later : List ℕ → Option Command
later line =
    pick (has_three 99 line)
    (Some (Starts (number_of (field 1 line)) (number_of (field 2 line)) (number_of (field 3 line))))
    (pick (has_three 118 line)
    (Some (Views (number_of (field 1 line)) (number_of (field 2 line)) (number_of (field 3 line))))
    (pick (has_one 116 line) (Some (Turns (number_of (field 1 line)))) None))

-- the sizes in a line with three or four numbers: without the fourth it has no viewers
unfoldable pub sizes : List ℕ → Option Command
sizes line =
    pick (has_numbers 3 line)
    (Some (Sizes (number_of (field 1 line)) (number_of (field 2 line)) (number_of (field 3 line)) 0))
    (pick (has_numbers 4 line)
    (Some (Sizes (number_of (field 1 line)) (number_of (field 2 line)) (number_of (field 3 line)) (number_of (field 4 line))))
    None)

-- "First line s,workers,limit,nodes ..", which "may end in a fifth field with that number; without it there are none": the letter s is byte 115. None: the line does not read
unfoldable pub command : List ℕ → Option Command
command line =
    pick (has_three 115 line)
    (Some (Sizes (number_of (field 1 line)) (number_of (field 2 line)) (number_of (field 3 line)) 0))
    (pick (has_four 115 line)
    (Some (Sizes (number_of (field 1 line)) (number_of (field 2 line)) (number_of (field 3 line)) (number_of (field 4 line))))
    (later line))
