-- The parts of a text: lines end in byte 10, fields are parted by commas.
-- Relies on words for the choice by a test.
use Rattle.std.specs.Prelude.{ℕ, zero, suc, List, [], ◌∷◌, eqb}
use Prim.Native.Char.{code}
use Prim.Native.String.{String, [] as none, ◌∷◌ as ◌then◌}
use Rattle.words.specs.Choice.{pick}

-- the bytes of a word in ASCII
unfoldable pub ascii : String → List ℕ
ascii none = []
ascii (c then s) = code c ∷ ascii s

-- "Lines end in byte 10. Fields are parted by commas"
abbrev pub line_end : ℕ
line_end = 10

-- the byte of a comma
abbrev pub comma : ℕ
comma = 44

-- one byte more at the front of the first part
unfoldable pub longer : ℕ → List (List ℕ) → List (List ℕ)
longer x [] = (x ∷ []) ∷ []
longer x (p ∷ ps) = (x ∷ p) ∷ ps

-- the parts of a text between the bytes b: one more than there are such bytes
unfoldable pub split : ℕ → List ℕ → List (List ℕ)
split b [] = [] ∷ []
split b (x ∷ l) = pick (eqb x b) ([] ∷ split b l) (longer x (split b l))

-- part n, from 0; empty where there is none
unfoldable pub part : ℕ → List (List ℕ) → List ℕ
part n [] = []
part zero (p ∷ ps) = p
part (suc n) (p ∷ ps) = part n ps
