-- Parts of a text as the code finds them, by the first byte b. They follow the code's cut and are tied to the parts by lemmas.
-- Relies on words for the choice by a test.
use Rattle.std.specs.Prelude.{ℕ, Bool, true, false, List, [], ◌∷◌, eqb}
use Rattle.words.specs.Choice.{pick}

-- before the first byte b, or all
unfoldable pub up_to : ℕ → List ℕ → List ℕ
up_to b [] = []
up_to b (x ∷ l) = pick (eqb x b) [] (x ∷ up_to b l)

-- behind the first byte b, or nothing
unfoldable pub past : ℕ → List ℕ → List ℕ
past b [] = []
past b (x ∷ l) = pick (eqb x b) l (past b l)

unfoldable pub has : ℕ → List ℕ → Bool
has b [] = false
has b (x ∷ l) = pick (eqb x b) true (has b l)
