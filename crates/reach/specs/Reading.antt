-- Questions 1 to 3 of the operations that read nodes and levels alone.
-- Relies on settings for the questions.
use Rattle.std.specs.Prelude.{ℕ, ◌*◌, Bool, List, [], ◌∷◌, leb, length}
use Rattle.words.specs.Choice.{both, Question, asks}
use Rattle.settings.specs.declared.Settings.{Settings}
use Rattle.settings.specs.Sizes.{node_words, level_words, level_count, question1, question3}
use Rattle.areas.specs.Memory.{Memory}

-- "Does each area have all its words?", asked of the two areas that are read (n, g: the words lent for nodes and levels)
unfoldable pub question2_read : ℕ → Settings → ℕ → ℕ → Bool
question2_read w s n g = both (leb (node_words * s.nodes) n) (leb (level_words w * level_count w s) g)

-- the first questions of an operation that reads nodes and levels alone
unfoldable pub reading_questions : ℕ → Settings → ℕ → ℕ → List Question
reading_questions w s n g = asks 1 (question1 s) ∷ asks 2 (question2_read w s n g) ∷ asks 3 (question3 w s) ∷ []

-- the same of a memory
abbrev pub questions_of : ℕ → Settings → Memory → List Question
questions_of w s m = reading_questions w s (length m.nodes) (length m.levels)
