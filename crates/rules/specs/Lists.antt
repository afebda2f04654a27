-- A list of turns: the entries that are reached, the state after them, and the number of turns done.
-- Relies on the definition of one turn.
use Rattle.std.specs.Prelude.{ℕ, zero, suc, ◌+◌, Bool, not, List, [], ◌∷◌, eqb}
use Rattle.words.specs.Choice.{pick, both, every, Question, asks, first_no}
use Rattle.settings.specs.Sizes.{question1, question3}
use Rattle.settings.specs.declared.Settings.{Settings}
use Rattle.areas.specs.Memory.{Areas}
use Rattle.record.specs.declared.Answer.TheVariants.{Nothing}
use Rattle.rules.specs.Asked.{question4_all, question8}
use Rattle.rules.specs.Operations.{Result, result_of, reply, unless_refused, question2_of, record_of, turn}

-- the settings and the areas between two operations
pub record State : Type 0 where
  pub settings : Settings
  pub areas : Areas

-- a state by its parts
abbrev pub state : Settings → Areas → State
state s a = record { settings = s; areas = a }

-- what an operation leaves to the next one: "the settings and areas that the one before gave back and left"
abbrev pub after : Result → State
after r = state r.reply.settings r.areas

-- an entry of the list that is reached, with the state that it finds
pub record Visit : Type 0 where
  pub worker : ℕ
  pub before : State

-- a visit by its parts
abbrev pub visit : ℕ → State → Visit
visit i x = record { worker = i; before = x }

-- the turn at a visited entry
abbrev pub turn_at : ℕ → Visit → Result
turn_at w v = turn w v.before.settings v.worker v.before.areas

-- the turns that may still be done: "Entries of idle workers are skipped"; "ends .. at a 6"; each turn done, "full" included, counts down
unfoldable pub left_after : ℕ → ℕ → ℕ
left_after number n = pick (eqb number 6) 0 (pick (eqb number 8) (suc n) n)

-- the entries reached: "It ends at the list's end, once as many turns are done as the limit, or at a 6"
unfoldable pub visits : ℕ → List ℕ → ℕ → State → List Visit
visits w [] n x = []
visits w (i ∷ l) zero x = []
visits w (i ∷ l) (suc n) x =
    visit i x ∷ visits w l (left_after (turn_at w (visit i x)).reply.number n) (after (turn_at w (visit i x)))

-- the state after the entries reached: "the turns before that stay, in the settings also"
unfoldable pub end_state : ℕ → State → List Visit → State
end_state w x [] = x
end_state w x (v ∷ vs) = end_state w (after (turn_at w v)) vs

-- the turn at the entry gives 6
unfoldable pub met_six : ℕ → Visit → Bool
met_six w v = eqb (turn_at w v).reply.number 6

-- "the entries reached whose worker had a call open, "full" included, the one that met 6 not"
unfoldable pub counts : ℕ → Visit → Bool
counts w v = both (question8 (record_of v.before.areas v.worker)) (not (met_six w v))

-- "the number of turns done"
unfoldable pub turns_done : ℕ → List Visit → ℕ
turns_done w [] = 0
turns_done w (v ∷ vs) = pick (counts w v) 1 0 + turns_done w vs

-- "or at a 6, which it gives too"
unfoldable pub list_number : ℕ → List Visit → ℕ
list_number w vs = pick (every (λ v. not (met_six w v)) vs) 0 6

-- what a list gives: its number, the turns done, and the settings and areas after the last entry reached
unfoldable pub turns_result : ℕ → State → List Visit → Result
turns_result w x vs =
    result_of (reply (list_number w vs) Nothing (turns_done w vs) (end_state w x vs).settings) (end_state w x vs).areas

-- a list of turns: questions 1 to 4, before any entry
unfoldable pub list_questions : ℕ → Settings → List ℕ → Areas → List Question
list_questions w s l a =
    asks 1 (question1 s) ∷ asks 2 (question2_of w s a) ∷ asks 3 (question3 w s) ∷ asks 4 (question4_all s l) ∷ []

-- a list of turns with its limit
unfoldable pub turns : ℕ → Settings → List ℕ → ℕ → Areas → Result
turns w s l limit a =
    unless_refused (first_no (list_questions w s l a)) s a (turns_result w (state s a) (visits w l limit (state s a)))
