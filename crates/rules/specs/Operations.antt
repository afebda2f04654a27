-- The operations: opening, start, one turn, last answer. Each answers with the number of the first no of its questions, else is carried out.
-- Relies on the questions and on what a turn does.
use Rattle.std.specs.Prelude.{ℕ, Bool, List, [], ◌∷◌, eqb, length}
use Rattle.words.specs.Choice.{pick, Question, asks, first_no}
use Rattle.words.specs.Digits.{pixel_number}
use Rattle.settings.specs.Sizes.{views, question1, question2, question3}
use Rattle.settings.specs.declared.Settings.{Settings}
use Rattle.areas.specs.Memory.{Areas, areas, Memory, memory}
use Rattle.record.specs.declared.Answer.{Answer}
use Rattle.record.specs.declared.Answer.TheVariants.{Nothing, Full, Open}
use Rattle.record.specs.declared.Reply.{Reply}
use Rattle.record.specs.declared.Head.{Head}
use Rattle.record.specs.Kinds.{kind_no, answer_of}
use Rattle.record.specs.Layout.{Record, record', load, store}
use Rattle.rules.specs.Opening.{opened_settings, opened_areas}
use Rattle.rules.specs.Heads.{started, ended}
use Rattle.rules.specs.Steps.{Step}
use Rattle.rules.specs.Acts.{act}
use Rattle.rules.specs.Asked.{question4, question5, question17, question6, question6_record, question7, question8, question9}

-- a statement over a width and settings, at the width that the settings give
abbrev pub AtWidth : (ℕ → Settings → Type 0) → Type 0
AtWidth P = (s : Settings) → P s.width s

-- what an operation gives back, and the areas that it leaves
pub record Result : Type 0 where
  pub reply : Reply
  pub areas : Areas

-- a result by its parts
abbrev pub result_of : Reply → Areas → Result
result_of r a = record { reply = r; areas = a }

-- a reply: number, answer, turns done, settings
abbrev pub reply : ℕ → Answer → ℕ → Settings → Reply
reply n a t s = record { number = n; answer = a; turns = t; settings = s }

-- "A refusal gives its number, the settings as they came, and unchanged memory."
abbrev pub refused : ℕ → Settings → Areas → Result
refused n s a = result_of (reply n Nothing 0 s) a

-- the answer is the first no, else the operation is carried out
unfoldable pub unless_refused : ℕ → Settings → Areas → Result → Result
unless_refused n s a done = pick (eqb n 0) done (refused n s a)

-- the nodes and levels of the areas, and the record of worker i
abbrev pub memory_of : Areas → Memory
memory_of a = memory a.nodes a.levels

-- the record of worker i
abbrev pub record_of : Areas → ℕ → Record
record_of a i = load a.workers i

-- question 2 of the areas' words
abbrev pub question2_of : ℕ → Settings → Areas → Bool
question2_of w s a = question2 w s (length a.nodes) (length a.levels) (length a.workers)

-- Opening: questions 1 and 2 ("an opening sets both and isn't asked" 3)
unfoldable pub opening_questions : ℕ → Settings → Areas → List Question
opening_questions w s a = asks 1 (question1 s) ∷ asks 2 (question2_of w s a) ∷ []

-- opening: the settings and areas that it leaves
unfoldable pub opening : ℕ → Settings → Areas → Result
opening w s a =
    unless_refused (first_no (opening_questions w s a)) s a (result_of (reply 0 Nothing 0 (opened_settings s)) (opened_areas w s a))

-- Start of a call of worker i for the pixel at row and column, placing or looking (looks)
unfoldable pub start_questions : ℕ → Settings → Bool → ℕ → ℕ → ℕ → Areas → List Question
start_questions w s looks i row column a =
    asks 1 (question1 s)
    ∷ asks 2 (question2_of w s a)
    ∷ asks 3 (question3 w s)
    ∷ asks 4 (question4 s i)
    ∷ asks 5 (question5 row column)
    ∷ asks 17 (question17 s looks i)
    ∷ asks 6 (question6_record w (views s i) s (record_of a i))
    ∷ asks 7 (question7 (record_of a i))
    ∷ []

-- the areas with another record of worker i
abbrev pub with_record : ℕ → Record → Areas → Areas
with_record i r a = areas a.nodes a.levels (store r i a.workers)

-- the worker stands before Look at the root
unfoldable pub started_areas : ℕ → ℕ → ℕ → Areas → Areas
started_areas i row column a = with_record i (record' (started (pixel_number row column) (record_of a i).head) []) a

-- start of a call: its answer is "open"
unfoldable pub start : ℕ → Settings → Bool → ℕ → ℕ → ℕ → Areas → Result
start w s looks i row column a =
    unless_refused (first_no (start_questions w s looks i row column a)) s a (result_of (reply 0 Open 0 s) (started_areas i row column a))

-- One turn of worker i
unfoldable pub turn_questions : ℕ → Settings → ℕ → Areas → List Question
turn_questions w s i a =
    asks 1 (question1 s)
    ∷ asks 2 (question2_of w s a)
    ∷ asks 3 (question3 w s)
    ∷ asks 4 (question4 s i)
    ∷ asks 6 (question6 w (views s i) s (record_of a i) (memory_of a))
    ∷ asks 8 (question8 (record_of a i))
    ∷ asks 9 (question9 s (record_of a i))
    ∷ []

-- a turn that is carried out: "A worker's record goes into a turn and comes out of it."
unfoldable pub taken : Step → ℕ → List ℕ → Result
taken t i workers =
    result_of (reply 0 t.answer 0 t.settings) (areas t.memory.nodes t.memory.levels (store t.record' i workers))

-- "Number 9 alone makes the worker idle with answer "full"."
unfoldable pub full_record : Head → Record
full_record h = record' (ended 3 0 h.held_node h) []

-- the call ends "full"
unfoldable pub full : Settings → ℕ → Areas → Result
full s i a = result_of (reply 9 Full 0 s) (with_record i (full_record (record_of a i).head) a)

-- one turn: refused, ended "full", or carried out
unfoldable pub turn : ℕ → Settings → ℕ → Areas → Result
turn w s i a =
    pick (eqb (first_no (turn_questions w s i a)) 9)
    (full s i a)
    (unless_refused (first_no (turn_questions w s i a)) s a (taken (act w (views s i) s (record_of a i) (memory_of a)) i a.workers))

-- Last answer of worker i: "gives "none" before a worker's first end and "open" during a call"
unfoldable pub last_questions : ℕ → Settings → ℕ → Areas → List Question
last_questions w s i a =
    asks 1 (question1 s)
    ∷ asks 2 (question2_of w s a)
    ∷ asks 3 (question3 w s)
    ∷ asks 4 (question4 s i)
    ∷ asks 6 (question6_record w (views s i) s (record_of a i))
    ∷ []

-- the answer that a record's head holds
unfoldable pub last_of : Head → Answer
last_of h = pick (eqb (kind_no h.kind) 0) (answer_of h.answer h.answer_node) Open

-- last answer: it changes nothing
unfoldable pub last_answer : ℕ → Settings → ℕ → Areas → Result
last_answer w s i a =
    unless_refused (first_no (last_questions w s i a)) s a (result_of (reply 0 (last_of (record_of a i).head) 0 s) a)
