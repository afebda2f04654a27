-- Demand 1 as statements over the operations, for every input: which number is given in which case, and what a refusal changes.
-- Relies on the operations' definitions and on the order of questions.
use Rattle.std.specs.Prelude.{ℕ, ◌≡◌, ◌≢◌, Bool, true, false, not, List, [], ◌∷◌, ◌++◌}
use Rattle.words.specs.Choice.{Question, every}
use Rattle.settings.specs.declared.Settings.{Settings}
use Rattle.areas.specs.Memory.{Areas}
use Rattle.rules.specs.Operations.{Result, refused, opening, opening_questions, start, start_questions, turn, turn_questions, full, last_answer, last_questions}
use Rattle.rules.specs.Lists.{state, after, Visit, visits, met_six, turns_done, list_questions, turns}

-- question n is the first in the list that is answered no
pub data FirstNo (n : ℕ) : List Question → Type 0 where
  here : {q : Question} {qs : List Question} → q.number ≡ n → q.yes ≡ false → FirstNo n (q ∷ qs)
  later : {q : Question} {qs : List Question} → q.yes ≡ true → FirstNo n qs → FirstNo n (q ∷ qs)

-- every question is answered yes
abbrev pub AllYes : List Question → Type 0
AllYes qs = every (λ q. q.yes) qs ≡ true

-- two statements that hold in the same cases
abbrev pub Iff : Type 0 → Type 0 → Type 0
Iff A B = (A → B) × (B → A)

-- "the number is the answer when it is no": each number in exactly its own case
pub record Numbered (qs : List Question) (r : Result) : Type 0 where
  pub carried : Iff (r.reply.number ≡ 0) (AllYes qs)
  pub refusal : (n : ℕ) → n ≢ 0 → Iff (r.reply.number ≡ n) (FirstNo n qs)

-- opening, start, last answer: "A refusal gives its number, the settings as they came, and unchanged memory."
pub record Refuses (qs : List Question) (s : Settings) (a : Areas) (r : Result) : Type 0 where
  pub numbered : Numbered qs r
  pub unchanged : r.reply.number ≢ 0 → (r ≡ refused r.reply.number s a) × (after r ≡ state s a)

-- a turn: the same, and "Number 9 alone makes the worker idle with answer "full"."
pub record RefusesTurn (w : ℕ) (s : Settings) (i : ℕ) (a : Areas) : Type 0 where
  pub numbered : Numbered (turn_questions w s i a) (turn w s i a)
  pub unchanged : (turn w s i a).reply.number ≢ 0 → (turn w s i a).reply.number ≢ 9 → (turn w s i a ≡ refused (turn w s i a).reply.number s a) × (after (turn w s i a) ≡ state s a)
  pub full-ends : (turn w s i a).reply.number ≡ 9 → (turn w s i a ≡ full s i a) × ((turn w s i a).reply.settings ≡ s)

-- a list of turns that met 6: the entries before it, and the entry that met it, which changed nothing
pub record MetSix (w : ℕ) (s : Settings) (l : List ℕ) (limit : ℕ) (a : Areas) : Type 0 where
  pub before : List Visit
  pub last : Visit
  pub reached : visits w l limit (state s a) ≡ before ++ last ∷ []
  pub six : met_six w last ≡ true
  pub none_before : every (λ v. not (met_six w v)) before ≡ true
  pub left : after (turns w s l limit a) ≡ last.before
  pub done : (turns w s l limit a).reply.turns ≡ turns_done w before

-- a list of turns: 0 exactly when questions 1 to 4 are answered yes and no entry reached meets 6; 1 to 4 as above and before any turn; 6 exactly when an entry meets it; no other number
pub record RefusesList (w : ℕ) (s : Settings) (l : List ℕ) (limit : ℕ) (a : Areas) : Type 0 where
  pub carried : Iff ((turns w s l limit a).reply.number ≡ 0) (AllYes (list_questions w s l a) × (every (λ v. not (met_six w v)) (visits w l limit (state s a)) ≡ true))
  pub refusal : (n : ℕ) → n ≢ 0 → n ≢ 6 → Iff ((turns w s l limit a).reply.number ≡ n) (FirstNo n (list_questions w s l a))
  pub unchanged : (turns w s l limit a).reply.number ≢ 0 → (turns w s l limit a).reply.number ≢ 6 → (turns w s l limit a ≡ refused (turns w s l limit a).reply.number s a) × (after (turns w s l limit a) ≡ state s a)
  pub six : Iff ((turns w s l limit a).reply.number ≡ 6) (AllYes (list_questions w s l a) × MetSix w s l limit a)

-- Demand 1: every operation, over settings and memory of any content
pub record Demand1 (w : ℕ) : Type 0 where
  pub of_opening : (s : Settings) (a : Areas) → Refuses (opening_questions w s a) s a (opening w s a)
  pub of_start : (s : Settings) (looks : Bool) (i row column : ℕ) (a : Areas) → Refuses (start_questions w s looks i row column a) s a (start w s looks i row column a)
  pub of_turn : (s : Settings) (i : ℕ) (a : Areas) → RefusesTurn w s i a
  pub of_turns : (s : Settings) (l : List ℕ) (limit : ℕ) (a : Areas) → RefusesList w s l limit a
  pub of_last : (s : Settings) (i : ℕ) (a : Areas) → Refuses (last_questions w s i a) s a (last_answer w s i a)
