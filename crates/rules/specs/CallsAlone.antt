-- Placing calls of one worker, each run to its end before the next starts: they answer as a plain list of pixels does.
-- Relies on the run of a call alone.
use Rattle.std.specs.Prelude.{ℕ, suc, ◌<◌, ◌≡◌, Bool, true, false, List, [], ◌∷◌, ◌++◌, eqb, ltb, length, get_or}
use Rattle.words.specs.Choice.{pick}
use Rattle.words.specs.Digits.{pixel_number}
use Rattle.settings.specs.Sizes.{views}
use Rattle.settings.specs.declared.Settings.{Settings}
use Rattle.areas.specs.Memory.{Areas}
use Rattle.record.specs.declared.Answer.{Answer}
use Rattle.record.specs.declared.Answer.TheVariants.{New, Found, Full}
use Rattle.rules.specs.Asked.{question5}
use Rattle.rules.specs.Operations.{Result, opening, start}
use Rattle.rules.specs.Lists.{State, after}
use Rattle.rules.specs.Refusals.{Iff}
use Rattle.rules.specs.Consequences.{Shown}
use Rattle.rules.specs.Alone.{run_alone, alone_turns}

-- row and column
abbrev pub Place : Type 0
Place = ℕ × ℕ

-- the place of the first equal pixel in the list; the list's length where there is none
unfoldable pub index_of : ℕ → List ℕ → ℕ
index_of p [] = 0
index_of p (q ∷ l) = pick (eqb q p) 0 (suc (index_of p l))

-- the pixel is in the list
unfoldable pub listed : ℕ → List ℕ → Bool
listed p l = ltb (index_of p l) (length l)

-- the answer of a list of at most `nodes` pixels: "found" at its place, "new" at the next place, "full" where there is none
unfoldable pub flat_answer : ℕ → List ℕ → ℕ → Answer
flat_answer nodes l p = pick (listed p l) (Found (index_of p l)) (pick (ltb (length l) nodes) (New (length l)) Full)

-- the list after it
unfoldable pub flat_next : ℕ → List ℕ → ℕ → List ℕ
flat_next nodes l p = pick (listed p l) l (pick (ltb (length l) nodes) (l ++ (p ∷ [])) l)

-- the answers to several pixels, one after the other
unfoldable pub flat_answers : ℕ → List ℕ → List Place → List Answer
flat_answers nodes l [] = []
flat_answers nodes l (p ∷ ps) = flat_answer nodes l (pixel_number p.0 p.1) ∷ flat_answers nodes (flat_next nodes l (pixel_number p.0 p.1)) ps

-- the list after all of them
unfoldable pub flat_last : ℕ → List ℕ → List Place → List ℕ
flat_last nodes l [] = l
flat_last nodes l (p ∷ ps) = flat_last nodes (flat_next nodes l (pixel_number p.0 p.1)) ps

-- a call of worker i run to its end, with at most n turns
unfoldable pub call_alone : ℕ → ℕ → ℕ → Place → State → Result
call_alone w n i p x = run_alone w n i (after (start w x.settings false i p.0 p.1 x.areas))

-- the answers of calls that each run to their end before the next starts
unfoldable pub answers_alone : ℕ → ℕ → ℕ → List Place → State → List Answer
answers_alone w n i [] x = []
answers_alone w n i (p ∷ ps) x = (call_alone w n i p x).reply.answer ∷ answers_alone w n i ps (after (call_alone w n i p x))

-- the state after all of them
unfoldable pub last_alone : ℕ → ℕ → ℕ → List Place → State → State
last_alone w n i [] x = x
last_alone w n i (p ∷ ps) x = last_alone w n i ps (after (call_alone w n i p x))

-- the table shows the list: pixel m of it at node m, and no other
pub record ShowsList (w : ℕ) (x : State) (l : List ℕ) : Type 0 where
  pub count : x.settings.nodes_taken ≡ length l
  pub shows : (q m : ℕ) → Iff (Shown w x q m) ((m < length l) × (get_or l m 0 ≡ q))

-- rows and columns in range
unfoldable pub AllInside : List Place → Type 0
AllInside [] = Unit {0}
AllInside (p ∷ ps) = (question5 p.0 p.1 ≡ true) × AllInside ps

-- the calls of worker i, which is no viewer, for the places ps, from the state x that an opening with the settings s left
pub record ListLike (w : ℕ) (s : Settings) (x : State) (i : ℕ) (ps : List Place) : Type 0 where
  -- excludes: a call that is answered with another node than the pixel's place in order of arrival
  pub answers : answers_alone w (alone_turns w s) i ps x ≡ flat_answers s.nodes [] ps
  pub table : ShowsList w (last_alone w (alone_turns w s) i ps x) (flat_last s.nodes [] ps)

abbrev pub CallsStatement : ℕ → Settings → Type 0
CallsStatement w s =
    (a : Areas) → (opening w s a).reply.number ≡ 0
    → (i : ℕ) → i < s.workers → views s i ≡ false → (ps : List Place) → AllInside ps → ListLike w s (after (opening w s a)) i ps
