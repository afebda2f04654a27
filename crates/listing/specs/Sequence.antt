-- Listings among starts and turns: "One "next" is a whole operation between two turns", and each listing's record is moved by its own "next" alone.
-- Relies on Next for one answer, on rules for sequences.
use Rattle.std.specs.Prelude.{ℕ, ◌+◌, ◌<◌, ◌≡◌, Bool, false, None, Some, Ok, Err, List, [], ◌∷◌, ◌++◌, eqb}
use Rattle.words.specs.Choice.{pick, both}
use Rattle.settings.specs.declared.Settings.{Settings}
use Rattle.settings.specs.Refusals.{outcome_no}
use Rattle.areas.specs.Memory.{Areas}
use Rattle.rules.specs.Operations.{opening, memory_of}
use Rattle.rules.specs.Lists.{State, after}
use Rattle.rules.specs.Calls.{Event, state_after, Book, Holds}
use Rattle.rules.specs.Demands.{Row}
use Rattle.rules.specs.Refusals.{Iff}
use Rattle.reach.specs.Reachable.{Reachable}
use Rattle.listing.specs.Next.{Given, Moved, Next, Above, end_place}

-- a start or a turn, or a "next" of listing k with what it gave and its place after it. There are any number of listings: each number names one.
pub data Step : Type 0 where
  event : Event → Step
  next : ℕ → Moved → Step

-- the starts and turns of a sequence
unfoldable pub events_in : List Step → List Event
events_in [] = []
events_in (event e ∷ rest) = e ∷ events_in rest
events_in (next k m ∷ rest) = events_in rest

-- the state that a sequence leaves: ""Next" changes no word of the table"
abbrev pub state_at : ℕ → State → List Step → State
state_at w x steps = state_after w (events_in steps) x

-- the place of listing k after a sequence that it began at a place
unfoldable pub place_after : ℕ → ℕ → List Step → ℕ
place_after k place [] = place
place_after k place (event e ∷ rest) = place_after k place rest
place_after k place (next j m ∷ rest) = place_after k (pick (eqb j k) m.place place) rest

-- every listing is at "start" at first. One that begins later is one whose first "next" comes later.
abbrev pub place_of : ℕ → List Step → ℕ
place_of k steps = place_after k 0 steps

-- every "next" gives what Next says of the state and the place that it finds. The code's is at the width of the settings that it is handed, which along a sequence stays
-- w (`width-stays` of demand 3)
abbrev pub Answered : ℕ → State → List Step → Type 0
Answered w x steps =
    (before : List Step) (k : ℕ) (m : Moved) (rest : List Step) → steps ≡ before ++ next k m ∷ rest
    → Next w (state_at w x before).settings (memory_of (state_at w x before).areas) (place_of k before) m

-- what is given is pixel p
unfoldable pub is_pixel : ℕ → Given → Bool
is_pixel p (Ok (Some q)) = eqb q p
is_pixel p (Ok None) = false
is_pixel p (Err r) = false

-- how many times pixel p comes in listing k
unfoldable pub times : ℕ → ℕ → List Step → ℕ
times k p [] = 0
times k p (event e ∷ rest) = times k p rest
times k p (next j m ∷ rest) = pick (both (eqb j k) (is_pixel p m.given)) 1 0 + times k p rest

-- listing k comes to its "end"
pub record Ends (k : ℕ) (steps : List Step) : Type 0 where
  pub before : List Step
  pub last : Moved
  pub rest : List Step
  pub cut : steps ≡ before ++ next k last ∷ rest
  pub is_end : last.given ≡ Ok None

-- pixel p can be reached in this state
abbrev pub Shows : ℕ → State → ℕ → Type 0
Shows w x p = Reachable w (memory_of x.areas) p

-- event e places pixel p: it can be reached after it and could not before. That is document 01's "placed", to stand in the book (PlacedStatement)
pub record Places (w : ℕ) (x : State) (e : Event) (p : ℕ) : Type 0 where
  pub not_before : ¬ (Shows w x p)
  pub after_it : Shows w (state_after w (e ∷ []) x) p

-- what holds of every listing k of a sequence from a state x that a carried out opening left
pub record ListingMeets (w : ℕ) (x : State) (k : ℕ) (steps : List Step) : Type 0 where
  -- excludes: a "next" that gives 6 amid a Move; one that refuses a place that it gave
  pub carried : (before : List Step) (m : Moved) (rest : List Step) → steps ≡ before ++ next k m ∷ rest → outcome_no m.given ≡ 0
  -- the place is that of the pixel given, or "end"
  -- excludes: a place that goes ahead to the next pixel, so that one placed between is missed; one that stays where it was
  pub moves_on :
      (before : List Step) (m : Moved) (rest : List Step) → steps ≡ before ++ next k m ∷ rest
      → ((p : ℕ) → m.given ≡ Ok (Some p) → m.place ≡ p + 1) × (m.given ≡ Ok None → m.place ≡ end_place)
  -- "pixels that could be reached when the listing began come exactly once": it is at "start", and comes to its "end"
  -- excludes: a walk by entries alone, which leaves out a node that hangs by a previous word amid a Move; a "next" that gives the first pixel found instead of the smallest
  pub once :
      (before rest : List Step) → steps ≡ before ++ rest → place_of k before ≡ 0 → Ends k steps → (p : ℕ) → Shows w (state_at w x before) p → times k p steps ≡ 1
  -- "rising"
  -- excludes: a "next" that gives the smallest of all pixels whatever its place; one that begins anew after a pixel is placed
  pub rising :
      (before : List Step) (m : Moved) (between : List Step) (m' : Moved) (rest : List Step) → steps ≡ before ++ next k m ∷ between ++ next k m' ∷ rest
      → (p q : ℕ) → m.given ≡ Ok (Some p) → m'.given ≡ Ok (Some q) → p < q
  -- "A pixel placed meanwhile comes if it lies above the place when it is placed"
  -- excludes: a listing of the pixels that could be reached when it began; one that passes over a pixel placed behind a level that it had searched
  pub meanwhile :
      (before : List Step) (e : Event) (rest : List Step) → steps ≡ before ++ event e ∷ rest → Ends k steps → (p : ℕ) → Places w (state_at w x before) e p
      → Above (place_of k before) p → times k p steps ≡ 1
  -- "and otherwise doesn't"
  -- excludes: a "next" that turns back for a smaller pixel; one that gives a pixel before its node can be reached
  pub passed :
      (before : List Step) (e : Event) (rest : List Step) → steps ≡ before ++ event e ∷ rest → (p : ℕ) → Places w (state_at w x before) e p
      → ¬ (Above (place_of k before) p) → times k p steps ≡ 0
  -- "after "end" nothing comes"
  -- excludes: a "next" that begins anew after "end"; one that gives a pixel that was placed after "end"
  pub over :
      (before : List Step) (m : Moved) (between : List Step) (m' : Moved) (rest : List Step) → steps ≡ before ++ next k m ∷ between ++ next k m' ∷ rest
      → m.given ≡ Ok None → m'.given ≡ Ok None
  -- and only pixels that can be reached then come
  -- excludes: a "next" that gives the pixel of a spare node; one that gives a node's words before they are filled
  pub only_shown :
      (before : List Step) (m : Moved) (rest : List Step) → steps ≡ before ++ next k m ∷ rest → (p : ℕ) → m.given ≡ Ok (Some p) → Shows w (state_at w x before) p

-- "In a sequence from a fresh table, with the record moved by "next" alone": for every carried out opening and every listing
abbrev pub ListingStatement : ℕ → Settings → Type 0
ListingStatement w s =
    (a : Areas) → (opening w s a).reply.number ≡ 0 → (steps : List Step) → Answered w (after (opening w s a)) steps
    → (k : ℕ) → ListingMeets w (after (opening w s a)) k steps

-- pixel p has a node in the book
abbrev pub InBook : Book → ℕ → Type 0
InBook b p = (n : ℕ) × Holds b p n

-- what an event places enters the book with it: for every row of the calls before and every row of those after
abbrev pub PlacedStatement : Type 0
PlacedStatement =
    (w : ℕ) (x : State) (es : List Event) (e : Event) (before : Row w x es) (then : Row w x (es ++ e ∷ [])) (p : ℕ)
    → Iff (Places w (state_after w es x) e p) ((¬ (InBook before.book p)) × InBook then.book p)
