-- "The flagged count becomes the number of nodes that can be reached from the root.": what a count gives, over what is reached.
-- Relies on rules for what is reached, on reach for a reference that names nothing taken and for questions 1 to 3.
use Rattle.std.specs.Prelude.{ℕ, ◌<◌, ◌≡◌, ◌≢◌, Result, Ok, Err, length}
use mathlib.Core.List.{List, [], ◌∷◌, Memᴰ}
use Rattle.words.specs.Choice.{first_no}
use Rattle.settings.specs.declared.Settings.{Settings}
use Rattle.settings.specs.declared.Refusal.{Refusal}
use Rattle.settings.specs.Refusals.{refusal_no}
use Rattle.areas.specs.Memory.{Memory, node_ref}
use Rattle.rules.specs.Reached.{Reached}
use Rattle.reach.specs.Reachable.{Dangling}
use Rattle.reach.specs.Reading.{questions_of}

-- a list of numbers that fall: each stands in it once
pub data Falling : List ℕ → Type 0 where
  none : Falling []
  one : {i : ℕ} → Falling (i ∷ [])
  more : {i j : ℕ} {l : List ℕ} → j < i → Falling (j ∷ l) → Falling (i ∷ j ∷ l)

-- c is "the number of nodes that can be reached from the root": the length of a list that has each of them once, and nothing else. Nodes are counted by their number,
-- so two nodes with one pixel are two, and one whose pixel word holds no pixel is one: both are in spoiled memory alone
pub record ReachedCount (w : ℕ) (m : Memory) (c : ℕ) : Type 0 where
  pub list : List ℕ
  -- excludes: a walk that counts the nodes of a ring with each round; one that counts a node for each reference to it
  pub once : Falling list
  -- excludes: a count of pixels, where two nodes hold one; a walk by entries alone, which misses a node that hangs by a previous word
  pub all : (i : ℕ) → Reached w m (node_ref i) → Memᴰ i list
  -- excludes: nodes taken, spare nodes among them; a count of the taken nodes that hold a pixel
  pub only : (i : ℕ) → Memᴰ i list → Reached w m (node_ref i)
  pub counts : length list ≡ c

-- what a count gives: the number of the refusal or 0, and the flagged count, else 0
pub record Count : Type 0 where
  pub number : ℕ
  pub count : ℕ

-- the same by its parts
abbrev pub count : ℕ → ℕ → Count
count n c = record { number = n; count = c }

-- what the code gives, as these two numbers
abbrev pub told : Result ℕ Refusal → Count
told (Ok c) = count 0 c
told (Err r) = count (refusal_no r) 0

-- what is given: one case for each number
pub data Counted (w : ℕ) (s : Settings) (m : Memory) : Count → Type 0 where
  -- questions 1 to 3
  refused : {n : ℕ} → n ≢ 0 → first_no (questions_of w s m) ≡ n → Counted w s m (count n 0)
  -- 6 as a listing gives it: "if a reference reached from the root names nothing taken, and only then"
  dangling : first_no (questions_of w s m) ≡ 0 → Dangling w s m → Counted w s m (count 6 0)
  -- the number of reached nodes
  counted : {c : ℕ} → first_no (questions_of w s m) ≡ 0 → ¬ (Dangling w s m) → ReachedCount w m c → Counted w s m (count 0 c)

-- settings and memory fix what is given: there is a count, and only one. `Counted` is a relation because `Reached` is one
abbrev pub OneCount : Type 0
OneCount = (s : Settings) (m : Memory) → (r : Count) × Counted s.width s m r × ((r' : Count) → Counted s.width s m r' → r' ≡ r)
