-- "One "next" .. gives the smallest reachable pixel number above the last one given, or "end"": its answer and the place after it, over what is reached.
-- Relies on reach for reachable pixels, a reference that names nothing taken, and questions 1 to 3.
use Rattle.std.specs.Prelude.{ℕ, ◌+◌, ◌≤◌, ◌<◌, ◌≡◌, Option, None, Some, Result, Ok, Err}
use Rattle.words.specs.Choice.{first_no}
use Rattle.words.specs.Digits.{max_pixel}
use Rattle.settings.specs.declared.Settings.{Settings}
use Rattle.settings.specs.declared.Refusal.{Refusal}
use Rattle.settings.specs.declared.Refusal.TheVariants.{Memory as Dangles, Place}
use Rattle.settings.specs.Refusals.{refusal_no}
use Rattle.areas.specs.Memory.{Memory}
use Rattle.reach.specs.Reachable.{Dangling, Reachable}
use Rattle.reach.specs.Reading.{questions_of}
use Rattle.listing.specs.declared.Listing.{Listing}

-- "a place that is not start, end or a pixel number": a place is one number (the team's), 0 for "start", p + 1 for pixel p, and this one for "end"
abbrev pub end_place : ℕ
end_place = max_pixel + 2

-- pixel p lies above the place
abbrev pub Above : ℕ → ℕ → Type 0
Above place p = place ≤ p

-- what a "next" gives: a pixel number, "end" where there is none, or a refusal
abbrev pub Given : Type 0
Given = Result (Option ℕ) Refusal

-- the same with the place after it
pub record Moved : Type 0 where
  pub given : Given
  pub place : ℕ

abbrev pub moved : Given → ℕ → Moved
moved a place = record { given = a; place = place }

-- a "next" at a place by what the code gives: a refusal leaves the record that was handed in
abbrev pub moved_from : ℕ → Result (Option ℕ × Listing) Refusal → Moved
moved_from place (Ok (a, after)) = moved (Ok a) after.place
moved_from place (Err r) = moved (Err r) place

-- p is "the smallest reachable pixel number above" the place
pub record Smallest (w : ℕ) (m : Memory) (place p : ℕ) : Type 0 where
  pub reachable : Reachable w m p
  pub above : Above place p
  pub least : (q : ℕ) → Reachable w m q → Above place q → p ≤ q

-- no reachable pixel lies above the place
abbrev pub NoneAbove : ℕ → Memory → ℕ → Type 0
NoneAbove w m place = (q : ℕ) → Reachable w m q → ¬ (Above place q)

-- what a "next" at a place gives: one case for each answer. A refusal leaves the place as it was.
pub data Next (w : ℕ) (s : Settings) (m : Memory) (place : ℕ) : Moved → Type 0 where
  -- questions 1 to 3
  refused : {r : Refusal} → first_no (questions_of w s m) ≡ refusal_no r → Next w s m place (moved (Err r) place)
  -- "It refuses with 11, asked after question 3, a place that is not start, end or a pixel number."
  no_place : first_no (questions_of w s m) ≡ 0 → end_place < place → Next w s m place (moved (Err Place) place)
  -- "its 6 is given if a reference reached from the root names nothing taken, and only then", at "end" too
  dangling : first_no (questions_of w s m) ≡ 0 → place ≤ end_place → Dangling w s m → Next w s m place (moved (Err Dangles) place)
  -- "the smallest reachable pixel number above the last one given"
  given : {p : ℕ} → first_no (questions_of w s m) ≡ 0 → ¬ (Dangling w s m) → Smallest w m place p → Next w s m place (moved (Ok (Some p)) (p + 1))
  -- "or "end""
  ended : first_no (questions_of w s m) ≡ 0 → place ≤ end_place → ¬ (Dangling w s m) → NoneAbove w m place → Next w s m place (moved (Ok None) end_place)

-- settings, memory and place fix what is given: there is an answer, and only one, so that `Next` is the equation of what is given with a function of them. It is a
-- relation because `Reached` is one: no definition can ask it as a test
abbrev pub OneAnswer : Type 0
OneAnswer =
    (s : Settings) (m : Memory) (place : ℕ) → (r : Moved) × Next s.width s m place r × ((r' : Moved) → Next s.width s m place r' → r' ≡ r)
