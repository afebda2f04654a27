-- What leafdrum_next gives, and the place that it leaves in the record: a "next" with its answer as numbers.
-- Relies on listing for what a "next" gives.
use Rattle.std.specs.Prelude.{ℕ, ◌≡◌, None, Some, Ok, Err}
use Rattle.settings.specs.declared.Settings.{Settings}
use Rattle.settings.specs.Refusals.{refusal_no}
use Rattle.areas.specs.Memory.{Memory}
use Rattle.listing.specs.Next.{Given, Next, moved}
use Rattle.export.specs.declared.LeafdrumGiven.{LeafdrumGiven}

-- the number of the refusal or 0; 0 refused, 1 a pixel, 2 "end" (the team's numbers); the pixel, else 0
abbrev pub given_numbers : Given → LeafdrumGiven
given_numbers (Err r) = record { number = refusal_no r; answer = 0; pixel = 0 }
given_numbers (Ok (Some p)) = record { number = 0; answer = 1; pixel = p }
given_numbers (Ok None) = record { number = 0; answer = 2; pixel = 0 }

-- at a place, g is what a "next" gives, in numbers, and after is the place that it leaves
pub record NextShown (w : ℕ) (s : Settings) (m : Memory) (place : ℕ) (g : LeafdrumGiven) (after : ℕ) : Type 0 where
  pub answer : Given
  -- excludes: a record that stays where it was; one that is moved by a refusal
  pub is_next : Next w s m place (moved answer after)
  -- excludes: "end" told as a pixel; a pixel that is given with its place's number
  pub in_numbers : g ≡ given_numbers answer
