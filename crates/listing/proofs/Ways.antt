-- The ways through the functions of listing, one law for each: from what the calls give to what the function ensures.
-- Relies on Least.
use mathlib.Core.Path.{◌≡◌, sym}
use mathlib.Core.Bool.{false}
use mathlib.Core.List.{List}
use Prim.Native.Nat.{ℕ, ◌+◌, ◌≤◌, ◌<◌}
use Rattle.std.specs.Prelude.{Option, None, Some, Ok, Err}
use Rattle.words.specs.Choice.{first_no}
use Rattle.settings.specs.declared.Settings.{Settings}
use Rattle.settings.specs.declared.Refusal.{Refusal}
use Rattle.settings.specs.declared.Refusal.TheVariants.{Place}
use Rattle.settings.specs.Refusals.{refusal_no}
use Rattle.areas.specs.Memory.{memory}
use Rattle.reach.specs.Marked.{Marked, Fits, things}
use Rattle.reach.specs.Reading.{questions_of}
use Rattle.reach.proofs.Reading.{reading_wide, reading_fits}
use Rattle.listing.specs.Cut.{least_of, SeenFrom}
use Rattle.listing.specs.Next.{Next, refused, no_place, dangling, given, ended, moved, end_place}
use Rattle.listing.proofs.Least.{seen}

module _ {w : ℕ} {s : Settings} {marks : List ℕ} (nodes levels : List ℕ) where
  pub seen_steps :
      (place : ℕ) {o : Option ℕ} → o ≡ least_of nodes marks place s.nodes_taken → Marked w s (memory nodes levels) false marks → Fits s things
      → SeenFrom w s (memory nodes levels) place (Ok o)
  seen_steps place e X F = rw e (seen place X F)

module _ (s : Settings) (nodes levels : List ℕ) where
  pub next_refused : (place : ℕ) (r : Refusal) → refusal_no r ≡ first_no (questions_of s.width s (memory nodes levels)) → Next s.width s (memory nodes levels) place (moved (Err r) place)
  next_refused place r e = refused (sym e)

  module _ (z : 0 ≡ first_no (questions_of s.width s (memory nodes levels))) where
    module _ (place : ℕ) where
      pub next_no_place : end_place < place → Next s.width s (memory nodes levels) place (moved (Err Place) place)
      next_no_place l = no_place (sym z) l

      module _ (l : place ≤ end_place) where
        pub next_dangling : (r : Refusal) → SeenFrom s.width s (memory nodes levels) place (Err r) → Next s.width s (memory nodes levels) place (moved (Err r) place)
        next_dangling r (e, d) = rw e (dangling (sym z) l d)

        pub next_given : (p : ℕ) → SeenFrom s.width s (memory nodes levels) place (Ok (Some p)) → Next s.width s (memory nodes levels) place (moved (Ok (Some p)) (p + 1))
        next_given p (d, S) = given (sym z) d S

        pub next_ended : SeenFrom s.width s (memory nodes levels) place (Ok None) → Next s.width s (memory nodes levels) place (moved (Ok None) end_place)
        next_ended (d, n) = ended (sym z) l d n

pub ruleset ways_of_next = (next_refused, reading_wide, reading_fits, next_no_place, next_dangling, next_given, next_ended)
