-- The search of a memory of any content that passes questions 1 to 3, carried on to its end: there is an answer with its marks, whatever the code does.
-- Relies on Exact for what a search tells that does not go on, on Reading for its room.
use mathlib.Core.Path.{◌≡◌, sym}
use mathlib.Core.Bool.{Bool, false}
use mathlib.Core.List.{List}
use Prim.Native.Nat.{ℕ}
use lib.ListN.{length}
use borrow.Author.Tests.{le-ltb}
use Rattle.words.specs.Choice.{both, first_no}
use Rattle.settings.specs.declared.Settings.{Settings}
use Rattle.areas.specs.Memory.{Memory}
use Rattle.reach.specs.Cut.{Search, goes_on, rounds}
use Rattle.reach.specs.Marked.{Marked, Fits, things}
use Rattle.reach.specs.Reading.{questions_of}
use Rattle.reach.proofs.Exact.{count-le, rounds_done, tells_reached}
use Rattle.reach.proofs.Reading.{reading_fits}

-- what is found out, by its parts
pub record Whole (s : Settings) (m : Memory) : Type 0 where
  pub dangling : Bool
  pub marks : List ℕ
  pub room : Fits s things
  pub tells : Marked s.width s m dangling marks

-- after as many rounds as there can be things
pub whole : (s : Settings) (m : Memory) → first_no (questions_of s.width s m) ≡ 0 → Whole s m
unfolding goes_on both
whole s m z = record { dangling = end.dangling; marks = end.marks; room = room; tells = tells_reached room end things (rounds_done room things) over }
  where
    room : Fits s things
    room = reading_fits s (length m.nodes) (length m.levels) (sym z)

    end : Search
    end = rounds s.width s m things things

    over : goes_on end things ≡ false
    over = simp (le-ltb things (length end.queue) (count-le room (rounds_done {w = s.width} {m = m} room things).holds))
