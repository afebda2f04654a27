-- The ways through the functions of counting, one law for each: from what the calls give to what the function ensures.
-- Relies on Marking.
use mathlib.Core.Path.{◌≡◌, refl, sym}
use mathlib.Core.Bool.{true, false}
use mathlib.Core.List.{List}
use Prim.Native.Nat.{ℕ, ◌≤◌}
use lib.ListN.{length}
use Rattle.words.specs.Choice.{first_no}
use Rattle.settings.specs.declared.Settings.{Settings}
use Rattle.settings.specs.declared.Refusal.{Refusal}
use Rattle.settings.specs.declared.Refusal.TheVariants.{Memory}
use Rattle.settings.specs.Refusals.{refusal_no}
use Rattle.settings.specs.Sizes.{max_nodes}
use Rattle.areas.specs.Memory.{memory}
use Rattle.reach.specs.Marked.{Marked, Fits, things}
use Rattle.reach.specs.Reading.{questions_of}
use Rattle.reach.proofs.Reading.{reading_wide, reading_fits}
use Rattle.settings.proofs.Refusals.{refusal_positive}
use Rattle.counting.specs.Cut.{marked_among}
use Rattle.counting.specs.Count.{count, Counted, refused}
use Rattle.counting.proofs.Marking.{marked_six, marked_count}

module _ (s : Settings) (nodes levels : List ℕ) where
  pub count_refused : (r : Refusal) → refusal_no r ≡ first_no (questions_of s.width s (memory nodes levels)) → Counted s.width s (memory nodes levels) (count (refusal_no r) 0)
  count_refused r e = refused (refusal_positive r) (sym e)

  -- the search behind questions 1 to 3
  module _ (z : 0 ≡ first_no (questions_of s.width s (memory nodes levels))) where
    count_fits : Fits s things
    count_fits = reading_fits s (length nodes) (length levels) z

    pub count_nodes : s.nodes_taken ≤ max_nodes
    count_nodes = count_fits.nodes

    module _ {marks : List ℕ} where
      pub count_six : (r : Refusal) → (r ≡ Memory) × Marked s.width s (memory nodes levels) true marks → Counted s.width s (memory nodes levels) (count (refusal_no r) 0)
      count_six r (e, X) = rw e (marked_six X count_fits (sym z) refl)

      pub count_given :
          {c : ℕ} → c ≡ marked_among marks s.nodes_taken → Marked s.width s (memory nodes levels) false marks
          → Counted s.width s (memory nodes levels) (count 0 c)
      count_given q X = rw q (marked_count X count_fits (sym z) refl)

pub ruleset ways_of_flagged = (count_refused, reading_wide, reading_fits, count_nodes, count_six, count_given)
