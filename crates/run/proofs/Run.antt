-- The whole run: what is told from its beginning on is what document 01 has it print, and it comes to an end.
-- Relies on the ways through a stage.
use mathlib.Core.Path.{◌≡◌, refl, sym, ap, ◌∙◌}
use mathlib.Core.Bool.{Bool, true, false}
use mathlib.Core.List.{List, [], ◌∷◌}
use Prim.Native.Nat.{ℕ, ◌<◌}
use native.Mathlib.Omega.{arith}
use Rattle.words.proofs.Choice.{true_false}
use Rattle.areas.specs.Memory.{Areas}
use Rattle.printing.specs.declared.Printed.{Printed}
use Rattle.run.specs.declared.Stage.{Stage}
use Rattle.run.specs.declared.Stage.TheVariants.{Begin, TooLong, First, Lines, Last, Done}
use Rattle.run.specs.declared.Progress.{Progress}
use Rattle.run.specs.declared.Told.{Told}
use Rattle.run.specs.Program.{prints, spelled, lent}
use Rattle.run.specs.Remaining.{begun, remaining_at, remaining, left_at, left, can_stand_at, can_stand, Next, goes_on}
use Rattle.run.specs.Running.{Stop, Runs, printed_by, RunPrints, RunWrites}

-- at the beginning all is still to be printed
pub begins : (input : List ℕ) (a : Areas) → remaining begun input a ≡ prints input a
unfolding remaining_at
begins input a = refl

-- and the input allows it
begin_stands : (input : List ℕ) → can_stand begun input ≡ true
unfolding can_stand_at
begin_stands input = refl

-- where the run goes no further, nothing is
at_end : (g : Stage) (p : Progress) (input : List ℕ) (a : Areas) → goes_on g ≡ false → remaining_at g p input a ≡ []
unfolding remaining_at goes_on
at_end Begin p input a h = absurd (true_false h)
at_end TooLong p input a h = absurd (true_false h)
at_end First p input a h = absurd (true_false h)
at_end Lines p input a h = absurd (true_false h)
at_end Last p input a h = absurd (true_false h)
at_end Done p input a h = refl

-- what is told until then is what was still to be printed
tells_all : (ts : List Stop) (p : Progress) (input : List ℕ) (a : Areas) → can_stand p input ≡ true → Runs p input a ts → printed_by ts ≡ remaining p input a
unfolding Runs printed_by
tells_all [] p input a s h = sym (at_end p.stage p input a h)
tells_all (t ∷ ts) p input a s h =
    let x = h.1.prints h.0 s in
    ap (λ (l : List Printed). t.told.printed ∷ l) (tells_all ts t.told.progress input t.areas x.stands h.2) ∙ sym x.says

pub run-prints : RunPrints
run-prints input a ts h = tells_all ts begun input a (begin_stands input) h ∙ begins input a

-- the bytes that are written
pub run_writes : RunWrites
run_writes input ts h = ap spelled (run-prints input lent ts h)

-- where the run goes on, something is left
left_some : (g : Stage) (p : Progress) (input : List ℕ) → goes_on g ≡ true → 0 < left_at g p input
unfolding left_at goes_on
left_some Begin p input h = omega arith
left_some TooLong p input h = omega arith
left_some First p input h = omega arith
left_some Lines p input h = omega arith
left_some Last p input h = omega arith
left_some Done p input h = absurd (true_false (sym h))

-- a loop over what is told next ends, from wherever it begins
module _ (p : Progress) (input : List ℕ) (a : Areas) (b : Areas) (r : Told) {x : Bool} where
  pub run_less : Next p input a r b → x ≡ goes_on p.stage → x ≡ true → left r.progress input < left p input
  unfolding left_at
  run_less h e t = go (can_stand p input) refl
    where
      on : goes_on p.stage ≡ true
      on = sym e ∙ t

      go : (z : Bool) → can_stand p input ≡ z → left r.progress input < left p input
      go true z = (h.prints on z).less
      go false z = rw (h.nowhere z).0 (left_some p.stage p input on)
