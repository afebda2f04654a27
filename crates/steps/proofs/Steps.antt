-- The number of a level that is taken, in the code: its bounds, over any width.
-- Relies on settings for bounds.
use mathlib.Core.Path.{◌≡◌, ap}
use mathlib.Core.List.{List}
use Prim.Native.Nat.{ℕ, ◌+◌, ◌≤◌}
use lib.Dec.{eqb}
use native.Mathlib.Omega.{arith}
use mir.Syntax.{w32}
use mir.Val.{Fits}
use Rattle.words.proofs.Choice.{pick-both}
use Rattle.settings.specs.Sizes.{most_levels}
use Rattle.steps.specs.Cut.{LevelCut, level_cut, level_no, take_level_cut}

-- it is in range
module _ (taken held : ℕ) where
  pub number_most : {g : ℕ} → g ≡ level_no taken held → taken ≤ most_levels → held ≤ most_levels → g ≤ most_levels
  unfolding level_no
  number_most a t n = rw a (pick-both (λ (g : ℕ). g ≤ most_levels) (eqb held 0) (λ e. t) (λ e. omega arith))

  module _ (w level : ℕ) (levels : List ℕ) where
    -- so is the number + 1, by which it is held
    pub taken-fits : {g : ℕ} {l : List ℕ} → level_cut g l ≡ take_level_cut w taken held level levels → taken ≤ most_levels → held ≤ most_levels → Fits w32 (g + 1)
    unfolding take_level_cut
    taken-fits {g} a t n = let b : g ≤ most_levels = number_most (ap (λ (c : LevelCut). c.level) a) t n in record { fits = omega arith }
