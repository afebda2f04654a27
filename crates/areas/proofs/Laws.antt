-- The bound of a level's place, of which the code makes a product of two variables.
-- Relies on settings for sizes.
use Prim.Native.Nat.{ℕ, ◌*◌, ◌≤◌, ◌<◌}
use native.Mathlib.Nat.{mul-le-mul}
use native.Mathlib.Omega.{arith}
use Rattle.settings.specs.Sizes.{most_level_words}

pub level_most : {a g : ℕ} → a ≤ most_level_words → g < 4294967296 → a * g ≤ most_level_words * 4294967295
level_most {a} {g} p q = let r : g ≤ 4294967295 = omega arith in mul-le-mul p r
