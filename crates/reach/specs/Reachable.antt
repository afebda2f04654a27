-- What the operations that read a table say over what is reached: a reference that names nothing taken, and a pixel that can be reached.
-- Relies on rules for what is reached, on areas for references.
use Rattle.std.specs.Prelude.{ℕ, ◌≤◌, ◌≡◌, false}
use Rattle.words.specs.Digits.{max_pixel}
use Rattle.settings.specs.declared.Settings.{Settings}
use Rattle.areas.specs.Memory.{Memory, node_ref, pixel_at, ref_taken}
use Rattle.rules.specs.Reached.{Reached}

-- "a reference reached from the root names nothing taken"
pub record Dangling (w : ℕ) (s : Settings) (m : Memory) : Type 0 where
  pub reference : ℕ
  pub reached : Reached w m reference
  pub names_nothing : ref_taken s reference ≡ false

-- "reachable pixel number": a reached node holds it. A pixel word above the greatest pixel number holds no pixel.
pub record Reachable (w : ℕ) (m : Memory) (p : ℕ) : Type 0 where
  pub node : ℕ
  pub reached : Reached w m (node_ref node)
  pub holds : pixel_at m.nodes node ≡ p
  pub is_pixel_number : p ≤ max_pixel
