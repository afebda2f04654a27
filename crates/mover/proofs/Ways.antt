-- SetFollow's way back in the code: the head that it gives is the definition's.
-- Relies on steps for the way.
use mathlib.Core.Path.{◌≡◌, refl}
use mathlib.Core.Bool.{Bool, true, false}
use mathlib.Core.List.{List}
use Prim.Native.Nat.{ℕ}
use Rattle.std.specs.Prelude.{Some}
use Rattle.words.specs.Choice.{pick}
use Rattle.settings.specs.declared.Settings.{Settings}
use Rattle.areas.specs.Memory.{is_node}
use Rattle.record.specs.declared.Head.{Head}
use Rattle.rules.specs.Steps.{more}
use Rattle.steps.specs.Cut.{back_cut}
use Rattle.steps.proofs.Back.{child_is}
use Rattle.mover.specs.Cut.{met_head, follow_head}

module _ (w : ℕ) (s : Settings) (h : Head) (word : ℕ) (levels : List ℕ) {c : ℕ} (e : Some c ≡ back_cut w s.levels_taken h.level word levels) where
  by_word : (q : Bool) → is_node word ≡ q → met_head h (more s h.count) c word ≡ follow_head w s h word levels
  unfolding met_head follow_head pick
  by_word true n = simp n
  by_word false n = simp (n, child_is w s.levels_taken h.level word levels e n)

  pub followed : met_head h (more s h.count) c word ≡ follow_head w s h word levels
  followed = by_word (is_node word) refl
