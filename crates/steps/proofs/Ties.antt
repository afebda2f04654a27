-- The code's cut of Level is the step that the definitions say, over any width.
-- Relies on words for the choice by a test, on rules for the steps.
use mathlib.Core.Path.{◌≡◌, refl}
use mathlib.Core.Bool.{Bool, true, false}
use mathlib.Core.List.{List}
use Prim.Native.Nat.{ℕ, ◌+◌}
use lib.Dec.{eqb}
use Rattle.words.specs.Choice.{pick}
use Rattle.settings.specs.declared.Settings.{Settings}
use Rattle.areas.specs.Memory.{Memory, memory}
use Rattle.record.specs.declared.Kind.{Kind}
use Rattle.record.specs.declared.Head.{Head}
use Rattle.record.specs.declared.Move.{Move}
use Rattle.rules.specs.Heads.{holding_level}
use Rattle.rules.specs.Steps.{going, with_level, take_level}
use Rattle.steps.specs.Cut.{level_no, level_counted, take_level_cut}

-- two choices by one test are one choice
pub pick_alongside {ℓ κ ι} :
    {A : Type ℓ} {B : Type κ} {C : Type ι} (f : A → B → C) (b : Bool) (x y : A) (u v : B) → pick b (f x u) (f y v) ≡ f (pick b x y) (pick b u v)
unfolding pick
pick_alongside f true x y u v = refl
pick_alongside f false x y u v = refl

module _ (w : ℕ) (s : Settings) (h : Head) (ms : List Move) (m : Memory) where
  -- Level, SetLevel
  pub take-level_cut :
      (k : Kind)
      → take_level w k s h ms m
      ≡ going (level_counted s h.held_level) (holding_level k ((take_level_cut w s.levels_taken h.held_level h.level m.levels).level + 1) h) ms
      (memory m.nodes (take_level_cut w s.levels_taken h.held_level h.level m.levels).levels)
  unfolding take_level with_level level_counted level_no take_level_cut
  take-level_cut k = pick_alongside (λ (t : Settings) (g : ℕ). with_level w k t h ms g m) (eqb h.held_level 0) _ _ _ _
