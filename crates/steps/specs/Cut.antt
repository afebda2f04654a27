-- Level in the parts that the code hands over, numbers, settings and the levels; the way back; the Moves once one has begun. They follow the code's cut and
-- are tied to the definitions by lemmas. Relies on rules for the steps.
use Rattle.std.specs.Prelude.{ℕ, ◌+◌, ◌-◌, List, ◌∷◌, eqb, Option, Some, None}
use Rattle.words.specs.Choice.{pick}
use Rattle.settings.specs.declared.Settings.{Settings}
use Rattle.words.specs.Digits.{last_depth}
use Rattle.areas.specs.Memory.{is_node, named, depth_at, fill_level}
use Rattle.record.specs.declared.Move.{Move}
use Rattle.record.specs.Layout.{new_move}
use Rattle.rules.specs.Steps.{took_level, child_of, back_meets}

-- Level, SetLevel: the number of the level that is taken, and the levels
pub record LevelCut : Type 0 where
  pub level : ℕ
  pub levels : List ℕ

abbrev pub level_cut : ℕ → List ℕ → LevelCut
level_cut g l = record { level = g; levels = l }

-- the spare level, else the next number
unfoldable pub level_no : ℕ → ℕ → ℕ
level_no taken held = pick (eqb held 0) taken (held - 1)

-- the next number counts, a spare one was counted before
unfoldable pub level_counted : Settings → ℕ → Settings
level_counted s held = pick (eqb held 0) (took_level s) s

unfoldable pub take_level_cut : ℕ → ℕ → ℕ → ℕ → List ℕ → LevelCut
take_level_cut w taken held level l = level_cut (level_no taken held) (fill_level w l (level_no taken held) level (depth_at w l level + 1))

-- Follow, SetFollow: the level to go on at where going back from level t meets the worker's level, n previous words being read at most
unfoldable pub walk_within : ℕ → ℕ → List ℕ → ℕ → ℕ → ℕ → Option ℕ
walk_within w taken l n level t = pick (back_meets w taken l n level t) (Some (child_of w l n level t)) None

-- as many as the last depth says
abbrev pub walk_cut : ℕ → ℕ → ℕ → ℕ → List ℕ → Option ℕ
walk_cut w taken level t l = walk_within w taken l (last_depth w) level t

-- of the word met; of a node nothing is asked
unfoldable pub back_cut : ℕ → ℕ → ℕ → ℕ → List ℕ → Option ℕ
back_cut w taken level word l = pick (is_node word) (Some 0) (walk_cut w taken level (named word) l)

-- the Moves once a Move from level g to level c has begun, or none has
abbrev pub begun : ℕ → Option ℕ → List Move → List Move
begun g None ms = ms
begun g (Some c) ms = new_move g c ∷ ms
