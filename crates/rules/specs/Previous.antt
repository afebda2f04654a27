-- "previous words never change, so this is private": a level that is reached stays reached, with its previous word and its depth.
-- Relies on the sequence of starts and turns, and on what is reached.
use Rattle.std.specs.Prelude.{ℕ, ◌≡◌, List}
use Rattle.settings.specs.declared.Settings.{Settings}
use Rattle.areas.specs.Memory.{Areas, Memory, level_ref, previous_at, depth_at}
use Rattle.rules.specs.Operations.{opening, memory_of}
use Rattle.rules.specs.Lists.{State, after}
use Rattle.rules.specs.Reached.{Reached}
use Rattle.rules.specs.Calls.{Event, state_after}

-- what stays of level g from the memory m to m'
-- excludes: a machine that fills a level which others can reach anew, with another previous level or depth; one that gives a level back after its chain has moved
pub record Stays (w : ℕ) (m m' : Memory) (g : ℕ) : Type 0 where
  pub previous_stays : previous_at w m'.levels g ≡ previous_at w m.levels g
  pub depth_stays : depth_at w m'.levels g ≡ depth_at w m.levels g
  pub reached_stays : Reached w m' (level_ref g)

-- from the state x on, after any events, over any events more
abbrev pub LevelsStay : ℕ → State → Type 0
LevelsStay w x =
    (before more : List Event) (g : ℕ) → Reached w (memory_of (state_after w before x).areas) (level_ref g) → Stays w (memory_of (state_after w before x).areas) (memory_of (state_after w more (state_after w before x)).areas) g

-- for every carried out opening
abbrev pub PreviousStays : ℕ → Settings → Type 0
PreviousStays w s = (a : Areas) → (opening w s a).reply.number ≡ 0 → LevelsStay w (after (opening w s a))
