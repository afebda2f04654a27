-- Request 06: what a turn of a viewer leaves and answers, over settings and memory of any content: it takes nothing, places nothing and moves no chain. And along a sequence it holds nothing.
-- Relies on the operations' definitions and on the sequence.
use Rattle.std.specs.Prelude.{ℕ, ◌<◌, ◌≡◌, true, List}
use Rattle.settings.specs.Sizes.{views}
use Rattle.settings.specs.declared.Settings.{Settings}
use Rattle.areas.specs.Memory.{Areas}
use Rattle.record.specs.declared.Answer.{Answer}
use Rattle.record.specs.declared.Answer.TheVariants.{Nothing, Open, Found, Absent}
use Rattle.rules.specs.Operations.{Result, record_of, opening, turn}
use Rattle.rules.specs.Lists.{after}
use Rattle.rules.specs.Calls.{Event, state_after}

-- the answers to a viewer: a refusal has none
pub data ToViewer : Answer → Type 0 where
  refused : ToViewer Nothing
  stays_open : ToViewer Open
  found : (n : ℕ) → ToViewer (Found n)
  absent : ToViewer Absent

-- where the settings were s and the areas a
pub record OnlyLooks (s : Settings) (a : Areas) (r : Result) : Type 0 where
  -- excludes: a viewer's call that ends "new"; one that is told "full" where no node is left
  pub answers : ToViewer r.reply.answer
  -- excludes: a viewer that takes a node or a level; one that fills the next node without taking it
  pub settings_stay : r.reply.settings ≡ s
  pub nodes_stay : r.areas.nodes ≡ a.nodes
  pub levels_stay : r.areas.levels ≡ a.levels

-- every turn of a viewer
abbrev pub ViewersLook : ℕ → Type 0
ViewersLook w = (s : Settings) (i : ℕ) (a : Areas) → views s i ≡ true → OnlyLooks s a (turn w s i a)

-- "absent" is a viewer's answer alone
-- excludes: a placing call that ends "absent" where no node is left; one whose Tail ends "absent" at the limit
abbrev pub AbsentToViewers : ℕ → Type 0
AbsentToViewers w = (s : Settings) (i : ℕ) (a : Areas) → (turn w s i a).reply.answer ≡ Absent → views s i ≡ true

-- in every state that a sequence reaches a viewer holds no node and no level
-- excludes: a viewer whose "absent" leaves a node spare in its record; one whose "found" leaves a level there
abbrev pub HoldsNothing : ℕ → Settings → Type 0
HoldsNothing w s =
    (a : Areas) → (opening w s a).reply.number ≡ 0
    → (es : List Event) (i : ℕ) → i < s.workers → views s i ≡ true
    → ((record_of (state_after w es (after (opening w s a))).areas i).head.held_node ≡ 0)
    × ((record_of (state_after w es (after (opening w s a))).areas i).head.held_level ≡ 0)
