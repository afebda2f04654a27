-- Request 06: "Striking all viewers' starts and turns from a sequence leaves every other worker's answers, all nodes and all levels the same."
-- Relies on the operations and on the sequence of starts and turns.
use Rattle.std.specs.Prelude.{ℕ, ◌*◌, ◌-◌, ◌≤◌, ◌<◌, ◌≡◌, ◌⊎◌, Bool, List, [], ◌∷◌, get_or, length}
use Rattle.words.specs.Choice.{pick, both}
use Rattle.settings.specs.Sizes.{worker_words, views}
use Rattle.settings.specs.declared.Settings.{Settings}
use Rattle.areas.specs.Memory.{Areas}
use Rattle.rules.specs.Asked.{question4}
use Rattle.rules.specs.Operations.{opening}
use Rattle.rules.specs.Lists.{State, after}
use Rattle.rules.specs.Calls.{Event, starts, turns, Happened, history, state_after}

-- the worker of an event
unfoldable pub worker_of : Event → ℕ
worker_of (starts looks i row column) = i
worker_of (turns i) = i

-- the event names a viewer of the table
unfoldable pub of_viewer : Settings → Event → Bool
of_viewer s e = both (question4 s (worker_of e)) (views s (worker_of e))

-- "Striking all viewers' starts and turns from a sequence", carried out and refused ones alike
unfoldable pub struck : Settings → List Event → List Event
struck s [] = []
struck s (e ∷ es) = pick (of_viewer s e) (struck s es) (e ∷ struck s es)

-- the same of what happened
unfoldable pub struck_from : Settings → List Happened → List Happened
struck_from s [] = []
struck_from s (h ∷ hs) = pick (of_viewer s h.event) (struck_from s hs) (h ∷ struck_from s hs)

-- two states that differ at most in the viewers' words, which are the last of the workers'
pub record Alike (s : Settings) (x y : State) : Type 0 where
  pub settings_same : y.settings ≡ x.settings
  pub nodes_same : y.areas.nodes ≡ x.areas.nodes
  pub levels_same : y.areas.levels ≡ x.areas.levels
  pub size_same : length y.areas.workers ≡ length x.areas.workers
  pub words_same : (k : ℕ) → (k < worker_words * (s.workers - s.viewers)) ⊎ (worker_words * s.workers ≤ k) → get_or y.areas.workers k 0 ≡ get_or x.areas.workers k 0

pub record Striking (w : ℕ) (s : Settings) (x : State) (es : List Event) : Type 0 where
  -- "every other worker's answers": all that their starts and turns gave back
  -- excludes: a viewer that takes a node; one whose turn moves a chain
  pub replies : history w (struck s es) x ≡ struck_from s (history w es x)
  -- "all nodes and all levels", and the settings and the other workers' words
  -- excludes: a viewer that fills the next node without taking it; one that writes into an idle worker's record
  pub states : Alike s (state_after w es x) (state_after w (struck s es) x)

-- for every carried out opening with the settings s and every sequence of starts and turns
abbrev pub StrikingStatement : ℕ → Settings → Type 0
StrikingStatement w s = (a : Areas) → (opening w s a).reply.number ≡ 0 → (es : List Event) → Striking w s (after (opening w s a)) es
