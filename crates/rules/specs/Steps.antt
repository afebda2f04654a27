-- What searching and moving do alike at a cell, each said once: look at it, take a node or a level, exchange it, read it again.
-- Relies on areas for cells, on the private work on a record.
use Rattle.std.specs.Prelude.{ℕ, zero, suc, ◌+◌, ◌-◌, Bool, true, false, List, [], ◌∷◌, eqb, ltb, leb}
use Rattle.words.specs.Choice.{pick, both}
use Rattle.settings.specs.declared.Settings.{Settings}
use Rattle.areas.specs.Memory.{Memory, memory, level_ref, previous_at, depth_at, Exchanged, exchange, fill_node, fill_level}
use Rattle.areas.specs.declared.Cell.{Cell}
use Rattle.areas.specs.declared.Cell.TheVariants.{Next}
use Rattle.record.specs.declared.Kind.{Kind}
use Rattle.record.specs.declared.Kind.TheVariants.{ChainHead}
use Rattle.record.specs.declared.Answer.{Answer}
use Rattle.record.specs.declared.Answer.TheVariants.{Open}
use Rattle.record.specs.declared.Head.{Head}
use Rattle.record.specs.declared.Move.{Move}
use Rattle.record.specs.Layout.{Record, record', new_move}
use Rattle.rules.specs.Heads.{to, holding_node, holding_level}

-- what a turn leaves: answer ("open" where the call goes on), settings, the worker's record, nodes and levels
pub record Step : Type 0 where
  pub answer : Answer
  pub settings : Settings
  pub record' : Record
  pub memory : Memory

-- a step by its parts
abbrev pub step : Answer → Settings → Head → List Move → Memory → Step
step a s h ms m = record { answer = a; settings = s; record' = record' h ms; memory = m }

-- the call goes on
abbrev pub going : Settings → Head → List Move → Memory → Step
going s h ms m = step Open s h ms m

-- the word is a reference to the worker's level: to H in a search, to the level that N is set into in a Move
unfoldable pub expected : Head → ℕ → Bool
expected h word = eqb word (level_ref h.level)

-- Look, Tail, SetLook, SetTail: the next kind where the expected level stands in the cell, and the next kind otherwise
unfoldable pub peeked : Head → ℕ → Kind → Kind → Head
peeked h word here other = to (pick (expected h word) here other) h

-- "H and count below the limit: TakeTail. H and count at the limit: Level. Else: Follow."
unfoldable pub by_count : Settings → ℕ → Kind → Kind → Kind → Kind
by_count s c below full past = pick (ltb c s.limit) below (pick (eqb c s.limit) full past)

-- "A count past the limit stays at limit + 1."
unfoldable pub more : Settings → ℕ → ℕ
more s c = pick (leb c s.limit) (c + 1) (s.limit + 1)

-- one more node, one more level is taken: "taken in rising number"
unfoldable pub took_node : Settings → Settings
took_node s = record { workers = s.workers; limit = s.limit; nodes = s.nodes; nodes_taken = s.nodes_taken + 1; levels_taken = s.levels_taken; viewers = s.viewers; width = s.width }

-- the settings with one level more taken
unfoldable pub took_level : Settings → Settings
took_level s = record { workers = s.workers; limit = s.limit; nodes = s.nodes; nodes_taken = s.nodes_taken; levels_taken = s.levels_taken + 1; viewers = s.viewers; width = s.width }

-- Take, TakeTail: "Write K and next = H." Node i is filled, and in hand for the next kind
unfoldable pub with_node : Kind → Settings → Head → ℕ → Memory → Step
with_node k s h i m = going s (holding_node k (i + 1) h) [] (memory (fill_node m.nodes i h.pixel (level_ref h.level)) m.levels)

-- "use the spare node, else the next number" (that there is one is question 9)
unfoldable pub take_node : Kind → Settings → Head → Memory → Step
take_node k s h m =
    pick (eqb h.held_node 0)
    (with_node k (took_node s) h s.nodes_taken m)
    (with_node k s h (h.held_node - 1) m)

-- Level, SetLevel: "write previous H, depth + 1, entries to itself". Level g is filled, and in hand for the next kind
unfoldable pub with_level : ℕ → Kind → Settings → Head → List Move → ℕ → Memory → Step
with_level w k s h ms g m =
    going s (holding_level k (g + 1) h) ms
    (memory m.nodes (fill_level w m.levels g h.level (depth_at w m.levels h.level + 1)))

-- "take the spare level, else the next number" (that there is one is part of question 6)
unfoldable pub take_level : ℕ → Kind → Settings → Head → List Move → Memory → Step
take_level w k s h ms m =
    pick (eqb h.held_level 0)
    (with_level w k (took_level s) h ms s.levels_taken m)
    (with_level w k s h ms (h.held_level - 1) m)

-- Put, Append, Close and those of a Move: cell x is exchanged from the worker's level to b. Done: one step; failed: another, made of the word that it met.
-- What is in hand stays in the record and is spare then: "Failed: the node is now spare"
unfoldable pub exchanging : ℕ → Head → Cell → ℕ → (Memory → Step) → (ℕ → Memory → Step) → Memory → Step
exchanging w h x b done failed m =
    let e : Exchanged = exchange w m x (level_ref h.level) b in
    pick (expected h e.word) (done e.memory) (failed e.word e.memory)

-- "Done: Move H's chain to G"
abbrev pub begins_move : Settings → Head → List Move → Memory → Step
begins_move s h ms m = going s (holding_level ChainHead 0 h) (new_move h.level (h.held_level - 1) ∷ ms) m

-- Close, SetClose: "exchange R's next from H to the new level G."
unfoldable pub closed : ℕ → (ℕ → Memory → Step) → Settings → Head → List Move → Memory → Step
closed w failed s h ms m = exchanging w h (Next h.node) (level_ref (h.held_level - 1)) (begins_move s h ms) failed m

-- Follow, SetFollow: "go back by previous words until the one whose previous is H"; n previous words may be read
unfoldable pub child_of : ℕ → List ℕ → ℕ → ℕ → ℕ → ℕ
child_of w levels zero g t = t
child_of w levels (suc n) g t = pick (eqb (previous_at w levels t) g) t (child_of w levels n g (previous_at w levels t))

-- whether it is met, each previous word on the way naming a taken level: a number below that of the levels taken
unfoldable pub back_meets : ℕ → ℕ → List ℕ → ℕ → ℕ → ℕ → Bool
back_meets w taken levels zero g t = false
back_meets w taken levels (suc n) g t =
    pick (eqb (previous_at w levels t) g)
    true
    (both (ltb (previous_at w levels t) taken) (back_meets w taken levels n g (previous_at w levels t)))
