-- The ten kinds of turn of a search ("Turns of a call for pixel K"). A searching worker has no Move.
-- Relies on the steps that searching and moving share.
use Rattle.record.specs.declared.Kind.{Kind}
use Rattle.std.specs.Prelude.{ℕ, ◌-◌, List, [], Bool, true, eqb}
use Rattle.words.specs.Choice.{pick, both}
use Rattle.words.specs.Digits.{last_depth}
use Rattle.settings.specs.declared.Settings.{Settings}
use Rattle.areas.specs.Memory.{Memory, node_ref, is_node, named, pixel_at, next_at, entry_cell, cell_at}
use Rattle.areas.specs.declared.Cell.{Cell}
use Rattle.areas.specs.declared.Cell.TheVariants.{Next}
use Rattle.record.specs.declared.Kind.TheVariants.{Look, Take, Put, Read, Tail, TakeTail, Append, Level, Close, Follow}
use Rattle.record.specs.declared.Answer.TheVariants.{New, Found, Absent}
use Rattle.record.specs.declared.Head.{Head}
use Rattle.record.specs.Kinds.{kind_no}
use Rattle.rules.specs.Heads.{to_level, to_node, ended}
use Rattle.rules.specs.Steps.{Step, step, going, peeked, by_count, more, take_node, take_level, exchanging, closed, child_of}

-- K's entry in H
unfoldable pub entry_of : ℕ → Head → List ℕ → Cell
entry_of w h levels = entry_cell w levels h.level h.pixel

-- "Done: ends "new"."
abbrev pub ends_new : Settings → Head → Memory → Step
ends_new s h m = step (New (h.held_node - 1)) s (ended 1 (h.held_node - 1) 0 h) [] m

-- Put and Append: "exchange the entry from H to the node."
unfoldable pub placed : ℕ → (ℕ → Memory → Step) → Settings → Head → Cell → Memory → Step
placed w failed s h x m = exchanging w h x (node_ref (h.held_node - 1)) (ends_new s h) failed m

-- "Node R with pixel K: ends "found". Other node: Tail" with count c
unfoldable pub met_node : Settings → Head → ℕ → ℕ → Memory → Step
met_node s h c i m =
    pick (eqb (pixel_at m.nodes i) h.pixel)
    (step (Found i) s (ended 2 i h.held_node h) [] m)
    (going s (to_node Tail i c h) [] m)

-- what Read and Follow do with the word that they met: c is the count at a node, g the level to look at
unfoldable pub met : Settings → Head → ℕ → ℕ → ℕ → Memory → Step
met s h c g word m = pick (is_node word) (met_node s h c (named word) m) (going s (to_level Look g h) [] m)

-- Read's word: "Level: Look there."
unfoldable pub read_word : Settings → Head → ℕ → Memory → Step
read_word s h word m = met s h 1 (named word) word m

-- Follow's word: "Other node: Tail, count + 1. Level: go back by previous words until the one whose previous is H, and Look there"
unfoldable pub follow_word : ℕ → Settings → Head → ℕ → Memory → Step
follow_word w s h word m = met s h (more s h.count) (child_of w m.levels (last_depth w) h.level (named word)) word m

-- Take and TakeTail
unfoldable pub takes_node : Kind → Bool
takes_node k = pick (eqb (kind_no k) 2) true (eqb (kind_no k) 6)

-- Take, TakeTail or Level comes next: what a placing call goes on to where its pixel is not there
unfoldable pub takes_next : Kind → Bool
takes_next k = pick (takes_node k) true (eqb (kind_no k) 8)

-- the next kind is that of a peeked head; a viewer (v): "Where a worker would go to Take, TakeTail or Level, it ends "absent""
unfoldable pub viewed : Bool → Settings → Head → Memory → Step
viewed v s h m = pick (both v (takes_next h.kind)) (step Absent s (ended 5 0 h.held_node h) [] m) (going s h [] m)

-- "Look (level H): read K's entry. H: Take. Otherwise: Read."
unfoldable pub look : ℕ → Bool → Settings → Head → Memory → Step
look w v s h m = viewed v s (peeked h (cell_at w m (entry_of w h m.levels)) Take Read) m

-- "Take: use the spare node, else the next number .. Write K and next = H. Then Put."
unfoldable pub take : Settings → Head → Memory → Step
take s h m = take_node Put s h m

-- "Put: exchange the entry from H to the node."; document 02: "After a failed Put the call acts on that word as Read does, in the same turn"
unfoldable pub put : ℕ → Settings → Head → Memory → Step
put w s h m = placed w (read_word s h) s h (entry_of w h m.levels) m

-- "Read: read the entry again."
unfoldable pub read : ℕ → Settings → Head → Memory → Step
read w s h m = read_word s h (cell_at w m (entry_of w h m.levels)) m

-- "Tail: read R's next. H and count below the limit: TakeTail. H and count at the limit: Level. Else: Follow."
unfoldable pub tail : ℕ → Bool → Settings → Head → Memory → Step
tail w v s h m = viewed v s (peeked h (next_at m.nodes h.node) (by_count s h.count TakeTail Level Follow) Follow) m

-- "TakeTail, Append: as Take and Put, on R's next"
unfoldable pub take_tail : Settings → Head → Memory → Step
take_tail s h m = take_node Append s h m

-- Append: exchange R's next from H to the node; document 02: "after a failed Append or Close as Follow does"
unfoldable pub append : ℕ → Settings → Head → Memory → Step
append w s h m = placed w (follow_word w s h) s h (Next h.node) m

-- "Level: take the spare level, else the next number; write previous H, depth + 1, entries to itself. Then Close."
unfoldable pub level : ℕ → Settings → Head → Memory → Step
level w s h m = take_level w Close s h [] m

-- "Close: exchange R's next from H to the new level G. Done: Move H's chain to G, then Look at G."; document 02: "after a failed Append or Close as Follow does"
unfoldable pub close : ℕ → Settings → Head → Memory → Step
close w s h m = closed w (follow_word w s h) s h [] m

-- "Follow: read R's next again."
unfoldable pub follow : ℕ → Settings → Head → Memory → Step
follow w s h m = follow_word w s h (next_at m.nodes h.node) m
