-- The twelve kinds of turn of a Move of H's chain to G: v is the innermost Move, os are those around it, N the node v remembered last.
-- Relies on the steps that searching and moving share.
use Rattle.std.specs.Prelude.{ℕ, List, [], ◌∷◌, eqb}
use Rattle.words.specs.Choice.{pick}
use Rattle.words.specs.Digits.{last_depth}
use Rattle.settings.specs.declared.Settings.{Settings}
use Rattle.areas.specs.Memory.{Memory, level_ref, node_ref, is_node, named, pixel_at, next_at, entry_cell, cell_at, set_cell}
use Rattle.areas.specs.declared.Cell.{Cell}
use Rattle.areas.specs.declared.Cell.TheVariants.{Next}
use Rattle.record.specs.declared.Kind.TheVariants.{Look, ChainNext, SetNext, SetLook, SetPut, SetRead, SetTail, SetAppend, SetLevel, SetClose, SetFollow, MoveEnd}
use Rattle.record.specs.declared.Head.{Head}
use Rattle.record.specs.declared.Move.{Move}
use Rattle.rules.specs.Heads.{to, to_level, to_node, last_node, remember, forget}
use Rattle.rules.specs.Steps.{Step, going, peeked, by_count, more, take_level, exchanging, closed, child_of}

-- the key of a Move: the call's pixel, and of "a Move inside this Move keyed by N's pixel" that of the outer N
unfoldable pub key_of : Head → List Move → List ℕ → ℕ
key_of h [] nodes = h.pixel
key_of h (o ∷ os) nodes = pixel_at nodes (last_node o)

-- the entry of the key in H
unfoldable pub home_cell : ℕ → Head → Move → List Move → Memory → Cell
home_cell w h v os m = entry_cell w m.levels v.home (key_of h os m.nodes)

-- "read N's entry in G": the entry of N in the level that it is set into
unfoldable pub set_cell_of : ℕ → Head → ℕ → Memory → Cell
set_cell_of w h n m = entry_cell w m.levels h.level (pixel_at m.nodes n)

-- "From the last to the first, each node N is set into G. Then the entry in H is written to G."
unfoldable pub set_last : Settings → Head → Move → List Move → Memory → Step
set_last s h v os m = going s (pick (eqb v.count 0) (to MoveEnd h) (to_level SetNext v.child h)) (v ∷ os) m

-- "reads .. each node's next until a level comes, one read a turn, and remembers the nodes"
unfoldable pub chain_word : Settings → Head → Move → List Move → ℕ → Memory → Step
chain_word s h v os word m = pick (is_node word) (going s (to ChainNext h) (remember (named word) v ∷ os) m) (set_last s h v os m)

-- what SetRead and SetFollow do with the word that they met: c is the count at a node, g the level to set N into
unfoldable pub set_met : Settings → Head → Move → List Move → ℕ → ℕ → ℕ → Memory → Step
set_met s h v os c g word m = going s (pick (is_node word) (to_node SetTail (named word) c h) (to_level SetNext g h)) (v ∷ os) m

-- "a level: set N into that level; a node R: count 1"
unfoldable pub set_read_word : Settings → Head → Move → List Move → ℕ → Memory → Step
set_read_word s h v os word m = set_met s h v os 1 (named word) word m

-- "a node: count + 1; a level: go back to the child of G and set N there"
unfoldable pub set_follow_word : ℕ → Settings → Head → Move → List Move → ℕ → Memory → Step
set_follow_word w s h v os word m =
    set_met s h v os (more s h.count) (child_of w m.levels (last_depth w) h.level (named word)) word m

-- SetPut and SetAppend: "if it is G, exchange it to N, done"
unfoldable pub set_node : ℕ → (ℕ → Memory → Step) → Settings → Head → Move → List Move → Cell → Memory → Step
set_node w failed s h v os x m = exchanging w h x (node_ref (last_node v)) (set_last s h (forget v) os) failed m

-- ChainHead: "Move reads the entry of K in H"
unfoldable pub chain_head : ℕ → Settings → Head → Move → List Move → Memory → Step
chain_head w s h v os m = chain_word s h v os (cell_at w m (home_cell w h v os m)) m

-- ChainNext: "then each node's next until a level comes"
unfoldable pub chain_next : ℕ → Settings → Head → Move → List Move → Memory → Step
chain_next w s h v os m = chain_word s h v os (next_at m.nodes (last_node v)) m

-- SetNext: "write N's next = G"
unfoldable pub set_next : ℕ → Settings → Head → Move → List Move → Memory → Step
set_next w s h v os m = going s (to SetLook h) (v ∷ os) (set_cell w m (Next (last_node v)) (level_ref h.level))

-- SetLook: "read N's entry in G; if it is G, exchange it to N"; ".. not G: read the entry again"
unfoldable pub set_look : ℕ → Settings → Head → Move → List Move → Memory → Step
set_look w s h v os m = going s (peeked h (cell_at w m (set_cell_of w h (last_node v) m)) SetPut SetRead) (v ∷ os) m

-- SetPut: "exchange it to N, done"; document 02, of a failed exchange: "the same inside a Move", as SetRead does with the word met
unfoldable pub set_put : ℕ → Settings → Head → Move → List Move → Memory → Step
set_put w s h v os m = set_node w (set_read_word s h v os) s h v os (set_cell_of w h (last_node v) m) m

-- SetRead: ".. not G: read the entry again"
unfoldable pub set_read : ℕ → Settings → Head → Move → List Move → Memory → Step
set_read w s h v os m = set_read_word s h v os (cell_at w m (set_cell_of w h (last_node v) m)) m

-- SetTail: "read R's next; if G and below the limit, exchange it to N, done; if G and at the limit, Level and Close as above"
unfoldable pub set_tail : ℕ → Settings → Head → Move → List Move → Memory → Step
set_tail w s h v os m =
    going s (peeked h (next_at m.nodes h.node) (by_count s h.count SetAppend SetLevel SetFollow) SetFollow) (v ∷ os) m

-- SetAppend: "if G and below the limit, exchange it to N, done"; failed, as SetFollow does with the word met
unfoldable pub set_append : ℕ → Settings → Head → Move → List Move → Memory → Step
set_append w s h v os m = set_node w (set_follow_word w s h v os) s h v os (Next h.node) m

-- SetLevel: "if G and at the limit, Level and Close as above"
unfoldable pub set_level : ℕ → Settings → Head → Move → List Move → Memory → Step
set_level w s h v os m = take_level w SetClose s h (v ∷ os) m

-- SetClose: "Level and Close as above, a Move inside this Move keyed by N's pixel"; failed, as SetFollow does with the word met
unfoldable pub set_close : ℕ → Settings → Head → Move → List Move → Memory → Step
set_close w s h v os m = closed w (set_follow_word w s h v os) s h (v ∷ os) m

-- SetFollow: ".. not G, or the count past the limit: read R's next again"
unfoldable pub set_follow : ℕ → Settings → Head → Move → List Move → Memory → Step
set_follow w s h v os m = set_follow_word w s h v os (next_at m.nodes h.node) m

-- after a Move: "then Look at G"; after "a Move inside this Move", "then set N into the new level"
unfoldable pub after_move : Head → ℕ → List Move → Head
after_move h g [] = to_level Look g h
after_move h g (o ∷ os) = to_level SetNext g h

-- MoveEnd: "Then the entry in H is written to G."
unfoldable pub move_end : ℕ → Settings → Head → Move → List Move → Memory → Step
move_end w s h v os m = going s (after_move h v.child os) os (set_cell w m (home_cell w h v os m) (level_ref v.child))
