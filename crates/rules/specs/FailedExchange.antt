-- Document 02, a failed exchange, apart from the turns' own text: the turn does and asks what the turn that reads the cell again would, and loses nothing.
-- Relies on the turns and on question 6.
use Rattle.std.specs.Prelude.{ℕ, ◌≡◌, Bool, true, false, List}
use Rattle.words.specs.Choice.{both}
use Rattle.settings.specs.declared.Settings.{Settings}
use Rattle.areas.specs.Memory.{Memory, cell_at, node_taken}
use Rattle.areas.specs.declared.Cell.{Cell}
use Rattle.areas.specs.declared.Cell.TheVariants.{Next}
use Rattle.record.specs.declared.Kind.{Kind}
use Rattle.record.specs.declared.Kind.TheVariants.{Put, Read, Append, Close, Follow, SetPut, SetRead, SetAppend, SetClose, SetFollow}
use Rattle.record.specs.declared.Head.{Head}
use Rattle.record.specs.declared.Move.{Move}
use Rattle.record.specs.Layout.{record'}
use Rattle.rules.specs.Heads.{to, last_node}
use Rattle.rules.specs.Steps.{expected}
use Rattle.rules.specs.Searching.{entry_of}
use Rattle.rules.specs.Moving.{set_cell_of}
use Rattle.rules.specs.Acts.{inner, act}
use Rattle.rules.specs.Asked.{in_hand, question6}

-- the kinds that exchange: the kind that reads the cell again, the cell, and what only the exchange asks: that what it puts there is taken
pub data Exchanger (w : ℕ) (s : Settings) (h : Head) (ms : List Move) (m : Memory) : Kind → Kind → Cell → Bool → Type 0 where
  -- "After a failed Put the call acts on that word as Read does, in the same turn;"
  put : Exchanger w s h ms m Put Read (entry_of w h m.levels) (in_hand h.held_node s.nodes_taken)
  -- "after a failed Append or Close as Follow does;"
  append : Exchanger w s h ms m Append Follow (Next h.node) (in_hand h.held_node s.nodes_taken)
  close : Exchanger w s h ms m Close Follow (Next h.node) (in_hand h.held_level s.levels_taken)
  -- "the same inside a Move." SetRead asks N itself
  set-put : Exchanger w s h ms m SetPut SetRead (set_cell_of w h (last_node (inner ms)) m) true
  set-append : Exchanger w s h ms m SetAppend SetFollow (Next h.node) (node_taken s (last_node (inner ms)))
  set-close : Exchanger w s h ms m SetClose SetFollow (Next h.node) (in_hand h.held_level s.levels_taken)

-- the turn of a worker with the head h, once its kind is k, beside the turn that it would have were its kind `again`
pub record Again (w : ℕ) (v : Bool) (s : Settings) (h : Head) (ms : List Move) (m : Memory) (k again : Kind) (own : Bool) : Type 0 where
  -- excludes: a machine that goes on a turn later; one that goes on from a failed Close at the level met
  pub acts : act w v s (record' (to k h) ms) m ≡ act w v s (record' (to again h) ms) m
  -- "Failed: the node is now spare", "G is spare": it is held as before
  -- excludes: a machine that drops the node after a failed Append; one that gives the level back
  pub node_held : (act w v s (record' (to k h) ms) m).record'.head.held_node ≡ h.held_node
  pub level_held : (act w v s (record' (to k h) ms) m).record'.head.held_level ≡ h.held_level
  -- "The word a failed exchange gives counts as a reference read for question 6."; and no more is asked, with the most Moves open either. Of a worker that is no
  -- viewer: a viewer's record does not fit with such a kind
  -- excludes: a machine that does not ask the pixel word of the node met; one that refuses a failed SetClose for want of room
  pub asks : question6 w false s (record' (to k h) ms) m ≡ both own (question6 w false s (record' (to again h) ms) m)

-- where the exchange fails, for every record and memory
abbrev pub FailedExchange : ℕ → Type 0
FailedExchange w =
    (v : Bool) (s : Settings) (h : Head) (ms : List Move) (m : Memory) (k again : Kind) (x : Cell) (own : Bool)
    → Exchanger w s h ms m k again x own → expected h (cell_at w m x) ≡ false → Again w v s h ms m k again own
