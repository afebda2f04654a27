-- Document 02, how often exchanges fail: what is counted is the exchange that the turn makes, and a list of turns counts at most one in each turn done.
-- Relies on the turns' definitions and on what a list reports.
use Rattle.std.specs.Prelude.{ℕ, ◌+◌, ◌-◌, ◌≤◌, ◌≡◌, Bool, true, false, List}
use Rattle.settings.specs.declared.Settings.{Settings}
use Rattle.areas.specs.Memory.{Areas, Memory, level_ref, node_ref, cell_at, set_cell}
use Rattle.areas.specs.declared.Cell.{Cell}
use Rattle.areas.specs.declared.Cell.TheVariants.{Next}
use Rattle.record.specs.declared.Kind.{Kind}
use Rattle.record.specs.declared.Kind.TheVariants.{Put, Append, Close, SetPut, SetAppend, SetClose}
use Rattle.record.specs.declared.Exchange.TheVariants.{None, Done, Failed}
use Rattle.record.specs.declared.Head.{Head}
use Rattle.record.specs.declared.Move.{Move}
use Rattle.record.specs.Layout.{record'}
use Rattle.rules.specs.Heads.{to, last_node}
use Rattle.rules.specs.Steps.{expected}
use Rattle.rules.specs.Searching.{entry_of}
use Rattle.rules.specs.Moving.{set_cell_of}
use Rattle.rules.specs.Acts.{inner, act}
use Rattle.rules.specs.Exchanges.{exchange_of, list_report}

-- the exchanges of document 01: the kind of turn, the cell, and the word that it is exchanged to, from the worker's level
pub data Makes (w : ℕ) (h : Head) (ms : List Move) (m : Memory) : Kind → Cell → ℕ → Type 0 where
  -- "exchange the entry from H to the node"
  put : Makes w h ms m Put (entry_of w h m.levels) (node_ref (h.held_node - 1))
  -- "as Take and Put, on R's next"
  append : Makes w h ms m Append (Next h.node) (node_ref (h.held_node - 1))
  -- "exchange R's next from H to the new level G"
  close : Makes w h ms m Close (Next h.node) (level_ref (h.held_level - 1))
  -- "if it is G, exchange it to N"
  set-put : Makes w h ms m SetPut (set_cell_of w h (last_node (inner ms)) m) (node_ref (last_node (inner ms)))
  -- "if G and below the limit, exchange it to N"
  set-append : Makes w h ms m SetAppend (Next h.node) (node_ref (last_node (inner ms)))
  -- "Level and Close as above, a Move inside this Move"
  set-close : Makes w h ms m SetClose (Next h.node) (level_ref (h.held_level - 1))

-- a worker with the head h and the kind k, whose turn exchanges the cell x to the word b
pub record Own (w : ℕ) (v : Bool) (s : Settings) (h : Head) (ms : List Move) (m : Memory) (k : Kind) (x : Cell) (b : ℕ) : Type 0 where
  -- the cell holds the worker's level: the turn writes b there, and that counts as done
  -- excludes: a count without the exchanges of a Move; a count that looks at another cell than the turn exchanges
  pub done : expected h (cell_at w m x) ≡ true → (exchange_of w (record' (to k h) ms) m ≡ Done) × ((act w v s (record' (to k h) ms) m).memory ≡ set_cell w m x b)
  -- it holds another word: the turn writes nothing, and that counts as failed
  -- excludes: a failed exchange counted as done; a turn that writes in spite of what it met
  pub failed : expected h (cell_at w m x) ≡ false → (exchange_of w (record' (to k h) ms) m ≡ Failed) × ((act w v s (record' (to k h) ms) m).memory ≡ m)

-- for every record and memory
pub record OwnStatement (w : ℕ) : Type 0 where
  pub makes : (v : Bool) (s : Settings) (h : Head) (ms : List Move) (m : Memory) (k : Kind) (x : Cell) (b : ℕ) → Makes w h ms m k x b → Own w v s h ms m k x b
  -- a kind that makes none counts none
  -- excludes: SetNext or MoveEnd counted as an exchange; a Look that finds its entry used counted as a failed one
  pub others : (h : Head) (ms : List Move) (m : Memory) (k : Kind) → ((x : Cell) (b : ℕ) → Makes w h ms m k x b → ⊥) → exchange_of w (record' (to k h) ms) m ≡ None

-- a list makes at most one exchange in each of its turns done, so none where it is refused; over settings and memory of any content
-- excludes: a list that reports the exchanges of the table's whole life; one that counts the exchange of a turn that met 6
abbrev pub OneATurn : ℕ → Type 0
OneATurn w =
    (s : Settings) (l : List ℕ) (limit : ℕ) (a : Areas)
    → (list_report w s l limit a).done + (list_report w s l limit a).failed ≤ (list_report w s l limit a).result.reply.turns
