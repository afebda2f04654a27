-- Demand 3 as one statement with its parts named, and the two facts that document 01 says "is proved" of: 6 is never given, a level is left.
-- Relies on the operations, the sequence and its row of calls, and on what is reached.
use Rattle.std.specs.Prelude.{ℕ, ◌+◌, ◌≤◌, ◌<◌, ◌≡◌, ◌≢◌, ◌⊎◌, Bool, false, eqb, length}
use mathlib.Core.List.{List, [], ◌∷◌, ◌++◌, Permᴰ}
use Rattle.words.specs.Choice.{pick, both}
use Rattle.words.specs.Digits.{max_pixel}
use Rattle.settings.specs.Sizes.{level_count}
use Rattle.settings.specs.declared.Settings.{Settings}
use Rattle.areas.specs.Memory.{Areas, node_ref, pixel_at}
use Rattle.record.specs.declared.Answer.TheVariants.{Full}
use Rattle.record.specs.declared.Kind.TheVariants.{Level, SetLevel}
use Rattle.rules.specs.Searching.{takes_node}
use Rattle.rules.specs.Operations.{opening, record_of, memory_of}
use Rattle.rules.specs.Lists.{State, after}
use Rattle.rules.specs.Reached.{Reached}
use Rattle.rules.specs.Calls.{Event, starts, turns, happens, history, state_after, Call, calls, endings, Book, Holds, ReadsRow, InOrder}

-- "After the whole sequence the reached nodes, each with its pixel, are exactly the pairs in the book."
pub record ReachedIsBook (w : ℕ) (x : State) (b : Book) : Type 0 where
  -- excludes: a machine that hangs a second node of a placed pixel into a chain; one that writes over the pixel word of a placed node
  pub in_book : (i : ℕ) → Reached w (memory_of x.areas) (node_ref i) → Holds b (pixel_at x.areas.nodes i) i × (pixel_at x.areas.nodes i ≤ max_pixel)
  -- excludes: a machine that moves a chain from its first node; one that writes the entry in H before the last node is set
  pub in_memory : (p i : ℕ) → Holds b p i → Reached w (memory_of x.areas) (node_ref i) × (pixel_at x.areas.nodes i ≡ p)

-- "There is a row in which each call meets its line, and a call that ended before another started stands earlier."
pub record Row (w : ℕ) (x : State) (es : List Event) : Type 0 where
  pub row : List Call
  pub book : Book
  -- "The row is an order of all ended calls, each standing in it once"
  -- excludes: a machine that answers "found" for a pixel that nobody placed; one that answers "new" twice for one pixel (their row would leave a call out)
  pub all-calls : Permᴰ (calls (history w es x)) row
  -- no ended call is lost: each turn answered "new", "found", "full" or "absent" ended a call that a start had opened and no turn had ended
  -- excludes: a machine that answers "found" to a worker that never started a call; one that answers a call "full" and later "new"
  pub none_lost : length (calls (history w es x)) ≡ endings (history w es x)
  -- excludes: a machine that answers "full" for a pixel placed before the call started; one that answers "found" before any call that places the pixel has started
  pub in_order : InOrder row
  -- excludes: a machine that gives two pixels the same node; one that answers "found" with another node than the "new" of the pixel; one that
  -- tells a viewer "absent" for a pixel in the book
  pub reads : ReadsRow [] row book
  -- excludes: a machine that answers "new" and writes nothing; one that loses the nodes of a chain that it moves
  pub reached : ReachedIsBook w (state_after w es x) book

-- a turn that takes a next number for a node: Take or TakeTail, nothing spare, carried out
unfoldable pub takes_number : ℕ → Event → State → Bool
takes_number w (starts looks i row column) x = false
takes_number w (turns i) x =
    both (takes_node (record_of x.areas i).head.kind)
    (both (eqb (record_of x.areas i).head.held_node 0) (eqb (happens w (turns i) x).reply.number 0))

-- how many turns of the sequence took a next number for a node
unfoldable pub numbers_taken : ℕ → List Event → State → ℕ
numbers_taken w [] x = 0
numbers_taken w (e ∷ es) x = pick (takes_number w e x) 1 0 + numbers_taken w es (after (happens w e x))

-- what holds of one event e that finds the state x
pub record EventOk (w : ℕ) (e : Event) (x : State) : Type 0 where
  -- "In the settings given back with "full", nodes taken equals nodes."
  -- excludes: a machine that answers "full" with nodes left; one that gives back older settings with "full"
  pub full-taken : (happens w e x).reply.answer ≡ Full → (happens w e x).reply.settings.nodes_taken ≡ (happens w e x).reply.settings.nodes
  -- "6 is never given; this is proved."
  -- excludes: a machine that leaves a reference to a level not yet taken; one whose Moves go deeper than its record has room for
  pub never_6 : (happens w e x).reply.number ≢ 6

-- "With that many, a level is always left when one is needed; this is proved.": worker i is at Level or SetLevel and holds none
pub record LevelLeft (w : ℕ) (i : ℕ) (x : State) : Type 0 where
  -- excludes: a machine that takes a next level though it holds a spare one; one that closes chains below the limit
  pub left : ((record_of x.areas i).head.kind ≡ Level) ⊎ ((record_of x.areas i).head.kind ≡ SetLevel) → (record_of x.areas i).head.held_level ≡ 0 → x.settings.levels_taken < level_count w x.settings

-- demand 3 of a sequence es from a state x that a carried out opening left
pub record Demand3 (w : ℕ) (x : State) (es : List Event) : Type 0 where
  -- excludes: a machine that answers "new" twice for one pixel; one that misses a placed pixel in its search and places it again
  pub row : Row w x es
  -- of each event of the sequence, after the events before it
  -- excludes: a machine that answers 6 at some later event of a long sequence; one that answers "full" too early in the middle of one
  pub each : (before : List Event) (e : Event) (rest : List Event) → es ≡ before ++ e ∷ rest → EventOk w e (state_after w before x)
  -- "Nodes taken is the number of turns up to then that took a next number for a node."
  -- excludes: a machine that takes a next number though it holds a spare node; one that gives a node back after a failed exchange
  pub taken : (before rest : List Event) → es ≡ before ++ rest → (state_after w before x).settings.nodes_taken ≡ numbers_taken w before x
  -- excludes: a machine that runs out of levels under some order of turns; one that drops its level after a failed Close
  pub level-left : (before rest : List Event) → es ≡ before ++ rest → (i : ℕ) → i < x.settings.workers → LevelLeft w i (state_after w before x)
  -- so that each start and turn is one at the width of the settings that it gets
  -- excludes: a machine whose turn gives back settings with another width; one whose Take gives them back with width 3
  pub width-stays : (before rest : List Event) → es ≡ before ++ rest → (state_after w before x).settings.width ≡ x.settings.width

-- "It begins with the settings and areas that a carried out opening left, whatever the areas held before."
abbrev pub Statement : ℕ → Settings → Type 0
Statement w s = (a : Areas) → (opening w s a).reply.number ≡ 0 → (es : List Event) → Demand3 w (after (opening w s a)) es
