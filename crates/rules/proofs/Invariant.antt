-- The invariant of a state: the words show a world, the records show its workers, the counters count, and the row reads its book.
-- Relies on the theory's invariant, level count and row, and on what the words and records show.
use Prim.Native.Nat.{ℕ, suc, ◌*◌, ◌≤◌, ◌<◌}
use mathlib.Core.Path.{◌≡◌, refl}
use mathlib.Core.Logic.{◌≢◌}
use mathlib.Core.Bool.{Bool, true}
use lib.ListN.{length}
use Rattle.settings.specs.Sizes.{question1, level_count, worker_words, views}
use Rattle.settings.specs.declared.Settings.{Settings}
use Rattle.areas.specs.Memory.{Memory}
use Rattle.record.specs.declared.Answer.{Answer}
use Rattle.record.specs.declared.Answer.TheVariants.{Open, New, Found, Absent}
use Rattle.record.specs.declared.Head.{Head}
use Rattle.record.specs.Kinds.{kind_no}
use Rattle.record.specs.Layout.{Record}
use Rattle.record.specs.Fits.{role_fits, answer_fits}
use Rattle.rules.specs.Steps.{Step}
use Rattle.rules.specs.Operations.{record_of, memory_of}
use Rattle.rules.specs.Lists.{State}
use Rattle.trie.proofs.Update.{upd}
use Rattle.trie.proofs.Digits.{Dims}
use Rattle.trie.proofs.World.{World, Placed, Other}
use Rattle.trie.proofs.Evolve.{Grows}
use Rattle.trie.proofs.Place.{place, CanPlace}
use Rattle.trie.proofs.Fresh.{Fresh}
use Rattle.trie.proofs.Stand.{Pos}
use Rattle.trie.proofs.Search.{fetch}
use Rattle.trie.proofs.Falls.{Falls}
use Rattle.trie.proofs.Advance.{Dooming}
use Rattle.trie.proofs.Levels.{Levels}
use Rattle.trie.proofs.Whole.{idle, searching, Worker, Inv}
use Rattle.rules.proofs.Dims.{dims, Width}
use Rattle.rules.proofs.Words.{Shows}
use Rattle.rules.proofs.Matches.{Matches}

-- the settings that do not change: s₀ are those that the opening gave
pub record SameSizes (s₀ s : Settings) : Type 0 where
  pub width_is : s.width ≡ s₀.width
  pub workers_is : s.workers ≡ s₀.workers
  pub limit_is : s.limit ≡ s₀.limit
  pub nodes_is : s.nodes ≡ s₀.nodes
  pub viewers_is : s.viewers ≡ s₀.viewers

-- who is a viewer stays too
pub views_same : {s₀ s : Settings} (i : ℕ) → SameSizes s₀ s → views s i ≡ views s₀ i
unfolding views
views_same i e = rw (e.workers_is, e.viewers_is) refl

-- the theory's world of a table with the settings s₀
abbrev pub WorldOf : ℕ → Settings → Type 0
WorldOf w s₀ = World (dims w s₀.limit)

-- the words of nodes and levels show a world; numbers from the counters on are nobody's
pub record Table (w : ℕ) (s₀ s : Settings) (m : Memory) (W : WorldOf w s₀) : Type 0 where
  pub width : Width w
  pub ranges : question1 s₀ ≡ true
  pub same : SameSizes s₀ s
  pub shows : Shows w s₀.nodes (level_count w s₀) m W.pixel W.cell W.tree.prev W.tree.depth
  pub nodes_fresh : Fresh W.node_owner s.nodes_taken
  pub levels_fresh : Fresh W.tree.level_owner s.levels_taken
  pub nodes_le : s.nodes_taken ≤ s₀.nodes
  pub levels_le : s.levels_taken ≤ level_count w s₀

-- how the row of calls goes on over a turn from W to W' of a worker c that is c' after it, by the turn's answer
pub data Rowing {δ : Dims} (W W' : World δ) (c c' : Worker) : Answer → Type 0 where
  goes : Grows W W' → W'.book ≡ W.book → c'.act ≢ idle → c'.since ≡ c.since → c'.key ≡ c.key → Rowing W W' c c' Open
  ends_new_lem : {H e n : ℕ} → CanPlace W H e n → W.pixel n ≡ c.key → W' ≡ place W H e n → c'.act ≡ idle → Rowing W W' c c' (New n)
  ends_found : {R : ℕ} → Placed W R → W.pixel R ≡ c.key → W' ≡ W → c'.act ≡ idle → Rowing W W' c c' (Found R)
  ends_absent : ((m : ℕ) → Placed W m → Other W c.key m) → W' ≡ W → c'.act ≡ idle → Rowing W W' c c' Absent

-- the node that a worker holds over a turn, with the nodes taken after it: the one that it held; a next number, which a call took that wanted a node; none, the node is placed
pub data Held {δ : Dims} (W : World δ) (c : Worker) (node taken : ℕ) : Answer → Type 0 where
  keeps : Fresh W.node_owner taken → node ≡ c.node → Held W c node taken Open
  took : {H n : ℕ} {x : Pos} → c.act ≡ searching (fetch H x) → c.node ≡ 0 → Fresh W.node_owner n → node ≡ suc n → taken ≡ suc n → Held W c node taken Open
  gave : {n : ℕ} → Fresh W.node_owner taken → c.node ≡ suc n → node ≡ 0 → Held W c node taken (New n)
  kept : {R : ℕ} → Fresh W.node_owner taken → node ≡ c.node → Held W c node taken (Found R)
  left : Fresh W.node_owner taken → node ≡ c.node → Held W c node taken Absent

-- the worker holds no node and no level
abbrev pub HoldsNone : Head → Type 0
HoldsNone h = (h.held_node ≡ 0) × (h.held_level ≡ 0)

-- a head is of a viewer's kind and answer, or of another worker's
pub record Role (v : Bool) (h : Head) : Type 0 where
  pub rest : kind_no h.kind ≡ 0 → answer_fits v h.answer ≡ true
  pub call : kind_no h.kind ≢ 0 → role_fits v (kind_no h.kind) ≡ true
  -- a viewer takes nothing
  pub holds_none : v ≡ true → HoldsNone h

-- what is known where worker i, whose record is r, has a turn
pub record At (w : ℕ) (s₀ s : Settings) (m : Memory) (W : WorldOf w s₀) (ws : ℕ → Worker) (i : ℕ) (r : Record) : Type 0 where
  pub table : Table w s₀ s m W
  pub inv : Inv W ws
  pub levels : Levels W ws s₀.workers s.levels_taken
  pub here : i < s₀.workers
  pub matches : Matches r (ws i)
  pub role : Role (views s₀ i) r.head

-- what a turn of worker i has to leave
pub record TurnOk (w : ℕ) (s₀ : Settings) (W : WorldOf w s₀) (ws : ℕ → Worker) (i : ℕ) (t : Step) : Type 0 where
  pub world : WorldOf w s₀
  pub worker : Worker
  pub table : Table w s₀ t.settings t.memory world
  pub inv : Inv world (upd ws i worker)
  pub levels : Levels world (upd ws i worker) s₀.workers t.settings.levels_taken
  pub matches : Matches t.record' worker
  pub rowing : Rowing W world (ws i) worker t.answer
  -- a turn after which the call goes on leaves less to do
  pub falls : worker.act ≢ idle → Falls (level_count w s₀) W world (ws i).act worker.act
  -- a failed exchange frees a doomed worker, and only a done one dooms others
  pub dooming : Dooming W world (ws i).key (ws i).act worker.act
  pub held : Held W (ws i) worker.node t.settings.nodes_taken t.answer

-- the state between two operations
pub record Fine (w : ℕ) (s₀ : Settings) (x : State) (W : WorldOf w s₀) (ws : ℕ → Worker) : Type 0 where
  pub table : Table w s₀ x.settings (memory_of x.areas) W
  pub room : worker_words * s₀.workers ≤ length x.areas.workers
  pub inv : Inv W ws
  pub levels : Levels W ws s₀.workers x.settings.levels_taken
  pub records : (i : ℕ) → i < s₀.workers → Matches (record_of x.areas i) (ws i)
  pub roles : (i : ℕ) → i < s₀.workers → Role (views s₀ i) (record_of x.areas i).head

pub at : {w : ℕ} {s₀ : Settings} {x : State} {W : WorldOf w s₀} {ws : ℕ → Worker} → Fine w s₀ x W ws → (i : ℕ) → i < s₀.workers → At w s₀ x.settings (memory_of x.areas) W ws i (record_of x.areas i)
at f i h = record { table = f.table; inv = f.inv; levels = f.levels; here = h; matches = f.records i h; role = f.roles i h }
