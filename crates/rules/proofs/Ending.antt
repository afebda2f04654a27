-- A call that ends "full": the worker was about to take a node, and none was left.
-- Relies on what a record shows, on the kinds by number and on the theory's clause of a worker that takes a node.
use Prim.Native.Nat.{ℕ, ◌≤◌, ◌<◌}
use mathlib.Core.Path.{◌≡◌, refl, ap}
use mathlib.Core.Logic.{inl, inr}
use mathlib.Core.Bool.{true, false}
use native.Mathlib.Omega.{arith}
use lib.Dec.{eqb}
use borrow.Author.Tests.{eqb-true, ltb-false}
use Rattle.words.proofs.Choice.{true_false, pick-both}
use Rattle.settings.specs.Sizes.{views}
use Rattle.settings.specs.declared.Settings.{Settings}
use Rattle.areas.specs.Memory.{Memory}
use Rattle.record.specs.declared.Kind.{Kind}
use Rattle.record.specs.declared.Kind.TheVariants.{Idle}
use Rattle.record.specs.Kinds.{kind_no}
use Rattle.record.specs.Layout.{Record}
use Rattle.rules.specs.Heads.{ended}
use Rattle.rules.specs.Searching.{takes_node}
use Rattle.rules.specs.Asked.{node_left, question9}
use Rattle.rules.specs.Operations.{record_of, full, full_record}
use Rattle.rules.specs.Lists.{State, after}
use Rattle.trie.proofs.Update.{upd}
use Rattle.trie.proofs.Evolve.{grows_refl}
use Rattle.trie.proofs.Levels.{levels_stay}
use Rattle.trie.proofs.Search as clause
use Rattle.trie.proofs.Search.{Phase, Local, Unseen}
use Rattle.trie.proofs.Whole.{Act, idle, searching, Worker, ActOk, is_idle, is_searching_lem, owner, stay_step}
use Rattle.rules.proofs.Matches.{Doing, rests, searches, moves}
use Rattle.rules.proofs.KindNumbers.{Fetching, Takes, takes_low, search_takes, step_no}
use Rattle.rules.proofs.Invariant.{WorldOf, At, Fine}
use Rattle.rules.proofs.Stored.{fine_after}
use Rattle.rules.proofs.Roles.{full_role}

-- Take and TakeTail by number
pub takes-number : (k : Kind) → takes_node k ≡ true → Takes (kind_no k)
unfolding takes_node
takes-number k = pick-both (λ b. b ≡ true → Takes (kind_no k)) (eqb (kind_no k) 2) (λ e q. inl (eqb-true _ _ e)) (λ e q. inr (eqb-true _ _ q))

-- question 9 is answered no where a worker is to take a node, holds none, and none is left
pub record NoneLeft (s : Settings) (r : Record) : Type 0 where
  pub taking : takes_node r.head.kind ≡ true
  pub holds_none : r.head.held_node ≡ 0
  pub all-taken : s.nodes ≤ s.nodes_taken

pub none_left : (s : Settings) (r : Record) → question9 s r ≡ false → NoneLeft s r
unfolding question9 node_left
none_left s r =
    pick-both (λ b. b ≡ false → NoneLeft s r) (takes_node r.head.kind)
    (λ t. pick-both (λ b. b ≡ false → NoneLeft s r) (eqb r.head.held_node 0)
    (λ e q. record { taking = t; holds_none = eqb-true _ _ e; all-taken = ltb-false _ _ q })
    (λ e q. absurd (true_false q)))
    (λ t q. absurd (true_false q))

idle_no : {k : Kind} → k ≡ Idle → kind_no k ≡ 0
unfolding kind_no
idle_no e = ap kind_no e

module _ {w : ℕ} {s₀ s : Settings} {m : Memory} {W : WorldOf w s₀} {ws : ℕ → Worker} {i : ℕ} {r : Record} (a : At w s₀ s m W ws i r) where
  -- the pixel of the call is not among what the book held when the call started
  pub full_unseen : takes_node r.head.kind ≡ true → Unseen W (ws i).key (ws i).since
  full_unseen t = by a.matches.doing refl
    where
      n : Takes (kind_no r.head.kind)
      n = takes-number r.head.kind t

      seen : {p : Phase} → Fetching p → Local W (owner i) (ws i).key (ws i).since p → Unseen W (ws i).key (ws i).since
      seen f (clause.peeks k) = absurd f
      seen f (clause.fetches k l u) = u
      seen f (clause.puts k l v p t) = absurd f
      seen f (clause.reads k n) = absurd f
      seen f (clause.levels k l d) = absurd f
      seen f (clause.shuts k l d b) = absurd f

      act_seen : {p : Phase} → Fetching p → ActOk W (owner i) (ws i).key (ws i).since (searching p) → Unseen W (ws i).key (ws i).since
      act_seen f (is_searching_lem small b l) = seen f l

      by : {x : Act} → Doing r.head r.moves x → (ws i).act ≡ x → Unseen W (ws i).key (ws i).since
      by (rests e v) q = absurd (omega (arith, takes_low n, idle_no e))
      by (searches {p = p} e v z) q = act_seen (search_takes p (rw e at n)) (rw q at (a.inv.each i).acts)
      by (moves {f} {fs} {s = p} e v z) q = absurd (omega (arith, takes_low n, step_no f p, ap kind_no e))

-- the worker after it
abbrev pub stopped : Worker → Worker
stopped c = record { key = c.key; since = c.since; node = c.node; level = c.level; act = idle }

-- and the state
pub fine_full : {w : ℕ} {s₀ : Settings} {x : State} {W : WorldOf w s₀} {ws : ℕ → Worker} (F : Fine w s₀ x W ws) (i : ℕ) → i < s₀.workers → takes_node (record_of x.areas i).head.kind ≡ true → Fine w s₀ (after (full x.settings i x.areas)) W (upd ws i (stopped (ws i)))
unfolding full full_record ended
fine_full {w} {s₀} {x} {W = W} {ws = ws} F i h t =
    let M = F.records i h in
    let I = stay_step F.inv i (stopped (ws i)) (record { acts = is_idle; holds_node = (F.inv.each i).holds_node; holds_level = (F.inv.each i).holds_level }) in
    fine_after F i h F.table I (levels_stay F.levels i h (stopped (ws i)) (grows_refl W) refl) (record { pixel_is = M.pixel_is; node_is = M.node_is; level_is = M.level_is; doing = rests refl refl }) (full_role (views s₀ i) (record_of x.areas i).head.held_node (record_of x.areas i).head t (F.roles i h))
