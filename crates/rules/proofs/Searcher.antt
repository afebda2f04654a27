-- A worker that searches: its record beside its clause, where it stands, and a turn of it that writes nothing.
-- Relies on where a worker stands and on turns that write nothing.
use Prim.Native.Nat.{ℕ, ◌≤◌, ◌<◌, ◌^◌}
use mathlib.Core.Path.{◌≡◌, refl}
use mathlib.Core.Logic.{◌≢◌}
use mathlib.Core.List.{[]}
use lib.ListN.{length}
use Rattle.words.specs.Digits.{base, depths}
use Rattle.settings.specs.Sizes.{level_count}
use Rattle.settings.specs.declared.Settings.{Settings}
use Rattle.areas.specs.Memory.{Memory, level_ref}
use Rattle.record.specs.declared.Kind.{Kind}
use Rattle.record.specs.declared.Kind.TheVariants.{Read, Follow}
use Rattle.record.specs.declared.Head.{Head}
use Rattle.record.specs.Layout.{Record}
use Rattle.rules.specs.Steps.{going}
use Rattle.rules.specs.Heads.{to}
use Rattle.trie.proofs.World.{Other}
use Rattle.trie.proofs.Stand.{Pos}
use Rattle.trie.proofs.Search.{Phase, again, Searching, Local, reads, word}
use Rattle.trie.proofs.Measure.{phase, amount}
use Rattle.trie.proofs.Falls.{lower}
use Rattle.trie.proofs.Dooms.{doom}
use Rattle.trie.proofs.Advance.{dooming_read}
use Rattle.trie.proofs.Whole.{searching, Worker, is_searching_lem, owner}
use Rattle.rules.proofs.Matches.{by_pos, search_kind, Place, Phased, agains, searches}
use Rattle.rules.proofs.Invariant.{WorldOf, At, TurnOk}
use Rattle.rules.proofs.Standing.{Standing}
use Rattle.rules.proofs.Turned.{SameCall, call_to, place-to, still_searching, stayed}

-- the record of worker i and its clause in phase p, at level H and place x
pub record Searcher {w : ℕ} {s₀ s : Settings} {m : Memory} {W : WorldOf w s₀} {ws : ℕ → Worker} {i : ℕ} {r : Record} (a : At w s₀ s m W ws i r) (p : Phase) (H : ℕ) (x : Pos) : Type 0 where
  pub kind_is : r.head.kind ≡ search_kind p
  pub level_is : r.head.level ≡ H
  pub place : Place r.head x
  pub small : (ws i).key < base w ^ depths w
  pub since-le : (ws i).since ≤ length W.book
  pub search : Searching W (ws i).key H x
  pub act_is : (ws i).act ≡ searching p
  pub again_last : phase W (again H x) ≤ phase W p

module _ {w : ℕ} {s₀ s : Settings} {m : Memory} {W : WorldOf w s₀} {ws : ℕ → Worker} {i : ℕ} {r : Record} {a : At w s₀ s m W ws i r} {p : Phase} {H : ℕ} {x : Pos} (o : Searcher a p H x) where
  pub standing : Standing W (Other W (ws i).key) r.head r.head.pixel (ws i).key H x
  standing = record { level_is = o.level_is; pixel_is = a.matches.pixel_is; place = o.place; published = o.search.path.pub_at; stand = o.search.stand }

  -- a turn that writes nothing and goes on in phase q, which is nearer to the end, with the head h
  pub stays : {q : Phase} {h : Head} → phase W q < phase W p → doom W (ws i).key q ≡ 0 → h.kind ≡ search_kind q → SameCall r.head h → Phased h q → Local W (owner i) (ws i).key (ws i).since q → TurnOk w s₀ W ws i (going s h [] m)
  unfolding amount
  stays {q} n z k c d l = stayed a (searching q) still_searching (is_searching_lem o.small o.since-le l) (rw o.act_is (record { falls = lower (level_count w s₀) W W (searching p) (searching q) refl n; dooming = dooming_read (ws i).key z })) c (searches k refl d)

  -- only the kind changes
  pub goes_to_lem : {q : Phase} {k : Kind} → phase W q < phase W p → doom W (ws i).key q ≡ 0 → k ≡ search_kind q → Phased (to k r.head) q → Local W (owner i) (ws i).key (ws i).since q → TurnOk w s₀ W ws i (going s (to k r.head) [] m)
  unfolding to
  goes_to_lem {k = k} n z e d l = stays n z e (call_to k r.head) d l

  pub level-to : (k : Kind) → (to k r.head).level ≡ H
  unfolding to
  level-to k = o.level_is

  -- the word is not H: Read or Follow is next
  pub goes_again : phase W (again H x) < phase W p → word W (ws i).key H x ≢ level_ref H → TurnOk w s₀ W ws i (going s (to (by_pos Read Follow x) r.head) [] m)
  goes_again n y = goes_to_lem {q = again H x} n refl refl (agains (level-to (by_pos Read Follow x)) (place-to (by_pos Read Follow x) o.place)) (reads o.search y)
