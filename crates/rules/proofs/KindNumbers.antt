-- The kinds by number: those of a search are 1 to 10, those of a Move 11 and above, and only Take and TakeTail fetch a node.
-- Relies on what a record shows of a phase and of a step.
use Prim.Native.Nat.{ℕ, ◌≤◌, ◌<◌}
use mathlib.Core.Path.{◌≡◌}
use mathlib.Core.Logic.{◌⊎◌, inl, inr}
use mathlib.Core.List.{List, [], ◌∷◌}
use native.Mathlib.Omega.{arith}
use Rattle.record.specs.declared.Kind.{Kind}
use Rattle.record.specs.declared.Kind.TheVariants.{Look, Take, Put, Read, Tail, TakeTail, Append, Follow, SetLook, SetPut, SetRead, SetTail, SetAppend, SetFollow}
use Rattle.record.specs.Kinds.{kind_no}
use Rattle.trie.proofs.Digits.{Dims}
use Rattle.trie.proofs.World.{World}
use Rattle.trie.proofs.Stand.{Pos, at_entry, at_node}
use Rattle.trie.proofs.Search.{Phase, peek, fetch, put, again, level, shut}
use Rattle.trie.proofs.Move.{Frame, Step, gather, aim, set, finish, SetOk, set_peeks, set-puts, set_reads, set_levels, set_shuts}
use Rattle.rules.proofs.Matches.{by_pos, search_kind, set_kind, gather_kind, step_kind}

-- what holds of two numbers holds of the one at a place
by_pos_lem : (P : ℕ → Type 0) (j k : Kind) (x : Pos) → P (kind_no j) → P (kind_no k) → P (kind_no (by_pos j k x))
by_pos_lem P j k at_entry a b = a
by_pos_lem P j k (at_node R C) a b = b

-- a phase that fetches a node
abbrev pub Fetching : Phase → Type 0
Fetching (peek H x) = ⊥
Fetching (fetch H x) = Unit {0}
Fetching (put H x n) = ⊥
Fetching (again H x) = ⊥
Fetching (level H x) = ⊥
Fetching (shut H x G) = ⊥

abbrev InSearch : ℕ → Type 0
InSearch n = (0 < n) × (n ≤ 10)

pub search_no : (p : Phase) → InSearch (kind_no (search_kind p))
unfolding kind_no
search_no (peek H x) = by_pos_lem InSearch Look Tail x (omega arith, omega arith) (omega arith, omega arith)
search_no (fetch H x) = by_pos_lem InSearch Take TakeTail x (omega arith, omega arith) (omega arith, omega arith)
search_no (put H x n) = by_pos_lem InSearch Put Append x (omega arith, omega arith) (omega arith, omega arith)
search_no (again H x) = by_pos_lem InSearch Read Follow x (omega arith, omega arith) (omega arith, omega arith)
search_no (level H x) = (omega arith, omega arith)
search_no (shut H x G) = (omega arith, omega arith)

-- Take and TakeTail
abbrev pub Takes : ℕ → Type 0
Takes n = (n ≡ 2) ⊎ (n ≡ 6)

pub takes_low : {n : ℕ} → Takes n → (0 < n) × (n < 7)
takes_low (inl e) = (omega arith, omega arith)
takes_low (inr e) = (omega arith, omega arith)

abbrev NotTaking : ℕ → Type 0
NotTaking n = Takes n → ⊥

other : {n : ℕ} → (n ≡ 2 → ⊥) → (n ≡ 6 → ⊥) → NotTaking n
other f g (inl e) = f e
other f g (inr e) = g e

pub search_takes : (p : Phase) → Takes (kind_no (search_kind p)) → Fetching p
unfolding kind_no
search_takes (peek H x) t = absurd (by_pos_lem NotTaking Look Tail x (other (λ e. omega arith) (λ e. omega arith)) (other (λ e. omega arith) (λ e. omega arith)) t)
search_takes (fetch H x) t = tt
search_takes (put H x n) t = absurd (by_pos_lem NotTaking Put Append x (other (λ e. omega arith) (λ e. omega arith)) (other (λ e. omega arith) (λ e. omega arith)) t)
search_takes (again H x) t = absurd (by_pos_lem NotTaking Read Follow x (other (λ e. omega arith) (λ e. omega arith)) (other (λ e. omega arith) (λ e. omega arith)) t)
search_takes (level H x) t = absurd (other (λ e. omega arith) (λ e. omega arith) t)
search_takes (shut H x G) t = absurd (other (λ e. omega arith) (λ e. omega arith) t)

-- the kinds that set a node are 14 to 21; none of them fetches one
abbrev SetBy : Type 0 → ℕ → Type 0
SetBy F n = (13 < n) × (F ⊎ (n ≤ 21))

set_kind_lem : (p : Phase) → SetBy (Fetching p) (kind_no (set_kind p))
unfolding kind_no
set_kind_lem (peek H x) = by_pos_lem (SetBy ⊥) SetLook SetTail x (omega arith, inr (omega arith)) (omega arith, inr (omega arith))
set_kind_lem (fetch H x) = (omega arith, inl tt)
set_kind_lem (put H x n) = by_pos_lem (SetBy ⊥) SetPut SetAppend x (omega arith, inr (omega arith)) (omega arith, inr (omega arith))
set_kind_lem (again H x) = by_pos_lem (SetBy ⊥) SetRead SetFollow x (omega arith, inr (omega arith)) (omega arith, inr (omega arith))
set_kind_lem (level H x) = (omega arith, inr (omega arith))
set_kind_lem (shut H x G) = (omega arith, inr (omega arith))

pub none_fetched : {δ : Dims} {w : World δ} {u N G : ℕ} {p : Phase} → SetOk w u N G p → Fetching p → ⊥
none_fetched (set_peeks t) f = f
none_fetched (set-puts e t l) f = f
none_fetched (set_reads t n) f = f
none_fetched (set_levels t l d) f = f
none_fetched (set_shuts t l d k) f = f

pub set_no : {δ : Dims} {w : World δ} {u N G : ℕ} {p : Phase} → SetOk w u N G p → (13 < kind_no (set_kind p)) × (kind_no (set_kind p) ≤ 21)
set_no {p = p} o = ((set_kind_lem p).0, by (set_kind_lem p).1)
  where
    by : Fetching p ⊎ (kind_no (set_kind p) ≤ 21) → kind_no (set_kind p) ≤ 21
    by (inl f) = absurd (none_fetched o f)
    by (inr l) = l

-- the kinds of a Move
pub step_no : (f : Frame) (s : Step) → 10 < kind_no (step_kind f s)
unfolding kind_no
step_no f gather = by f.nodes
  where
    by : (ns : List ℕ) → 10 < kind_no (gather_kind ns)
    by [] = omega arith
    by (n ∷ ns) = omega arith
step_no f (aim N T) = omega arith
step_no f (set N p) = omega (arith, (set_kind_lem p).0)
step_no f finish = omega arith
