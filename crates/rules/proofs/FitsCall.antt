-- The numbers of a call fit the layout: its count on a chain, its pixel, the numbers of its kind.
-- Relies on what a head shows and on the theory's counts.
use Prim.Native.Nat.{ℕ, ◌+◌, ◌≤◌, ◌<◌}
use mathlib.Core.Path.{◌≡◌, refl, ap, ◌∙◌}
use mathlib.Core.Bool.{Bool, true, false}
use mathlib.Core.List.{[]}
use lib.ListN.{length}
use native.Mathlib.Omega.{arith}
use borrow.Author.Tests.{eq-eqb, ne_eqb, le-leb}
use Rattle.words.specs.Choice.{pick, both}
use Rattle.words.specs.Digits.{max_pixel}
use Rattle.words.proofs.Choice.{pick-both, pick_true, pick_false, both_true}
use Rattle.settings.specs.Sizes.{within}
use Rattle.settings.specs.declared.Settings.{Settings}
use Rattle.record.specs.declared.Kind.{Kind}
use Rattle.record.specs.declared.Kind.TheVariants.{Look, Take, Put, Read, Tail, TakeTail, Append, Follow, SetLook, SetPut, SetRead, SetTail, SetAppend, SetFollow, Unknown}
use Rattle.record.specs.declared.Head.{Head}
use Rattle.record.specs.Kinds.{kind_no}
use Rattle.record.specs.Layout.{Record}
use Rattle.record.specs.Fits.{on_chain, call_fits, role_fits, fits_by}
use Rattle.trie.proofs.Digits.{Dims}
use Rattle.trie.proofs.World.{World}
use Rattle.trie.proofs.Stand.{Pos, at_node, CountOk}
use Rattle.trie.proofs.Search as clause
use Rattle.trie.proofs.Search.{Phase, peek, fetch, put, again, level, shut, Local}
use Rattle.trie.proofs.Move.{SetOk, set_peeks, set-puts, set_reads, set_levels, set_shuts}
use Rattle.rules.proofs.Matches.{by_pos, search_kind, set_kind, Place, entry, node, Phased, peeks, fetches, puts, agains, levels, shuts}

pub within_ok : (x hi : ℕ) → 0 < x → x ≤ hi → within x hi ≡ true
unfolding within
within_ok x hi l h = both_true (le-leb 1 x (omega arith)) (le-leb x hi h)

-- the place of a phase
abbrev pub place_of : Phase → Pos
place_of (peek H x) = x
place_of (fetch H x) = x
place_of (put H x n) = x
place_of (again H x) = x
place_of (level H x) = x
place_of (shut H x G) = x

-- the theory's count there
pub local_counted : {δ : Dims} {w : World δ} {v K b : ℕ} {p : Phase} → Local w v K b p → CountOk δ (place_of p)
local_counted (clause.peeks s) = s.counted
local_counted (clause.fetches s c u) = s.counted
local_counted (clause.puts s c a p t) = s.counted
local_counted (clause.reads s n) = s.counted
local_counted (clause.levels s c d) = s.counted
local_counted (clause.shuts s c d k) = s.counted

pub set-counted : {δ : Dims} {w : World δ} {v N G : ℕ} {p : Phase} → SetOk w v N G p → CountOk δ (place_of p)
set-counted (set_peeks s) = s.counted
set-counted (set-puts e s l) = s.counted
set-counted (set_reads s n) = s.counted
set-counted (set_levels s l d) = s.counted
set-counted (set_shuts s l d k) = s.counted

-- a head of kind k has a count that fits, if it is on a chain
unfoldable pub CountFits : Settings → Head → Kind → Type 0
CountFits s h k = on_chain (kind_no k) ≡ true → within h.count (s.limit + 1) ≡ true

-- nothing is asked of a kind that is not on a chain
pub off_chain : (s : Settings) (h : Head) (k : Kind) → on_chain (kind_no k) ≡ false → CountFits s h k
unfolding CountFits
off_chain s h k f e = let z : ◌≡◌ {A = ℕ} 0 1 = cc in absurd (omega arith)

module _ (δ : Dims) (s : Settings) (h : Head) (same : s.limit ≡ δ.limit) where
  at_node_count : {R C : ℕ} → Place h (at_node R C) → CountOk δ (at_node R C) → within h.count (s.limit + 1) ≡ true
  at_node_count (node {R} {C} n c) (l, g) = within_ok h.count (s.limit + 1) (omega arith) (omega arith)

  -- of two kinds, the first is not on a chain
  by_place : (j k : Kind) {x : Pos} → on_chain (kind_no j) ≡ false → Place h x → CountOk δ x → CountFits s h (by_pos j k x)
  unfolding CountFits
  by_place j k f entry c = off_chain s h j f
  by_place j k f (node n d) c = λ e. at_node_count (node n d) c

  pub search_count : {p : Phase} → Phased h p → CountOk δ (place_of p) → CountFits s h (search_kind p)
  unfolding CountFits on_chain kind_no pick both
  search_count (peeks g d) c = by_place Look Tail refl d c
  search_count (fetches g d) c = by_place Take TakeTail refl d c
  search_count (puts g d) c = by_place Put Append refl d c
  search_count (agains g d) c = by_place Read Follow refl d c
  search_count (levels g d) c = λ e. at_node_count d c
  search_count (shuts g d f) c = λ e. at_node_count d c

  pub set-count : {p : Phase} → Phased h p → CountOk δ (place_of p) → CountFits s h (set_kind p)
  unfolding CountFits on_chain kind_no pick both
  set-count (peeks g d) c = by_place SetLook SetTail refl d c
  set-count (fetches g d) c = off_chain s h Unknown refl
  set-count (puts g d) c = by_place SetPut SetAppend refl d c
  set-count (agains g d) c = by_place SetRead SetFollow refl d c
  set-count (levels g d) c = λ e. at_node_count d c
  set-count (shuts g d f) c = λ e. at_node_count d c

pub call_fits_lem : (s : Settings) (h : Head) (k : Kind) → h.pixel ≤ max_pixel → CountFits s h k → call_fits s (kind_no k) h ≡ true
unfolding call_fits CountFits
call_fits_lem s h k l c = both_true (le-leb _ _ l) (pick-both (λ b. b ≡ true) (on_chain (kind_no k)) c (λ e. refl))

pub searching_fits : (w : ℕ) (v : Bool) (s : Settings) (r : Record) (k : ℕ) → 0 < k → k ≤ 10 → role_fits v k ≡ true → call_fits s k r.head ≡ true → r.moves ≡ [] → fits_by w v s k r ≡ true
unfolding fits_by
searching_fits w v s r k l g e c n = pick_false _ _ _ (ne_eqb k 0 (λ y. omega arith)) ∙ both_true e (pick_true _ _ _ (le-leb k 10 g) ∙ both_true c (eq-eqb _ _ (ap length n)))
