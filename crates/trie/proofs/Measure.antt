-- The measure of a worker's call: the levels that are not published yet, and what the worker has before it until the next chain is closed.
-- Relies on Digits, Update, Chain, Tree, World, Stand, Search, Move, Whole, Sum, Weights and Rank.
use mathlib.Core.Path.{◌≡◌}
use mathlib.Core.List.{List, [], ◌∷◌}
use Prim.Native.Nat.{ℕ, suc, ◌+◌, ◌*◌, ◌-◌, ◌≤◌, ◌<◌, min}
use native.Mathlib.Nat.{mul-suc, mul-le-mul_left}
use native.Mathlib.Omega.{arith}
use lib.ListN.{length}
use Rattle.trie.proofs.Digits.{Dims, digit_lt}
use Rattle.trie.proofs.World.{World, Structure}
use Rattle.trie.proofs.Stand.{Pos, at_entry, at_node, Stand, on_entry, on_node, stand_placed}
use Rattle.trie.proofs.Search as search
use Rattle.trie.proofs.Search.{Phase, peek, fetch, put, again, level, shut, Local}
use Rattle.trie.proofs.Move as move
use Rattle.trie.proofs.Move.{Frame, edge, FrameOk, Around, outermost, within, SetOk, Step, gather, aim, set, finish, Moving, frames-le}
use Rattle.trie.proofs.Whole.{Act, idle, searching, moving, ActOk, is_idle, is_searching_lem, is_moving_lem}
use Rattle.trie.proofs.Sum.{sum, sum_le}
use Rattle.trie.proofs.Weights.{under, places, visit, errand, errands, frame, frames, stretch, visit_is, under-errand, errands-le, frame_is, no_frames, frames-suc, stretch_most}
use Rattle.trie.proofs.Rank.{rank, rank_lt}

-- where a phase stands, and the turns that it has left there
abbrev pub level_of : Phase → ℕ
level_of (peek H x) = H
level_of (fetch H x) = H
level_of (put H x n) = H
level_of (again H x) = H
level_of (level H x) = H
level_of (shut H x G) = H

abbrev pub pos_of : Phase → Pos
pos_of (peek H x) = x
pos_of (fetch H x) = x
pos_of (put H x n) = x
pos_of (again H x) = x
pos_of (level H x) = x
pos_of (shut H x G) = x

abbrev pub stage : Phase → ℕ
stage (peek H x) = 4
stage (fetch H x) = 3
stage (put H x n) = 2
stage (again H x) = 1
stage (level H x) = 3
stage (shut H x G) = 2

module _ {δ : Dims} (w : World δ) where
  -- an entry comes before every node
  unfoldable pub place : Pos → ℕ
  place at_entry = places δ
  place (at_node R C) = rank w R

  -- a walk into level H and those under it, of which k turns are left of this one
  abbrev pub walk : ℕ → ℕ → ℕ
  walk H k = under δ (visit δ) (w.tree.depth H) + k

  -- at each place up to four turns
  unfoldable pub phase : Phase → ℕ
  phase p = walk (level_of p) (4 * place (pos_of p) + stage p)

  -- the innermost frame, by the step
  unfoldable pub inner : Frame → Step → ℕ
  inner f gather = frame δ + (suc δ.limit - length f.nodes)
  inner f (aim N T) = errands δ (length f.nodes) + walk T (4 * places δ + 5)
  inner f (set N p) = errands δ (length f.nodes) + phase p
  inner f finish = 0

  -- the frames around it; each goes on setting its node when the one inside it has ended
  unfoldable pub around : List Frame → ℕ
  around [] = 0
  around (f ∷ fs) = around fs + walk f.home (errands δ (length f.nodes))

  unfoldable pub amount : Act → ℕ
  amount idle = 0
  amount (searching p) = phase p
  amount (moving f fs s) = around fs + walk f.home (inner f s)

-- the levels below n that are not published
unfoldable pub unpublished : {δ : Dims} → ℕ → World δ → ℕ
unpublished n w = sum n (λ g. min 1 (w.tree.level_owner g))

unfoldable pub measure : {δ : Dims} → ℕ → World δ → Act → ℕ
measure {δ} n w a = stretch δ * unpublished n w + amount w a

module _ {δ : Dims} {w : World δ} (S : Structure w) where
  place-le : {P : ℕ → Type 0} {H e : ℕ} {x : Pos} → Stand w P H e x → place w x ≤ places δ
  unfolding place
  place-le on_entry = omega arith
  place-le (on_node {R} k) = let a = rank_lt S R (stand_placed S (on_node k)) in omega arith

  -- a walk's turns and those under it
  walk-lt : (H : ℕ) {k : ℕ} → k < visit δ → walk w H k < errand δ
  walk-lt H h = let a = under-errand δ (w.tree.depth H) in omega arith

  stage-le : (p : Phase) → stage p ≤ 4
  stage-le (peek H x) = omega arith
  stage-le (fetch H x) = omega arith
  stage-le (put H x n) = omega arith
  stage-le (again H x) = omega arith
  stage-le (level H x) = omega arith
  stage-le (shut H x G) = omega arith

  phase-lt : (p : Phase) {P : ℕ → Type 0} {e : ℕ} → Stand w P (level_of p) e (pos_of p) → phase w p < errand δ
  unfolding phase
  phase-lt p s = let a = place-le s in let b = stage-le p in walk-lt (level_of p) (omega (arith, visit_is δ))

  search_lt : {v K b : ℕ} {p : Phase} → Local w v K b p → phase w p < errand δ
  search_lt {p = p} (search.peeks s) = phase-lt p s.stand
  search_lt {p = p} (search.fetches s c u) = phase-lt p s.stand
  search_lt {p = p} (search.puts s c a b d) = phase-lt p s.stand
  search_lt {p = p} (search.reads s n) = phase-lt p s.stand
  search_lt {p = p} (search.levels s c d) = phase-lt p s.stand
  search_lt {p = p} (search.shuts s c d k) = phase-lt p s.stand

  set-lt : {v N G : ℕ} {p : Phase} → SetOk w v N G p → phase w p < errand δ
  set-lt {p = p} (move.set_peeks s) = phase-lt p s.stand
  set-lt {p = p} (move.set-puts e s l) = phase-lt p s.stand
  set-lt {p = p} (move.set_reads s n) = phase-lt p s.stand
  set-lt {p = p} (move.set_levels s l d) = phase-lt p s.stand
  set-lt {p = p} (move.set_shuts s l d k) = phase-lt p s.stand

  -- a frame remembers no more nodes than a chain holds
  pub nodes_le : {v : ℕ} {f : Frame} {ns : List ℕ} → FrameOk w v f ns → f.nodes ≡ ns → length f.nodes ≤ δ.limit
  nodes_le {f = f} k n = rw (n, ← k.holds) (S.slot f.home (edge w f) k.path.pub_at (digit_lt δ f.key (w.tree.depth f.home))).short

  around-le : {v K H key G : ℕ} {fs : List Frame} → Around w v K H key G fs → around w fs ≤ frames δ (length fs)
  unfolding around
  around-le (outermost q o d) = rw (no_frames δ) (omega arith)
  around-le (within {f = f} {fs = fs} pre N k n q i a) =
      let b = around-le a in
      let c = errands-le δ (nodes_le k n) in
      let d = under-errand δ (w.tree.depth f.home) in
      omega (arith, frames-suc δ (length fs), frame_is δ)

  inner-le : {v K : ℕ} {f : Frame} {fs : List Frame} {s : Step} → Moving w v K f fs s → inner w f s ≤ frame δ + suc δ.limit
  unfolding inner
  inner-le {f = f} (move.gathers rest k n e a) = omega arith
  inner-le {f = f} (move.aims {N} {T} pre k n o i a) =
      let c = errands-le δ (nodes_le k n) in
      let d = walk-lt T {k = 4 * places δ + 5} (omega (arith, visit_is δ)) in
      omega (arith, frame_is δ)
  inner-le {f = f} (move.sets pre k n s a) =
      let c = errands-le δ (nodes_le k n) in
      let d = set-lt s in
      omega (arith, frame_is δ)
  inner-le (move.finishes k n a) = omega arith

  moving_lt : {v K : ℕ} {f : Frame} {fs : List Frame} {ns : List ℕ} {s : Step} → FrameOk w v f ns → Around w v K f.home f.key f.child fs → Moving w v K f fs s → amount w (moving f fs s) < stretch δ
  unfolding amount
  moving_lt {f = f} {fs = fs} k a m =
      let b = around-le a in
      let c = inner-le m in
      let d = under-errand δ (w.tree.depth f.home) in
      let e = frames-le S a in
      let g = stretch_most δ {n = length fs} (omega (arith, S.tree_ok.bounded f.home k.path.pub_at)) in
      omega arith

  -- less than one stretch is before a worker
  pub amount-lt : {v K b : ℕ} {a : Act} → ActOk w v K b a → amount w a < stretch δ
  unfolding amount
  amount-lt is_idle = let a = stretch_most δ (S.tree_ok.bounded 0 S.tree_ok.root) in omega arith
  amount-lt (is_searching_lem s b l) = let a = stretch_most δ (S.tree_ok.bounded 0 S.tree_ok.root) in let c = search_lt l in omega arith
  amount-lt (is_moving_lem s b (move.gathers rest k n e a)) = moving_lt k a (move.gathers rest k n e a)
  amount-lt (is_moving_lem s b (move.aims pre k n o i a)) = moving_lt k a (move.aims pre k n o i a)
  amount-lt (is_moving_lem s b (move.sets pre k n t a)) = moving_lt k a (move.sets pre k n t a)
  amount-lt (is_moving_lem s b (move.finishes k n a)) = moving_lt k a (move.finishes k n a)

-- fewer than n levels, each with a stretch before it
pub measure-lt : {δ : Dims} {w : World δ} (S : Structure w) (n : ℕ) {v K b : ℕ} {a : Act} → ActOk w v K b a → measure n w a < stretch δ * suc n
unfolding measure unpublished
measure-lt {δ} {w} S n o =
    let a = amount-lt S o in
    let b = sum_le n (λ g. min 1 (w.tree.level_owner g)) 1 (λ g l. omega arith) in
    let d : unpublished n w ≤ n = omega arith in
    let c = mul-le-mul_left (stretch δ) d in
    let e = mul-suc (stretch δ) n in
    omega arith
