-- The measure falls in the turns of a Move.
-- Relies on Digits, Update, Chain, Tree, World, Evolve, Stand, Search, Move, MoveTurns, Whole, Redirect, MoveOne, TakeLevel, Weights, Measure and Falls.
use mathlib.Core.Path.{◌≡◌, refl, ap, ◌∙◌}
use mathlib.Core.Logic.{◌≢◌}
use mathlib.Core.List.{List, [], ◌∷◌, ◌++◌}
use Prim.Native.Nat.{ℕ, suc, ◌+◌, ◌≤◌, ◌<◌}
use native.Mathlib.Omega.{arith}
use lib.ListN.{length, length-append}
use Rattle.trie.proofs.Digits.{Dims}
use Rattle.trie.proofs.Tree.{Published}
use Rattle.trie.proofs.World.{World, Structure}
use Rattle.trie.proofs.Evolve.{Grows, grows_refl}
use Rattle.trie.proofs.Stand.{Pos, at_entry, Stand}
use Rattle.trie.proofs.Search.{Phase, peek, put, again, level, shut}
use Rattle.trie.proofs.Move.{Frame, edge, FrameOk, Around, outermost, within, Step, gather, aim, set, finish, frame_depth}
use Rattle.trie.proofs.MoveTurns.{with_nodes}
use Rattle.trie.proofs.MoveOne.{move_one, CanMove, move_grows}
use Rattle.trie.proofs.TakeLevel.{take_level, level_grows}
use Rattle.trie.proofs.Whole.{searching, moving}
use Rattle.trie.proofs.Weights.{under, visit, errands, visit_is, under_less, under-errand, errands-suc, errands-le, frame_is}
use Rattle.trie.proofs.Measure.{place, phase, inner, around, amount, unpublished}
use Rattle.trie.proofs.Falls.{Falls, lower, taken_same, taken-phase}

-- the frames around weigh the same
around_same : {δ : Dims} {w w' : World δ} → Grows w w' → {v K H key G : ℕ} {fs : List Frame} → Around w v K H key G fs → around w' fs ≡ around w fs
unfolding around
around_same E (outermost q o d) = refl
around_same E (within {f = f} pre N k n q i a) = rw (E.depth_is f.home k.path.pub_at, around_same E a) refl

same_levels : {δ : Dims} (n : ℕ) (w w' : World δ) → w'.tree ≡ w.tree → unpublished n w' ≡ unpublished n w
unfolding unpublished
same_levels n w w' t = rw t refl

module _ {δ : Dims} {w : World δ} (S : Structure w) (n : ℕ) {v K : ℕ} {f : Frame} {fs : List Frame} {ns : List ℕ} (k : FrameOk w v f ns) (c : Around w v K f.home f.key f.child fs) where
  -- the innermost frame has less before it
  inner_falls : {w' : World δ} {s s' : Step} (ms : List ℕ) → Grows w w' → unpublished n w' ≡ unpublished n w → inner w' (with_nodes f ms) s' < inner w f s → Falls n w w' (moving f fs s) (moving (with_nodes f ms) fs s')
  unfolding amount
  inner_falls {w'} {s} {s'} ms E u h =
      let d = E.depth_is f.home k.path.pub_at in
      let a = around_same E c in
      let b = ap (λ e. under δ (visit δ) e) d in
      lower n w w' (moving f fs s) (moving (with_nodes f ms) fs s') u (omega arith)

  -- ChainHead, ChainNext: one node more is remembered
  pub gather_falls : (m : ℕ) → length f.nodes ≤ δ.limit → Falls n w w (moving f fs gather) (moving (with_nodes f (f.nodes ++ (m ∷ []))) fs gather)
  unfolding inner
  gather_falls m h = inner_falls (f.nodes ++ (m ∷ [])) (grows_refl w) refl (rw length-append (omega arith))

  -- the chain is known
  pub gathered_falls : {N : ℕ} → length f.nodes ≤ δ.limit → Falls n w w (moving f fs gather) (moving f fs (aim N f.child))
  unfolding inner
  gathered_falls {N} h =
      let a = errands-le δ h in
      let b = under-errand δ (w.tree.depth f.child) in
      inner_falls f.nodes (grows_refl w) refl (omega (arith, frame_is δ, visit_is δ))

  -- SetNext
  pub aim_falls : {w' : World δ} {N T : ℕ} → Grows w w' → w'.tree ≡ w.tree → Falls n w w' (moving f fs (aim N T)) (moving f fs (set N (peek T at_entry)))
  unfolding inner phase place
  aim_falls {w'} E t = inner_falls f.nodes E (same_levels n w w' t) (rw t (omega arith))

  -- a later phase of setting the node
  pub set_falls : {N : ℕ} {p q : Phase} → phase w q < phase w p → Falls n w w (moving f fs (set N p)) (moving f fs (set N q))
  unfolding inner
  set_falls h = inner_falls f.nodes (grows_refl w) refl (omega arith)

  -- a level is met: the node is set into a deeper one
  pub set_down_falls : {N T t : ℕ} {q : Phase} (x : Pos) → phase w (again T x) ≤ phase w q → Published w.tree T → w.tree.depth T < w.tree.depth t → Falls n w w (moving f fs (set N q)) (moving f fs (aim N t))
  unfolding inner phase
  set_down_falls {N} {T} x h p l =
      let a = under_less δ (visit δ) l (S.tree_ok.bounded T p) in
      inner_falls f.nodes (grows_refl w) refl (omega (arith, visit_is δ))

  -- SetLevel
  pub set-level_falls : {N T G : ℕ} {x : Pos} {P : ℕ → Type 0} {e : ℕ} (held : w.tree.level_owner G ≢ 0) (H d p u : ℕ) → u ≢ 0 → Published w.tree T → Stand w P T e x → Falls n w (take_level w G H d p u) (moving f fs (set N (level T x))) (moving f fs (set N (shut T x G)))
  unfolding inner
  set-level_falls held H d p u z o s =
      let a = taken-phase S held H d p u z o s in
      inner_falls f.nodes (level_grows S held H d p u z) (taken_same S n held H d p u z) (omega arith)

  -- SetPut, SetAppend done: the node before it is next, or the Move ends
  pub put_falls : {N N' M T y : ℕ} {x : Pos} (pre : List ℕ) → f.nodes ≡ pre ++ (N ∷ []) → (can : CanMove w f.home (edge w f) pre N T y) → Falls n w (move_one w f.home (edge w f) pre N T y) (moving f fs (set N (put T x M))) (moving (with_nodes f pre) fs (aim N' f.child))
  unfolding inner unpublished
  put_falls {N} pre e can =
      let a = ap (errands δ) (ap length e ∙ length-append pre (N ∷ [])) in
      let b = errands-suc δ (length pre) in
      let d = under-errand δ (w.tree.depth f.child) in
      let g : errands δ (length pre + 1) ≡ errands δ (suc (length pre)) = ap (errands δ) (omega arith) in
      inner_falls pre (move_grows S can) refl (omega (arith, visit_is δ))

  pub last_falls : {N M T y : ℕ} {x : Pos} (pre : List ℕ) → (can : CanMove w f.home (edge w f) pre N T y) → Falls n w (move_one w f.home (edge w f) pre N T y) (moving f fs (set N (put T x M))) (moving (with_nodes f pre) fs finish)
  unfolding inner phase unpublished
  last_falls pre can = inner_falls pre (move_grows S can) refl (omega arith)

-- MoveEnd: the search goes on in the child, or the node of the frame around is set there
module _ {δ : Dims} {w : World δ} (S : Structure w) (n : ℕ) {v : ℕ} {f : Frame} {ns : List ℕ} (k : FrameOk w v f ns) where
  deeper : under δ (visit δ) (w.tree.depth f.child) + visit δ ≤ under δ (visit δ) (w.tree.depth f.home)
  deeper = let d = frame_depth S k in under_less δ (visit δ) (omega arith) (S.tree_ok.bounded f.home k.path.pub_at)

  pub search_falls : {w' : World δ} → w'.tree ≡ w.tree → Falls n w w' (moving f [] finish) (searching (peek f.child at_entry))
  unfolding amount around inner phase place
  search_falls {w'} t = lower n w w' (moving f [] finish) (searching (peek f.child at_entry)) (same_levels n w w' t) (rw t (omega (arith, deeper, visit_is δ)))

  pub outer_falls : {w' : World δ} {K N : ℕ} {g : Frame} {gs : List Frame} → Grows w w' → w'.tree ≡ w.tree → Around w v K f.home f.key f.child (g ∷ gs) → Falls n w w' (moving f (g ∷ gs) finish) (moving g gs (aim N f.child))
  unfolding amount around inner
  outer_falls {w'} {N = N} {g = g} {gs = gs} E t (within pre M j m q i a) =
      let b = around_same E a in
      lower n w w' (moving f (g ∷ gs) finish) (moving g gs (aim N f.child)) (same_levels n w w' t) (rw t (omega (arith, deeper, visit_is δ)))
