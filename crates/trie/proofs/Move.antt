-- A worker that moves chains: its frames, its clause by kind of turn, and that the others leave it true.
-- Relies on Digits, Update, Lists, Chain, Tree, World, Evolve, Stand and Search.
use mathlib.Core.Path.{◌≡◌, sym, ap, ◌∙◌}
use mathlib.Core.Logic.{◌≢◌}
use mathlib.Core.List.{List, [], ◌∷◌, ◌++◌}
use Prim.Native.Nat.{ℕ, suc, ◌≤◌, ◌<◌}
use native.Mathlib.Omega.{arith}
use lib.ListN.{length}
use Rattle.trie.proofs.Digits.{Dims, digit, digit_lt}
use Rattle.trie.proofs.Update.{ent, nxt}
use Rattle.trie.proofs.Lists.{◌∈◌, ∈-last}
use Rattle.trie.proofs.Chain.{level_ref, end_cell, end_at}
use Rattle.trie.proofs.Tree.{Inside, OnPath, inside_depth, closed_depth}
use Rattle.trie.proofs.World.{World, Placed, last_cell, end, Structure, Deep}
use Rattle.trie.proofs.Evolve.{Grows, Spares, path_stays, deep_stays, level-stays}
use Rattle.trie.proofs.Stand.{Pos, passed, CountOk, Stand, stand_stays, not_H-stays}
use Rattle.trie.proofs.Search.{Phase, peek, put, again, level, shut, word, Blank, blank_stays}

-- the chain of K's digit at `home` moves into `child`; the nodes remembered
pub record Frame : Type 0 where
  pub home : ℕ
  pub child : ℕ
  pub key : ℕ
  pub nodes : List ℕ

abbrev pub edge : {δ : Dims} → World δ → Frame → ℕ
edge {δ} w f = digit δ f.key (w.tree.depth f.home)

-- worker v moves the frame's chain, which is ns now
pub record FrameOk {δ : Dims} (w : World δ) (v : ℕ) (f : Frame) (ns : List ℕ) : Type 0 where
  pub path : OnPath w.tree f.key f.home
  pub leads : w.tree.into f.home (edge w f) ≡ f.child
  pub real : f.child ≢ 0
  pub mine : w.mover f.child ≡ v
  pub holds : w.chain f.home (edge w f) ≡ ns

-- The frames around the one at level H with this key and child. Each is setting its last node N, for which the inner chain was closed.
pub data Around {δ : Dims} (w : World δ) (v K : ℕ) : ℕ → ℕ → ℕ → List Frame → Type 0 where
  outermost : {H key G : ℕ} → key ≡ K → OnPath w.tree K G → Deep w K G → Around w v K H key G []
  within : {H key G : ℕ} {f : Frame} {fs : List Frame} (pre : List ℕ) (N : ℕ) → FrameOk w v f (pre ++ (N ∷ [])) → f.nodes ≡ pre ++ (N ∷ []) → key ≡ w.pixel N → Inside w.tree f.child H → Around w v K f.home f.key f.child fs → Around w v K H key G (f ∷ fs)

-- setting node N into T, inside G, at place x
pub record Setting {δ : Dims} (w : World δ) (N G T : ℕ) (x : Pos) : Type 0 where
  pub path : OnPath w.tree (w.pixel N) T
  pub inside : Inside w.tree G T
  pub aimed : w.cell (nxt N) ≡ level_ref T
  pub stand : Stand w (λ n. Unit {0}) T (digit δ (w.pixel N) (w.tree.depth T)) x
  pub counted : CountOk δ x

-- by kind: SetLook, SetTail; SetPut, SetAppend; SetRead, SetFollow; SetLevel; SetClose
pub data SetOk {δ : Dims} (w : World δ) (v N G : ℕ) : Phase → Type 0 where
  set_peeks : {T : ℕ} {x : Pos} → Setting w N G T x → SetOk w v N G (peek T x)
  set-puts : {T n : ℕ} {x : Pos} → n ≡ N → Setting w N G T x → passed x < δ.limit → SetOk w v N G (put T x n)
  set_reads : {T : ℕ} {x : Pos} → Setting w N G T x → word w (w.pixel N) T x ≢ level_ref T → SetOk w v N G (again T x)
  set_levels : {T : ℕ} {x : Pos} → Setting w N G T x → passed x ≡ δ.limit → suc (w.tree.depth T) < δ.depths → SetOk w v N G (level T x)
  set_shuts : {T M : ℕ} {x : Pos} → Setting w N G T x → passed x ≡ δ.limit → suc (w.tree.depth T) < δ.depths → Blank w v (w.pixel N) T M → SetOk w v N G (shut T x M)

pub data Step : Type 0 where
  gather : Step
  -- SetNext for node N and level T; the kinds of setting N
  aim : ℕ → ℕ → Step
  set : ℕ → Phase → Step
  finish : Step

-- the worker's clause while it moves: innermost frame, frames around it, step
pub data Moving {δ : Dims} (w : World δ) (v K : ℕ) (f : Frame) (fs : List Frame) : Step → Type 0 where
  gathers : (rest : List ℕ) → FrameOk w v f (f.nodes ++ rest) → length (f.nodes ++ rest) ≡ δ.limit → end w f.home (edge w f) ≡ level_ref f.child → Around w v K f.home f.key f.child fs → Moving w v K f fs gather
  aims : {N T : ℕ} (pre : List ℕ) → FrameOk w v f (pre ++ (N ∷ [])) → f.nodes ≡ pre ++ (N ∷ []) → OnPath w.tree (w.pixel N) T → Inside w.tree f.child T → Around w v K f.home f.key f.child fs → Moving w v K f fs (aim N T)
  sets : {N : ℕ} {p : Phase} (pre : List ℕ) → FrameOk w v f (pre ++ (N ∷ [])) → f.nodes ≡ pre ++ (N ∷ []) → SetOk w v N f.child p → Around w v K f.home f.key f.child fs → Moving w v K f fs (set N p)
  finishes : FrameOk w v f [] → f.nodes ≡ [] → Around w v K f.home f.key f.child fs → Moving w v K f fs finish

-- the last node of a frame's chain: placed, and its next is the chain's end
module _ {δ : Dims} {w : World δ} (S : Structure w) (pre : List ℕ) (N : ℕ) {v : ℕ} {f : Frame} (k : FrameOk w v f (pre ++ (N ∷ []))) where
  pub last_in : N ∈ w.chain f.home (edge w f)
  last_in = rw k.holds (∈-last pre N)

  pub last-placed : Placed w N
  last-placed = (S.homed N f.home (edge w f) last_in).placed

  pub last_cell_lem : last_cell w f.home (edge w f) ≡ nxt N
  last_cell_lem = ap (end_cell (ent f.home (edge w f))) k.holds ∙ end_at (ent f.home (edge w f)) pre N []

-- a frame's home is above its child
pub frame_depth : {δ : Dims} {w : World δ} (S : Structure w) {v : ℕ} {f : Frame} {ns : List ℕ} → FrameOk w v f ns → w.tree.depth f.child ≡ suc (w.tree.depth f.home)
frame_depth {δ} {w} S {v} {f} k = ap w.tree.depth (sym k.leads) ∙ closed_depth S.tree_ok f.home (edge w f) (λ z. k.real (sym k.leads ∙ z))

-- what the world must keep for a frame
pub record Keeps {δ : Dims} (w w' : World δ) (f : Frame) : Type 0 where
  pub chain_is : w'.chain f.home (edge w f) ≡ w.chain f.home (edge w f)
  pub mover_is : w'.mover f.child ≡ w.mover f.child

module _ {δ : Dims} {w w' : World δ} (E : Grows w w') (S : Structure w) (S' : Structure w') where
  edge_is : {v : ℕ} {f : Frame} {ns : List ℕ} → FrameOk w v f ns → edge w' f ≡ edge w f
  edge_is {v} {f} k = ap (digit δ f.key) (E.depth_is f.home k.path.pub_at)

  pub frame-stays : {v : ℕ} {f : Frame} {ns : List ℕ} → Keeps w w' f → FrameOk w v f ns → FrameOk w' v f ns
  frame-stays {v} {f} {ns} x k =
      let e = edge_is k in
      record {
        path = path_stays E k.path;
        leads = rw e (E.into_is f.home (edge w f) (λ z. k.real (sym k.leads ∙ z)) ∙ k.leads);
        real = k.real;
        mine = x.mover_is ∙ k.mine;
        holds = rw e (x.chain_is ∙ k.holds);
      }

  -- the frames around level H lie above it
  pub around-stays : {v K H key G : ℕ} {fs : List Frame} → ((f : Frame) (ns : List ℕ) → FrameOk w v f ns → w.tree.depth f.home < w.tree.depth H → Keeps w w' f) → Around w v K H key G fs → Around w' v K H key G fs
  around-stays keep (outermost q o d) = outermost q (path_stays E o) (deep_stays E S S' o d)
  around-stays {v} {K} {H} keep (within {f} pre N k n q i a) =
      let low = inside_depth S.tree_ok i in
      let deep = frame_depth S k in
      within pre N (frame-stays (keep f (pre ++ (N ∷ [])) k (omega arith)) k) n (q ∙ sym (E.pixel_is N (last-placed S pre N k))) (level-stays E i) (around-stays (λ h ns j l. keep h ns j (omega arith)) a)

  pub setting_stays : {N G T : ℕ} {x : Pos} → Placed w N → w'.cell (nxt N) ≡ w.cell (nxt N) → Setting w N G T x → Setting w' N G T x
  setting_stays {N} {G} {T} p c s =
      let q = E.pixel_is N p in
      record {
        path = rw q (path_stays E s.path);
        inside = level-stays E s.inside;
        aimed = c ∙ s.aimed;
        stand = rw (q, E.depth_is T s.path.pub_at) (stand_stays E S (λ n a b. tt) s.stand);
        counted = s.counted;
      }

  pub set-stays : {v N G : ℕ} {p : Phase} → Spares v w w' → Placed w N → w'.cell (nxt N) ≡ w.cell (nxt N) → SetOk w v N G p → SetOk w' v N G p
  set-stays X p c (set_peeks s) = set_peeks (setting_stays p c s)
  set-stays X p c (set-puts e s l) = set-puts e (setting_stays p c s) l
  set-stays {v} {N} X p c (set_reads {T} s n) =
      set_reads (setting_stays p c s) (rw (E.pixel_is N p, E.depth_is T s.path.pub_at, word) (not_H-stays E S S' s.path.pub_at (digit_lt δ (w.pixel N) (w.tree.depth T)) s.stand n))
  set-stays X p c (set_levels {T} s l d) = set_levels (setting_stays p c s) l (rw (E.depth_is T s.path.pub_at) d)
  set-stays {v} {N} X p c (set_shuts {T} {M} s l d k) =
      set_shuts {M = M} (setting_stays p c s) l (rw (E.depth_is T s.path.pub_at) d) (rw (E.pixel_is N p) (blank_stays E S S' s.path.pub_at X k))

  -- what the others do leaves a frame alone
  pub spared : {v : ℕ} {f : Frame} {ns : List ℕ} → Spares v w w' → FrameOk w v f ns → Keeps w w' f × (w'.cell (last_cell w f.home (edge w f)) ≡ w.cell (last_cell w f.home (edge w f)))
  spared {v} {f} X k =
      let (a, b, c) = X.my_move f.home (edge w f) (λ z. k.real (sym k.leads ∙ z)) (rw k.leads k.mine) in
      (record { chain_is = b; mover_is = (rw k.leads at a) ∙ sym k.mine }, c)

  pub moving_stays : {v K : ℕ} {f : Frame} {fs : List Frame} {p : Step} → Spares v w w' → Moving w v K f fs p → Moving w' v K f fs p
  moving_stays {v} {K} {f} X (gathers rest k n e a) = gathers rest (frame-stays (spared X k).0 k) n (ap (end w' f.home) (edge_is k) ∙ ap (λ ns. w'.cell (end_cell (ent f.home (edge w f)) ns)) (spared X k).0.chain_is ∙ (spared X k).1 ∙ e) (around-stays (λ h ns j l. (spared X j).0) a)
  moving_stays {v} {K} {f} X (aims {N} {T} pre k n o i a) =
      aims {N = N} {T = T} pre (frame-stays (spared X k).0 k) n (rw (E.pixel_is N (last-placed S pre N k)) (path_stays E o)) (level-stays E i) (around-stays (λ h ns j l. (spared X j).0) a)
  moving_stays {v} {K} {f} X (sets {N} pre k n s a) =
      sets {N = N} pre (frame-stays (spared X k).0 k) n (set-stays X (last-placed S pre N k) (rw (last_cell_lem S pre N k) at (spared X k).1) s) (around-stays (λ h ns j l. (spared X j).0) a)
  moving_stays {v} {K} {f} X (finishes k n a) = finishes (frame-stays (spared X k).0 k) n (around-stays (λ h ns j l. (spared X j).0) a)

-- one frame to a depth: with n frames around it, level H is at depth n or deeper
pub frames-le : {δ : Dims} {w : World δ} (S : Structure w) {v K H key G : ℕ} {fs : List Frame} → Around w v K H key G fs → length fs ≤ w.tree.depth H
frames-le S (outermost q o d) = omega arith
frames-le S (within pre N k n q i a) = let b = frames-le S a in omega (arith, inside_depth S.tree_ok i, frame_depth S k)
