-- The end of a Move: its last write, and how the moving worker goes on.
-- Relies on Digits, Update, Chain, Tree, World, Read, Evolve, Stand, Redirect, Search and Move.
use mathlib.Core.Path.{◌≡◌, refl, sym, ap, ◌∙◌}
use mathlib.Core.Logic.{◌≢◌}
use mathlib.Core.List.{List, [], ◌∷◌, ◌++◌}
use Prim.Native.Nat.{ℕ, suc, ◌<◌}
use native.Mathlib.Omega.{arith}
use Rattle.trie.proofs.Digits.{Dims, digit_lt}
use Rattle.trie.proofs.Update.{upd, upd_other}
use Rattle.trie.proofs.Chain.{level_ref}
use Rattle.trie.proofs.Tree.{here, inside_depth, path_down}
use Rattle.trie.proofs.World.{World, to_level_lem, Structure}
use Rattle.trie.proofs.Read.{inside_child}
use Rattle.trie.proofs.Evolve.{Grows, path_stays, deep_stays, level-stays}
use Rattle.trie.proofs.Stand.{at_entry, on_entry}
use Rattle.trie.proofs.Redirect.{redirect, CanRedirect, redirect_grows, redirect_structure}
use Rattle.trie.proofs.Search.{peek, Local, peeks}
use Rattle.trie.proofs.Move.{Frame, edge, FrameOk, Around, outermost, within, aim, finish, Moving, aims, finishes, Keeps, frame-stays, around-stays, frame_depth}

-- the last write of a Move
pub finish_can : {δ : Dims} {w : World δ} (S : Structure w) {v : ℕ} {f : Frame} → FrameOk w v f [] → CanRedirect w f.home (edge w f) (level_ref f.child)
finish_can {δ} {w} S {v} {f} k =
    record {
      level = k.path.pub_at;
      at = digit_lt δ f.key (w.tree.depth f.home);
      closed = λ y. k.real (sym k.leads ∙ y);
      inside = to_level_lem f.child refl (here (sym k.leads));
      straight = λ t c q. let same : t ≡ f.child = omega arith in same ∙ sym k.leads;
    }

-- MoveEnd: the search goes on at the child, or the frame around goes on setting its node, into the child
pub data Finished {δ : Dims} (w : World δ) (v K b : ℕ) (f : Frame) : List Frame → Type 0 where
  search_on : Local w v K b (peek f.child at_entry) → Finished w v K b f []
  set_into : {g : Frame} {gs : List Frame} (N : ℕ) → Moving w v K g gs (aim N f.child) → Finished w v K b f (g ∷ gs)

pub finish_next : {δ : Dims} {w : World δ} (S : Structure w) {v K : ℕ} (b : ℕ) {f : Frame} {fs : List Frame} → Moving w v K f fs finish → Finished (redirect w f.home (edge w f) (level_ref f.child) (upd w.mover f.child 0)) v K b f fs
finish_next {δ} {w} S {v} {K} b {f} (finishes k n a) = by a
  where
    mv : ℕ → ℕ
    mv = upd w.mover f.child 0

    w' : World δ
    w' = redirect w f.home (edge w f) (level_ref f.child) mv

    can : CanRedirect w f.home (edge w f) (level_ref f.child)
    can = finish_can S k

    S' : Structure w'
    S' = redirect_structure S can mv

    E : Grows w w'
    E = redirect_grows S can mv

    deep : w.tree.depth f.child ≡ suc (w.tree.depth f.home)
    deep = frame_depth S k

    -- frames whose child is above this one's
    keep : (h : Frame) (ns : List ℕ) → FrameOk w v h ns → w.tree.depth h.home < w.tree.depth f.home → Keeps w w' h
    keep h ns j l = record { chain_is = refl; mover_is = upd_other w.mover f.child 0 h.child (λ y. omega (arith, deep, frame_depth S j, ap w.tree.depth y)) }

    by : {fs : List Frame} → Around w v K f.home f.key f.child fs → Finished w' v K b f fs
    by (outermost q o d) = search_on (peeks (record { path = path_stays E o; deep = deep_stays E S S' o d; stand = on_entry; counted = tt }))
    by (within {f = g} pre N j m q i c) =
        let low = inside_depth S.tree_ok i in
        let up = frame_depth S j in
        let z : w.tree.into f.home (edge w f) ≢ 0 = λ y. k.real (sym k.leads ∙ y) in
        let o = rw (k.leads, q) at (path_down S.tree_ok k.path z) in
        set_into N (aims {N = N} pre (frame-stays E S S' (keep g (pre ++ (N ∷ [])) j (omega arith)) j) m (path_stays E o) (level-stays E (rw k.leads at (inside_child S.tree_ok z i (here refl)))) (around-stays E S S' (λ h ns y l. keep h ns y (omega arith)) c))
