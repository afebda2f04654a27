-- The Moves of a record fit the layout: they are few, each has its words, and the nodes that each remembers are at most the chain limit.
-- Relies on the frames that Moves show and on the theory's nesting and chains.
use Prim.Native.Nat.{ℕ, ◌+◌, ◌-◌, ◌≤◌, ◌<◌}
use mathlib.Core.Path.{◌≡◌, refl, sym, ap, ◌∙◌}
use mathlib.Core.Logic.{◌⊎◌, inl, inr}
use mathlib.Core.Bool.{Bool, true}
use mathlib.Core.List.{List, [], ◌∷◌, ◌++◌}
use lib.ListN.{length, length-append}
use native.Mathlib.Omega.{arith}
use borrow.Author.Tests.{eq-eqb, ne_eqb, le-leb, lt-leb}
use Rattle.words.specs.Choice.{pick, both, every}
use Rattle.words.specs.Digits.{depths}
use Rattle.words.proofs.Choice.{pick_true, pick_false, both_true}
use Rattle.settings.specs.Sizes.{max_moves}
use Rattle.settings.specs.declared.Settings.{Settings}
use Rattle.record.specs.declared.Move.{Move}
use Rattle.record.specs.Kinds.{kind_no}
use Rattle.record.specs.Layout.{Record}
use Rattle.record.specs.Fits.{has_node, call_fits, inner_fits, outer_fits, moves_fit, moving_fits, fits_by, role_fits}
use Rattle.record.proofs.Pieces.{AllSized}
use Rattle.trie.proofs.Digits.{Dims, digit_lt}
use Rattle.trie.proofs.World.{World, Structure}
use Rattle.trie.proofs.Move as theory
use Rattle.trie.proofs.Move.{Frame, edge, FrameOk, Around, Step, Moving, frame_depth, frames-le}
use Rattle.trie.proofs.MoveTurns.{frame_published}
use Rattle.rules.proofs.Matches.{gather_kind, step_kind, Framed, Frames, none, more}
use Rattle.rules.proofs.KindNumbers.{set_no}
use Rattle.rules.proofs.MoveRecords.{framed_count, last-count, frames-length}
use Rattle.rules.proofs.FitsCall.{within_ok}

pub frames_sized : {vs : List Move} {fs : List Frame} → Frames vs fs → AllSized vs
frames_sized none = tt
frames_sized (more k ks) = (k.sized, frames_sized ks)

-- the innermost Move by the number of its kind: it has a node to go on with, or has remembered none
data Inner (s : Settings) (k c : ℕ) : Type 0 where
  going_on : 11 < k → k ≤ 21 → 0 < c → c ≤ s.limit → Inner s k c
  at_end : (k ≡ 11) ⊎ (k ≡ 22) → c ≡ 0 → Inner s k c

inner_low : {s : Settings} {k c : ℕ} → Inner s k c → (10 < k) × (k ≤ 22)
inner_low (going_on l h a b) = (omega arith, omega arith)
inner_low (at_end (inl e) z) = (omega arith, omega arith)
inner_low (at_end (inr e) z) = (omega arith, omega arith)

inner-fits : (s : Settings) (k c : ℕ) → Inner s k c → inner_fits s k c ≡ true
unfolding inner_fits has_node pick both
inner-fits s k c (going_on l h a b) = pick_true _ _ _ (both_true (le-leb 12 k (omega arith)) (le-leb k 21 h)) ∙ within_ok c s.limit a b
inner-fits s k c (at_end (inl e) z) = ap (λ k. inner_fits s k c) e ∙ eq-eqb c 0 z
inner-fits s k c (at_end (inr e) z) = ap (λ k. inner_fits s k c) e ∙ eq-eqb c 0 z

module _ {δ : Dims} {w : World δ} (S : Structure w) where
  -- a frame's chain is at most the chain limit
  frame_short : {v : ℕ} {f : Frame} {ns : List ℕ} → FrameOk w v f ns → length ns ≤ δ.limit
  frame_short {v} {f} {ns} k = rw k.holds at (S.slot f.home (edge w f) k.path.pub_at (digit_lt δ f.key (w.tree.depth f.home))).short

  -- so is what is remembered, and a frame that sets a node remembers it
  node_count : {u : ℕ} {v : Move} {f : Frame} (pre : List ℕ) (N : ℕ) → Framed v f → FrameOk w u f (pre ++ (N ∷ [])) → f.nodes ≡ pre ++ (N ∷ []) → (0 < v.count) × (v.count ≤ δ.limit)
  node_count {u} {v} {f} pre N k o n =
      let e = last-count k pre N n in
      let short = frame_short o in
      let l = length-append pre (N ∷ []) in
      (omega arith, omega arith)

  -- the frames around
  pub outer-fits : (s : Settings) → s.limit ≡ δ.limit → {u K H key G : ℕ} {vs : List Move} {fs : List Frame} → Frames vs fs → Around w u K H key G fs → every (outer_fits s) vs ≡ true
  unfolding every outer_fits
  outer-fits s e none a = refl
  outer-fits s e (more {v} k ks) (theory.within pre N o n q i a) =
      let (l, g) = node_count pre N k o n in
      both_true (within_ok v.count s.limit l (omega arith)) (outer-fits s e ks a)

  -- the frame and those around it are fewer than the depths
  frames_few : {u K : ℕ} {f : Frame} {fs : List Frame} {ns : List ℕ} → FrameOk w u f ns → Around w u K f.home f.key f.child fs → length fs + 1 ≤ δ.depths - 1
  frames_few {f = f} k a = omega (arith, frames-le S a, frame_depth S k, S.tree_ok.bounded f.child (frame_published S k))

  -- the innermost Move: the number of its kind, and of the nodes that it remembers
  inner : (s : Settings) → s.limit ≡ δ.limit → {u K : ℕ} {v : Move} {f : Frame} {fs : List Frame} {p : Step} → Framed v f → Moving w u K f fs p → Inner s (kind_no (step_kind f p)) v.count
  unfolding kind_no
  inner s e {v = v} {f = f} k (theory.gathers rest o n q a) = by f.nodes refl
    where
      by : (ns : List ℕ) → f.nodes ≡ ns → Inner s (kind_no (gather_kind ns)) v.count
      by [] z = at_end (inl refl) (sym (framed_count k) ∙ ap length z)
      by (m ∷ ns) z = going_on (omega arith) (omega arith) (omega (arith, framed_count k, ap length z)) (omega (arith, framed_count k, length-append f.nodes rest))
  inner s e k (theory.aims {N} pre o n q i a) = let (l, g) = node_count pre N k o n in going_on (omega arith) (omega arith) l (omega arith)
  inner s e k (theory.sets {N} pre o n c a) =
      let (l, g) = node_count pre N k o n in
      let (x, y) = set_no c in
      going_on (omega arith) (omega arith) l (omega arith)
  inner s e k (theory.finishes o n a) = at_end (inr refl) (sym (framed_count k) ∙ ap length n)

  -- a moving worker's frames
  record Framing (u K : ℕ) (f : Frame) (fs : List Frame) : Type 0 where
    ns : List ℕ
    frame : FrameOk w u f ns
    around : Around w u K f.home f.key f.child fs

  framing : {u K : ℕ} {f : Frame} {fs : List Frame} {p : Step} → Moving w u K f fs p → Framing u K f fs
  framing (theory.gathers rest o n q a) = record { ns = _; frame = o; around = a }
  framing (theory.aims pre o n q i a) = record { ns = _; frame = o; around = a }
  framing (theory.sets pre o n c a) = record { ns = _; frame = o; around = a }
  framing (theory.finishes o n a) = record { ns = _; frame = o; around = a }

  pub moves_few : {u K : ℕ} {f : Frame} {fs : List Frame} {p : Step} {vs : List Move} → Frames vs (f ∷ fs) → Moving w u K f fs p → length vs ≤ δ.depths - 1
  moves_few k m = let g = framing m in omega (arith, frames-length k, frames_few g.frame g.around)

  moves_fit_lem : (s : Settings) → s.limit ≡ δ.limit → {u K : ℕ} {f : Frame} {fs : List Frame} {p : Step} {vs : List Move} → Frames vs (f ∷ fs) → Moving w u K f fs p → (10 < kind_no (step_kind f p)) × (kind_no (step_kind f p) ≤ 22) × (moves_fit s (kind_no (step_kind f p)) vs ≡ true)
  unfolding moves_fit
  moves_fit_lem s e {f = f} {p = p} (more {v} k ks) m =
      let i = inner s e k m in
      let (l, h) = inner_low i in
      (l, h, both_true (inner-fits s (kind_no (step_kind f p)) v.count i) (outer-fits s e ks (framing m).around))

  pub moving_fits_lem : (d : ℕ) (v : Bool) (s : Settings) (r : Record) → depths d ≡ δ.depths → s.limit ≡ δ.limit → {u K : ℕ} {f : Frame} {fs : List Frame} {p : Step} → Frames r.moves (f ∷ fs) → Moving w u K f fs p → role_fits v (kind_no (step_kind f p)) ≡ true → call_fits s (kind_no (step_kind f p)) r.head ≡ true → fits_by d v s (kind_no (step_kind f p)) r ≡ true
  unfolding fits_by moving_fits max_moves
  moving_fits_lem d v s r g e {f = f} {p = p} k m y c =
      let n = kind_no (step_kind f p) in
      let (l, h, t) = moves_fit_lem s e k m in
      let few : length r.moves ≤ depths d - 1 = omega (arith, moves_few k m) in
      pick_false _ _ _ (ne_eqb n 0 (λ y. omega arith)) ∙ both_true y (pick_false _ _ _ (lt-leb n 10 l) ∙ pick_true _ _ _ (le-leb n 22 h) ∙ both_true c (pick_true _ _ _ (le-leb _ _ few) ∙ t))
