-- The measure falls: what the turns of a search and of a Move share, and the turns of a search.
-- Relies on Digits, Update, Chain, Tree, World, Evolve, Stand, Search, Whole, Sum, Close, TakeNode, TakeLevel, Weights, Rank and Measure.
use mathlib.Core.Path.{◌≡◌, refl, sym, ap, ◌∙◌}
use mathlib.Core.Logic.{◌≢◌}
use Prim.Native.Nat.{ℕ, suc, ◌*◌, ◌≤◌, ◌<◌, min}
use native.Mathlib.Nat.{mul-suc}
use native.Mathlib.Decide.{ℕ_discrete}
use native.Mathlib.Omega.{arith}
use Rattle.trie.proofs.Digits.{Dims}
use Rattle.trie.proofs.Update.{upd, upd_same, upd_other}
use Rattle.trie.proofs.Chain.{level_ref, node_ref}
use Rattle.trie.proofs.Tree.{Published}
use Rattle.trie.proofs.World.{World, Placed, Structure}
use Rattle.trie.proofs.Evolve.{Grows}
use Rattle.trie.proofs.Stand.{Pos, at_entry, at_node, cell_of, Stand, on_entry, on_node, stand_placed}
use Rattle.trie.proofs.Search.{Phase, peek, fetch, put, again, level, shut, Local, fetches}
use Rattle.trie.proofs.Whole.{Act, searching, ActOk}
use Rattle.trie.proofs.Sum.{sum, sum_upd, sum_ext}
use Rattle.trie.proofs.Close.{close, CanClose, close_structure}
use Rattle.trie.proofs.TakeNode.{take_node, take_grows}
use Rattle.trie.proofs.TakeLevel.{take_level, level_grows}
use Rattle.trie.proofs.Weights.{visit, stretch, visit_is, under_less}
use Rattle.trie.proofs.Rank.{rank_lt, rank_next, rank_stays}
use Rattle.trie.proofs.Measure.{level_of, pos_of, stage, place, phase, amount, unpublished, measure, amount-lt}

-- a turn from w to w' of a worker that did a and does a' then, in a table of n levels
pub record Falls {δ : Dims} (n : ℕ) (w w' : World δ) (a a' : Act) : Type 0 where
  pub less : measure n w' a' < measure n w a

-- as many levels unpublished, and less before the worker
pub lower : {δ : Dims} (n : ℕ) (w w' : World δ) (a a' : Act) → unpublished n w' ≡ unpublished n w → amount w' a' < amount w a → Falls n w w' a a'
unfolding measure
lower {δ} n w w' a a' e h = let k = ap (λ u. stretch δ * u) e in record { less = omega arith }

-- at the same place a later stage
pub later : {δ : Dims} (w : World δ) (p q : Phase) → level_of q ≡ level_of p → pos_of q ≡ pos_of p → stage q < stage p → phase w q < phase w p
unfolding phase
later w p q e x h = rw (e, x) (omega arith)

stage_pos : (p : Phase) → 1 ≤ stage p
stage_pos (peek H x) = omega arith
stage_pos (fetch H x) = omega arith
stage_pos (put H x n) = omega arith
stage_pos (again H x) = omega arith
stage_pos (level H x) = omega arith
stage_pos (shut H x G) = omega arith

-- reading again is the last phase at a place
pub again_last : {δ : Dims} (w : World δ) (p : Phase) → phase w (again (level_of p) (pos_of p)) ≤ phase w p
unfolding phase
again_last w p = let a = stage_pos p in omega arith

-- levels that nobody has published: one owner for another
owned_as : (n : ℕ) (f : ℕ → ℕ) (G v : ℕ) → f G ≢ 0 → v ≢ 0 → sum n (λ g. min 1 (upd f G v g)) ≡ sum n (λ g. min 1 (f g))
owned_as n f G v h k = sum_ext n (λ g. min 1 (upd f G v g)) (λ g. min 1 (f g)) (λ g. by g (ℕ_discrete g G))
  where
    by : (g : ℕ) → Dec (g ≡ G) → min 1 (upd f G v g) ≡ min 1 (f g)
    by g (yes e) = rw (e, upd_same f G v) (omega arith)
    by g (no e) = ap (min 1) (upd_other f G v g e)

-- and one published
owned_less : (n : ℕ) (f : ℕ → ℕ) (G : ℕ) → G < n → f G ≢ 0 → suc (sum n (λ g. min 1 (upd f G 0 g))) ≡ sum n (λ g. min 1 (f g))
owned_less n f G l h =
    let a = sum_ext n (λ g. min 1 (upd f G 0 g)) (upd (λ g. min 1 (f g)) G 0) (λ g. by g (ℕ_discrete g G)) in
    let b = sum_upd n (λ g. min 1 (f g)) G 0 l in
    let c : min 1 (f G) ≡ 1 = omega arith in
    omega arith
  where
    by : (g : ℕ) → Dec (g ≡ G) → min 1 (upd f G 0 g) ≡ upd (λ g. min 1 (f g)) G 0 g
    by g (yes e) = rw (e, upd_same f G 0, upd_same (λ g. min 1 (f g)) G 0) refl
    by g (no e) = ap (min 1) (upd_other f G 0 g e) ∙ sym (upd_other (λ g. min 1 (f g)) G 0 g e)

module _ {δ : Dims} {w : World δ} (S : Structure w) where
  -- Close and SetClose done: a level is published
  pub close_falls : (n v : ℕ) {H e G u K b : ℕ} {a a' : Act} (k : CanClose w H e G) → G < n → ActOk (close w H e G v) u K b a' → Falls n w (close w H e G v) a a'
  unfolding measure unpublished
  close_falls n v {H} {e} {G} k l o =
      let a = amount-lt (close_structure S k v) o in
      let b = owned_less n w.tree.level_owner G l k.held in
      let c = mul-suc (stretch δ) (unpublished n (close w H e G v)) in
      let d = ap (λ u. stretch δ * u) b in
      record { less = omega arith }

  -- the worker's place has its rank in a world with the same chains
  pub place-stays : {w' : World δ} {P : ℕ → Type 0} {H e : ℕ} {x : Pos} → Grows w w' → ((n : ℕ) → w'.home n ≡ w.home n) → ((g d : ℕ) → w'.chain g d ≡ w.chain g d) → Stand w P H e x → place w' x ≡ place w x
  unfolding place
  place-stays E h c on_entry = refl
  place-stays {w' = w'} E h c (on_node {R} k) =
      let p = stand_placed S (on_node k) in
      let (g, e, i) = S.in_chain R p in
      let m = S.homed R g e i in
      rank_stays w w' R (h R) (rw m.home_is (E.depth_is g m.level)) (E.pixel_is R p) c

  -- Level and SetLevel take a level: none is published, and the worker goes on where it stood
  pub taken_same : (n : ℕ) {G : ℕ} (held : w.tree.level_owner G ≢ 0) (H d p v : ℕ) → v ≢ 0 → unpublished n (take_level w G H d p v) ≡ unpublished n w
  unfolding unpublished
  taken_same n {G} held H d p v z = owned_as n w.tree.level_owner G v held z

  pub taken-phase : {P : ℕ → Type 0} {e T G : ℕ} {x : Pos} (held : w.tree.level_owner G ≢ 0) (H d p v : ℕ) → v ≢ 0 → Published w.tree T → Stand w P T e x → phase (take_level w G H d p v) (shut T x G) < phase w (level T x)
  unfolding phase
  taken-phase {T = T} held H d p v z o s =
      let E = level_grows S held H d p v z in
      rw (E.depth_is T o, place-stays E (λ n. refl) (λ g d. refl) s) (omega arith)

  pub level_falls : (n : ℕ) {P : ℕ → Type 0} {e T G : ℕ} {x : Pos} (held : w.tree.level_owner G ≢ 0) (H d p v : ℕ) → v ≢ 0 → Published w.tree T → Stand w P T e x → Falls n w (take_level w G H d p v) (searching (level T x)) (searching (shut T x G))
  unfolding amount
  level_falls n {T = T} {G = G} {x = x} held H d p v z o s = lower n w (take_level w G H d p v) (searching (level T x)) (searching (shut T x G)) (taken_same n held H d p v z) (taken-phase held H d p v z o s)

  -- Read, Follow, SetRead, SetFollow and failed exchanges meet a node: it comes after the place
  pub onward_less : (C : ℕ) {P : ℕ → Type 0} {H e R : ℕ} {x : Pos} → Stand w P H e x → w.cell (cell_of H e x) ≡ node_ref R → Placed w R → phase w (peek H (at_node R C)) < phase w (again H x)
  unfolding phase place
  onward_less C {R = R} on_entry q p = let a = rank_lt S R p in omega arith
  onward_less C {R = R} (on_node {R = M} k) q p = let a = rank_next S M R (stand_placed S (on_node k)) q in omega arith

  -- they meet a level: the walk goes on into a deeper one
  pub down_less : {H c : ℕ} (x : Pos) → Published w.tree H → w.tree.depth H < w.tree.depth c → phase w (peek c at_entry) < phase w (again H x)
  unfolding phase place
  down_less {H} x p l =
      let a = under_less δ (visit δ) l (S.tree_ok.bounded H p) in
      omega (arith, visit_is δ)

  -- Take and TakeTail: the node in hand
  pub fetch_falls : (m : ℕ) {v K b H n : ℕ} {x : Pos} (held : w.node_owner n ≢ 0) (holds : v ≢ 0) → Local w v K b (fetch H x) → Falls m w (take_node w n K (level_ref H) v) (searching (fetch H x)) (searching (put H x n))
  unfolding amount phase unpublished
  fetch_falls m {v} {K} {b} {H} {n} {x} held holds (fetches s c u) =
      let E = take_grows S held K (level_ref H) v holds in
      let e = place-stays E (λ i. refl) (λ g d. refl) s.stand in
      lower m w (take_node w n K (level_ref H) v) (searching (fetch H x)) (searching (put H x n)) refl (omega arith)
