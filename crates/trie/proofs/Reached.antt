-- What entries, next words and previous words lead to from the root is exactly the published levels and the placed nodes.
-- Relies on Digits, Update, Lists, Chain, Tree, World and Read.
use mathlib.Core.Path.{◌≡◌, refl, sym, ap, ◌∙◌}
use mathlib.Core.Logic.{◌≢◌, ◌⊎◌, inl, inr}
use mathlib.Core.List.Memᴰ
use mathlib.Core.List.{List, [], ◌∷◌}
use Prim.Native.Nat.{ℕ, zero, suc, ◌+◌, ◌≤◌, ◌<◌}
use native.Mathlib.Decide.{ℕ_discrete}
use native.Mathlib.Omega.{arith}
use Rattle.trie.proofs.Digits.{Dims}
use Rattle.trie.proofs.Update.{Cell, ent, nxt}
use Rattle.trie.proofs.Lists.{◌∈◌, split-mem}
use Rattle.trie.proofs.Chain.{level_ref, node_ref, end_cell, Links, links_at, end_at}
use Rattle.trie.proofs.Tree.{Published, Inside, here, up, inside_pub, inside_depth, closed_depth, root_only, not_root}
use Rattle.trie.proofs.World.{World, Placed, last_cell, end, RefInside, to_level_lem, to_node_lem, Structure}
use Rattle.trie.proofs.Read.{leads_inside, inside_child}

pub data Reached {δ : Dims} (w : World δ) : ℕ → Type 0 where
  root : {r : ℕ} → r ≡ level_ref 0 → Reached w r
  by_entry : {r : ℕ} (g e : ℕ) → e < δ.base → r ≡ w.cell (ent g e) → Reached w (level_ref g) → Reached w r
  by_next : {r : ℕ} (n : ℕ) → r ≡ w.cell (nxt n) → Reached w (node_ref n) → Reached w r
  by_previous : {r : ℕ} (g : ℕ) → g ≢ 0 → r ≡ level_ref (w.tree.prev g) → Reached w (level_ref g) → Reached w r

-- a reference to a published level or a placed node
pub data Real {δ : Dims} (w : World δ) (r : ℕ) : Type 0 where
  a_level : (g : ℕ) → r ≡ level_ref g → Published w.tree g → Real w r
  a_node : (n : ℕ) → r ≡ node_ref n → Placed w n → Real w r

real_ref : {δ : Dims} {w : World δ} {c r : ℕ} → Published w.tree c → RefInside w c r → Real w r
real_ref p (to_level_lem t q i) = a_level t q (inside_pub p i)
real_ref p (to_node_lem n q i) = a_node n q i.placed

module _ {δ : Dims} {w : World δ} (S : Structure w) where
  pub real_entry : (g e : ℕ) → Published w.tree g → e < δ.base → Real w (w.cell (ent g e))
  real_entry g e p l = by (w.chain g e) refl (S.slot g e p l).links
    where
      by : (ns : List ℕ) → w.chain g e ≡ ns → Links w.cell (ent g e) ns → Real w (w.cell (ent g e))
      by [] c k = dec (ℕ_discrete (w.tree.into g e) 0)
        where
          at : end w g e ≡ w.cell (ent g e)
          at = ap (λ ns. w.cell (end_cell (ent g e) ns)) c

          dec : Dec (w.tree.into g e ≡ 0) → Real w (w.cell (ent g e))
          dec (yes z) = a_level g (sym at ∙ (S.slot g e p l).if_open z) p
          dec (no z) = real_ref (S.tree_ok.closed g e z).to (rw at at ((S.slot g e p l).if_closed z))
      by (m ∷ ns) c k = a_node m k.0 (S.homed m g e (rw c (Memᴰ.head refl))).placed

  pub real_next : (n : ℕ) → Placed w n → Real w (w.cell (nxt n))
  real_next n p =
      let (g, e, i) = S.in_chain n p in
      let h = S.homed n g e i in
      real_ref h.level (leads_inside S (record { placed = p; inside = here h.home_is }))

  pub reached_real : {r : ℕ} → Reached w r → Real w r
  reached_real (root q) = a_level 0 q S.tree_ok.root
  reached_real {r} (by_entry g e l q t) = by (reached_real t)
    where
      by : Real w (level_ref g) → Real w r
      by (a_level h x p) = let y : h ≡ g = omega arith in rw q (real_entry g e (rw y at p) l)
      by (a_node n x p) = absurd (omega arith)
  reached_real {r} (by_next n q t) = by (reached_real t)
    where
      by : Real w (node_ref n) → Real w r
      by (a_level h x p) = absurd (omega arith)
      by (a_node m x p) = let y : m ≡ n = omega arith in rw q (real_next n (rw y at p))
  reached_real {r} (by_previous g z q t) = by (reached_real t)
    where
      by : Real w (level_ref g) → Real w r
      by (a_level h x p) = let y : h ≡ g = omega arith in a_level (w.tree.prev g) q (S.tree_ok.child g (rw y at p) z).parent
      by (a_node n x p) = absurd (omega arith)

  -- along a chain
  follow : (x : Cell) (ns : List ℕ) → Links w.cell x ns → Reached w (w.cell x) → Reached w (w.cell (end_cell x ns)) × ((n : ℕ) → n ∈ ns → Reached w (node_ref n))
  follow x [] l t = (t, λ n i. absurd (Memᴰ.not-nil i))
  follow x (m ∷ ns) l t =
      let here : Reached w (node_ref m) = rw l.0 at t in
      let r = follow (nxt m) ns l.1 (by_next m refl here) in
      (r.0, λ n i. by here (r.1 n) (Memᴰ.cases_cons i))
    where
      by : {n : ℕ} → Reached w (node_ref m) → (n ∈ ns → Reached w (node_ref n)) → (n ≡ m) ⊎ (n ∈ ns) → Reached w (node_ref n)
      by t f (inl e) = rw e t
      by t f (inr i) = f i

  climb : {c t : ℕ} → Inside w.tree c t → Reached w (level_ref t) → Reached w (level_ref c)
  climb (here e) r = rw e at r
  climb (up {t} p z i) r = climb i (by_previous t z refl r)

  -- a node of a chain leads to the chain's end
  reach_end : {n g e : ℕ} → n ∈ w.chain g e → Reached w (node_ref n) → Reached w (end w g e)
  reach_end {n} {g} {e} i t =
      let h = S.homed n g e i in
      let (pre, post, c) = split-mem i in
      let l = links_at w.cell (ent g e) pre n post (rw c at (S.slot g e h.level h.at).links) in
      let at : last_cell w g e ≡ end_cell (nxt n) post = ap (end_cell (ent g e)) c ∙ end_at (ent g e) pre n post in
      rw (ap w.cell (sym at)) at (follow (nxt n) post l (by_next n refl t)).0

  -- what is inside c leads to c
  inside_leads : (k : ℕ) {c r : ℕ} → Published w.tree c → δ.depths ≤ w.tree.depth c + k → RefInside w c r → Reached w r → Reached w (level_ref c)
  inside_leads zero {c} p h i t = absurd (omega (arith, S.tree_ok.bounded c p))
  inside_leads (suc k) {c} p h (to_level_lem u q i) t = climb i (rw q at t)
  inside_leads (suc k) {c} p h (to_node_lem n q i) t =
      by (ℕ_discrete (w.tree.into g e) 0) (λ z.
      let b = S.tree_ok.closed g e z in
      inside_leads k {c = w.tree.into g e} b.to (omega (arith, h, closed_depth S.tree_ok g e z, inside_depth S.tree_ok in_g)) ((S.slot g e b.from b.at).if_closed z) far)
    where
      g : ℕ
      g = (S.in_chain n i.placed).0

      e : ℕ
      e = (S.in_chain n i.placed).1

      mem : n ∈ w.chain g e
      mem = (S.in_chain n i.placed).2

      in_g : Inside w.tree c g
      in_g = rw (S.homed n g e mem).home_is at i.inside

      far : Reached w (end w g e)
      far = reach_end mem (rw q at t)

      by : Dec (w.tree.into g e ≡ 0) → (w.tree.into g e ≢ 0 → Reached w (level_ref (w.tree.into g e))) → Reached w (level_ref c)
      by (yes z) f = climb in_g (rw ((S.slot g e (S.homed n g e mem).level (S.homed n g e mem).at).if_open z) at far)
      by (no z) f = climb (inside_child S.tree_ok z in_g (here refl)) (f z)

  pub level_reached : (d : ℕ) {g : ℕ} → w.tree.depth g ≡ d → Published w.tree g → Reached w (level_ref g)
  level_reached zero {g} e p = root (ap level_ref (root_only S.tree_ok e p))
  level_reached (suc d) {g} e p =
      let z = not_root S.tree_ok e in
      let c = S.tree_ok.child g p z in
      let h = w.tree.prev g in
      let t = level_reached d {g = h} (omega (arith, c.deeper)) c.parent in
      let s = S.slot h c.edge c.parent c.edge-lt in
      let far = (follow (ent h c.edge) (w.chain h c.edge) s.links (by_entry h c.edge c.edge-lt refl t)).0 in
      inside_leads δ.depths p (omega arith) (rw c.leads at (s.if_closed (λ y. z (sym c.leads ∙ y)))) far

  pub node_reached : (n : ℕ) → Placed w n → Reached w (node_ref n)
  node_reached n p =
      let (g, e, i) = S.in_chain n p in
      let h = S.homed n g e i in
      (follow (ent g e) (w.chain g e) (S.slot g e h.level h.at).links (by_entry g e h.at refl (level_reached (w.tree.depth g) refl h.level))).1 n i
