-- Where a worker stands on its way along the chain of (H, e), and what it may conclude from the word there, in a search and in setting a node alike: P is what held of the nodes passed.
-- Relies on Digits, Update, Lists, Chain, Tree, World, Read and Evolve.
use mathlib.Core.Path.{◌≡◌, refl, sym, ap, ◌∙◌}
use mathlib.Core.Logic.{◌≢◌, ◌⊎◌, inl, inr}
use mathlib.Core.List.Memᴰ
use mathlib.Core.List.{List, [], ◌∷◌, ◌++◌, append-nil, append_assoc}
use Prim.Native.Nat.{ℕ, suc, ◌+◌, ◌≤◌, ◌<◌, min}
use native.Mathlib.Decide.{ℕ_discrete}
use native.Mathlib.Omega.{arith}
use lib.ListN.{length, length-append}
use Rattle.trie.proofs.Digits.{Dims, top, digit}
use Rattle.trie.proofs.Update.{Cell, ent, nxt}
use Rattle.trie.proofs.Lists.{◌∈◌}
use Rattle.trie.proofs.Chain.{level_ref, node_ref, end_cell, Links, end_at}
use Rattle.trie.proofs.Tree.{Published, Inside, OnPath, one_level, closed_depth}
use Rattle.trie.proofs.World.{World, Placed, last_cell, end, RefInside, to_level_lem, to_node_lem, SlotOk, Structure, Deep, Walk, along, gone, Other}
use Rattle.trie.proofs.Read.{NextOf, node, ends_open, ends-closed, next_of, leads_inside, exchange_next, exchange_entry, home_path}
use Rattle.trie.proofs.Evolve.{Grows, Changed, same, longer, shorter, walk-stays, closed-stays}

pub data Pos : Type 0 where
  at_entry : Pos
  at_node : ℕ → ℕ → Pos

-- the word that the worker looks at
abbrev pub cell_of : ℕ → ℕ → Pos → Cell
cell_of H e at_entry = ent H e
cell_of H e (at_node R C) = nxt R

-- the nodes passed
abbrev pub passed : Pos → ℕ
passed at_entry = 0
passed (at_node R C) = C

pub data Stand {δ : Dims} (w : World δ) (P : ℕ → Type 0) (H e : ℕ) : Pos → Type 0 where
  on_entry : Stand w P H e at_entry
  on_node : {R C : ℕ} → Walk w P H e R C → Stand w P H e (at_node R C)

pub stand_stays : {δ : Dims} {w w' : World δ} (E : Grows w w') (S : Structure w) {P P' : ℕ → Type 0} (m : (n : ℕ) → Placed w n → P n → P' n) {H e : ℕ} {x : Pos} → Stand w P H e x → Stand w' P' H e x
stand_stays E S m on_entry = on_entry
stand_stays E S m (on_node k) = on_node (walk-stays E m S k)

-- a node at which a worker stands is placed
pub stand_placed : {δ : Dims} {w : World δ} (S : Structure w) {P : ℕ → Type 0} {H e R C : ℕ} → Stand w P H e (at_node R C) → Placed w R
stand_placed S {H = H} {e} {R} (on_node (along pre post c k f r)) = (S.homed R H e (rw c (Memᴰ.append_right pre (Memᴰ.head refl)))).placed
stand_placed S (on_node (gone z i f)) = i.placed

-- the worker stands at the end of an open chain
pub record Free {δ : Dims} (w : World δ) (P : ℕ → Type 0) (H e : ℕ) (x : Pos) : Type 0 where
  pub idle : w.tree.into H e ≡ 0
  pub last : last_cell w H e ≡ cell_of H e x
  pub count : passed x ≡ length (w.chain H e)
  pub all : (n : ℕ) → n ∈ w.chain H e → P n

-- the word is H: an exchange succeeds
pub exchange : {δ : Dims} {w : World δ} (S : Structure w) {P : ℕ → Type 0} {H e : ℕ} → Published w.tree H → e < δ.base → {x : Pos} → Stand w P H e x → w.cell (cell_of H e x) ≡ level_ref H → Free w P H e x
exchange {δ} {w} S {P} {H} {e} p l on_entry q =
    let (c, z) = exchange_entry S p l q in
    record { idle = z; last = rw c refl; count = rw c refl; all = λ n i. absurd (Memᴰ.not-nil (rw c at i)) }
exchange {δ} {w} S {P} {H} {e} p l (on_node {R} {C} s) q =
    let k = exchange_next S p l s q in
    record { idle = k.idle; last = rw k.is (end_at (ent H e) k.pre R []); count = k.count; all = k.passed }

-- in an open chain the worker has passed no more nodes than there are
passed-le : {δ : Dims} {w : World δ} {P : ℕ → Type 0} {H e : ℕ} {x : Pos} → Stand w P H e x → w.tree.into H e ≡ 0 → passed x ≤ length (w.chain H e)
passed-le on_entry z = omega arith
passed-le (on_node (along pre post c k f r)) z = rw (c, length-append) (omega arith)
passed-le (on_node (gone q i f)) z = absurd (q z)

-- A word that is not H does not become H. (Read and Follow rest on this: it is why going back from what they meet is safe.)
pub not_H-stays : {δ : Dims} {w w' : World δ} (E : Grows w w') (S : Structure w) (S' : Structure w') {P : ℕ → Type 0} {H e : ℕ} → Published w.tree H → e < δ.base → {x : Pos} → Stand w P H e x → w.cell (cell_of H e x) ≢ level_ref H → w'.cell (cell_of H e x) ≢ level_ref H
not_H-stays {δ} {w} {w'} E S S' {P} {H} {e} p l {x} s n q = by (ℕ_discrete (w.tree.into H e) 0)
  where
    k : Free w' (λ m. Unit {0}) H e x
    k = exchange S' (E.published H p) l (stand_stays E S (λ m a b. tt) s) q

    was : w.tree.into H e ≡ 0 → w'.chain H e ≡ w.chain H e → ⊥
    was z c = n (ap w.cell (sym k.last ∙ ap (end_cell (ent H e)) c) ∙ (S.slot H e p l).if_open z)

    step : w.tree.into H e ≡ 0 → Changed w w' H e → ⊥
    step z (same c) = was z c
    step z (longer [] y v c) = was z (c ∙ append-nil (w.chain H e))
    step z (longer (m ∷ more) y v c) = omega (arith, passed-le s z, k.count, ap length c, length-append (w.chain H e) (m ∷ more))
    step z (shorter left y c f) = y z

    by : Dec (w.tree.into H e ≡ 0) → ⊥
    by (yes z) = step z (E.changed H e)
    by (no z) = closed-stays E z k.idle

-- the count after one more node: past the limit it stays at limit + 1
abbrev pub more : Dims → ℕ → ℕ
more δ C = min (suc C) (suc δ.limit)

-- a count on a chain is 1 up to limit + 1
abbrev pub CountOk : Dims → Pos → Type 0
CountOk δ at_entry = Unit {0}
CountOk δ (at_node R C) = (0 < C) × (C ≤ suc δ.limit)

pub more_ok : (δ : Dims) (R C : ℕ) → CountOk δ (at_node R (more δ C))
more_ok δ R C = (omega arith, omega arith)

-- what a word that is not H can be
pub data Met {δ : Dims} (w : World δ) (P : ℕ → Type 0) (H e : ℕ) (x : Pos) (r : ℕ) : Type 0 where
  met_node_lem : (R : ℕ) → r ≡ node_ref R → Placed w R → (P R → Stand w P H e (at_node R (more δ (passed x)))) → Met w P H e x r
  met-level : (t : ℕ) → r ≡ level_ref t → w.tree.into H e ≢ 0 → Inside w.tree (w.tree.into H e) t → ((n : ℕ) → n ∈ w.chain H e → P n) → (x ≡ at_entry → t ≡ w.tree.into H e) → Met w P H e x r

met_ref : {δ : Dims} {w : World δ} {P : ℕ → Type 0} {H e : ℕ} (x : Pos) {r : ℕ} → w.tree.into H e ≢ 0 → ((n : ℕ) → n ∈ w.chain H e → P n) → ((t : ℕ) → r ≡ level_ref t → x ≡ at_entry → t ≡ w.tree.into H e) → RefInside w (w.tree.into H e) r → Met w P H e x r
met_ref x z f d (to_level_lem t q i) = met-level t q z i f (d t q)
met_ref x z f d (to_node_lem n q i) = met_node_lem n q i.placed (λ p. on_node (gone z i f))

not_entry : {R C : ℕ} → at_node R C ≢ at_entry
not_entry q = let z : ◌≡◌ {A = ℕ} 0 1 = cc in omega arith

pub meets : {δ : Dims} {w : World δ} (S : Structure w) {P : ℕ → Type 0} {H e : ℕ} → Published w.tree H → e < δ.base → {x : Pos} → Stand w P H e x → w.cell (cell_of H e x) ≢ level_ref H → Met w P H e x (w.cell (cell_of H e x))
meets {δ} {w} S {P} {H} {e} p l on_entry n = by (w.chain H e) refl s.links
  where
    s : SlotOk w H e
    s = S.slot H e p l

    by : (ns : List ℕ) → w.chain H e ≡ ns → Links w.cell (ent H e) ns → Met w P H e at_entry (w.cell (ent H e))
    by [] c k = dec (ℕ_discrete (w.tree.into H e) 0)
      where
        word : end w H e ≡ w.cell (ent H e)
        word = ap (λ ns. w.cell (end_cell (ent H e) ns)) c

        dec : Dec (w.tree.into H e ≡ 0) → Met w P H e at_entry (w.cell (ent H e))
        dec (yes z) = absurd (n (sym word ∙ s.if_open z))
        dec (no z) = met_ref at_entry z (λ m i. absurd (Memᴰ.not-nil (rw c at i))) (λ t q y. s.direct t z c q) (rw word at (s.if_closed z))
    by (m ∷ ns) c k = met_node_lem m k.0 (S.homed m H e (rw c (Memᴰ.head refl))).placed (λ y. on_node {C = more δ 0} (along [] ns c (omega arith) (λ a i. absurd (Memᴰ.not-nil i)) y))
meets {δ} {w} S {P} {H} {e} p l (on_node {R} {C} (gone z i f)) n = met_ref (at_node R C) z f (λ t q y. absurd (not_entry y)) (leads_inside S i)
meets {δ} {w} S {P} {H} {e} p l (on_node {R} {C} (along pre post c k f r)) n = by (next_of S H e p l pre R post c)
  where
    short : length pre + length (R ∷ post) ≤ δ.limit
    short = rw (c, length-append) at (S.slot H e p l).short

    each : (m : ℕ) → (m ∈ pre) ⊎ (m ∈ (R ∷ [])) → P m
    each m (inl i) = f m i
    each m (inr i) = rw (Memᴰ.eq_of_singleton i) r

    by : NextOf w H e R post → Met w P H e (at_node R C) (w.cell (nxt R))
    by (node m rest q t) =
        met_node_lem m t (S.homed m H e (rw (c, q) (Memᴰ.append_right pre (Memᴰ.tail (Memᴰ.head refl))))).placed (λ y.
        on_node {R = m} {C = more δ C} (along (pre ++ (R ∷ [])) rest (c ∙ rw (q, append_assoc) refl) (rw length-append (omega (arith, short, ap length q))) (λ a i. each a (Memᴰ.append_cases pre i)) y))
    by (ends_open q z t) = absurd (n t)
    by (ends-closed q z t) = met_ref (at_node R C) z (λ a i. each a (Memᴰ.append_cases pre (rw (c, q) at i))) (λ t q y. absurd (not_entry y)) t

-- the child of H on K's path, where K is not in H's chain: K is placed there or deeper, if at all
pub deep_child : {δ : Dims} {w : World δ} (S : Structure w) {K H : ℕ} → OnPath w.tree K H → Deep w K H → (z : w.tree.into H (digit δ K (w.tree.depth H)) ≢ 0) → ((n : ℕ) → n ∈ w.chain H (digit δ K (w.tree.depth H)) → Other w K n) → Deep w K (w.tree.into H (digit δ K (w.tree.depth H)))
unfolding Deep
deep_child {δ} {w} S {K} {H} o d z f n p q =
    let (g, e, i) = S.in_chain n p in
    let (u, x) = home_path S i in
    let at = rw q at u in
    let h : w.home n ≡ g = (S.homed n g e i).home_is in
    let low = rw h at (d n p q) in
    let deep = closed_depth S.tree_ok H (digit δ K (w.tree.depth H)) z in
    let apart : w.tree.depth g ≢ w.tree.depth H = λ y. f n (rw (x, q, one_level S.tree_ok (w.tree.depth H) y refl at.pub_at o.pub_at (at.lies ∙ ap (top δ K) y ∙ sym o.lies)) at i) q in
    rw h (omega arith)
