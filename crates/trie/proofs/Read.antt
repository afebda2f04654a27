-- What the words of a table tell a worker: an exchange that succeeds, going back.
-- Relies on Digits, Update, Lists, Chain, Tree and World.
use mathlib.Core.Path.{◌≡◌, refl, sym, ap, ◌∙◌}
use mathlib.Core.Logic.{◌≢◌, ◌⊎◌, inl, inr}
use mathlib.Core.List.Memᴰ
use mathlib.Core.List.{List, [], ◌∷◌, ◌++◌}
use Prim.Native.Nat.{ℕ, zero, suc, ◌+◌, ◌≤◌, ◌<◌}
use native.Mathlib.Decide.{ℕ_discrete}
use native.Mathlib.Omega.{arith}
use lib.ListN.{length, length-append}
use Rattle.trie.proofs.Digits.{Dims, top, digit, digit_lt, top-suc, digits_split}
use Rattle.trie.proofs.Update.{ent, nxt, pick, pick_yes, pick_no}
use Rattle.trie.proofs.Lists.{◌∈◌, split-mem}
use Rattle.trie.proofs.Chain.{level_ref, node_ref, Links, end_at, links_at}
use Rattle.trie.proofs.Tree.{Tree, Published, TreeOk, Inside, here, up, OnPath, inside_depth, inside_trans, closed_depth, not_inside, one_level, deepest}
use Rattle.trie.proofs.World.{World, Placed, end, NodeInside, RefInside, to_level_lem, to_node_lem, Homed, Structure, Deep, Walk, along, gone, Other}

-- an even reference inside c is a level inside c
pub ref_level : {δ : Dims} {w : World δ} {c r t : ℕ} → RefInside w c r → r ≡ level_ref t → Inside w.tree c t
ref_level {t = t} (to_level_lem u p i) q = let same : u ≡ t = omega arith in rw same at i
ref_level (to_node_lem n p i) q = absurd (omega arith)

-- what is inside a child of a level inside c is inside c
pub inside_child : {δ : Dims} {T : Tree δ} (ok : TreeOk T) {c g e t : ℕ} → T.into g e ≢ 0 → Inside T c g → Inside T (T.into g e) t → Inside T c t
inside_child ok {c} {g} {e} z i j = let k = ok.closed g e z in inside_trans (up k.to z (rw k.back i)) j

pub ref_child : {δ : Dims} {w : World δ} (S : Structure w) {c g e r : ℕ} → w.tree.into g e ≢ 0 → Inside w.tree c g → RefInside w (w.tree.into g e) r → RefInside w c r
ref_child S z i (to_level_lem t p j) = to_level_lem t p (inside_child S.tree_ok z i j)
ref_child S z i (to_node_lem n p j) = to_node_lem n p (record { placed = j.placed; inside = inside_child S.tree_ok z i j.inside })

-- what stands in the next word of a node n of the chain of (g, e), with the nodes `post` after it
pub data NextOf {δ : Dims} (w : World δ) (g e n : ℕ) (post : List ℕ) : Type 0 where
  node : (m : ℕ) (rest : List ℕ) → post ≡ m ∷ rest → w.cell (nxt n) ≡ node_ref m → NextOf w g e n post
  ends_open : post ≡ [] → w.tree.into g e ≡ 0 → w.cell (nxt n) ≡ level_ref g → NextOf w g e n post
  ends-closed : post ≡ [] → w.tree.into g e ≢ 0 → RefInside w (w.tree.into g e) (w.cell (nxt n)) → NextOf w g e n post

pub next_of : {δ : Dims} {w : World δ} (S : Structure w) (g e : ℕ) → Published w.tree g → e < δ.base → (pre : List ℕ) (n : ℕ) (post : List ℕ) → w.chain g e ≡ pre ++ n ∷ post → NextOf w g e n post
next_of {w} S g e p l pre n post c = by post c (links_at w.cell (ent g e) pre n post (rw c at (S.slot g e p l).links))
  where
    by : (post : List ℕ) → w.chain g e ≡ pre ++ n ∷ post → Links w.cell (nxt n) post → NextOf w g e n post
    by [] c k = dec (ℕ_discrete (w.tree.into g e) 0)
      where
        word : end w g e ≡ w.cell (nxt n)
        word = ap w.cell (rw c (end_at (ent g e) pre n []))

        dec : Dec (w.tree.into g e ≡ 0) → NextOf w g e n []
        dec (yes z) = ends_open refl z (sym word ∙ (S.slot g e p l).if_open z)
        dec (no z) = ends-closed refl z (rw word at ((S.slot g e p l).if_closed z))
    by (m ∷ post) c k = node m post refl k.0

-- a node inside c leads to what is inside c
pub leads_inside : {δ : Dims} {w : World δ} (S : Structure w) {c n : ℕ} → NodeInside w c n → RefInside w c (w.cell (nxt n))
leads_inside {w} S {c} {n} i = by (next_of S g e h.level h.at cut.0 n cut.1 cut.2)
  where
    g : ℕ
    g = (S.in_chain n i.placed).0

    e : ℕ
    e = (S.in_chain n i.placed).1

    h : Homed w n g e
    h = S.homed n g e (S.in_chain n i.placed).2

    in_g : Inside w.tree c g
    in_g = rw h.home_is at i.inside

    cut : (pre : List ℕ) × (post : List ℕ) × (w.chain g e ≡ pre ++ n ∷ post)
    cut = split-mem (S.in_chain n i.placed).2

    by : NextOf w g e n cut.1 → RefInside w c (w.cell (nxt n))
    by (node m rest p q) =
        let k = S.homed m g e (rw (cut.2, p) (Memᴰ.append_right cut.0 (Memᴰ.tail (Memᴰ.head refl)))) in
        to_node_lem m q (record { placed = k.placed; inside = rw k.home_is in_g })
    by (ends_open p z q) = to_level_lem g q in_g
    by (ends-closed p z r) = ref_child S z in_g r

-- R is the last node, the C-th, of an open chain
pub record Last {δ : Dims} (w : World δ) (P : ℕ → Type 0) (H e R C : ℕ) : Type 0 where
  pub pre : List ℕ
  pub is : w.chain H e ≡ pre ++ (R ∷ [])
  pub count : C ≡ length (w.chain H e)
  pub idle : w.tree.into H e ≡ 0
  pub passed : (n : ℕ) → n ∈ w.chain H e → P n

-- an exchange from H that succeeds at R's next meets the last node of an open chain
pub exchange_next : {δ : Dims} {w : World δ} (S : Structure w) {P : ℕ → Type 0} {H e R C : ℕ} → Published w.tree H → e < δ.base → Walk w P H e R C → w.cell (nxt R) ≡ level_ref H → Last w P H e R C
exchange_next {w} S {P} {H} {e} {R} {C} p l (gone z i f) q = absurd (not_inside S.tree_ok H e z (ref_level (leads_inside S i) q))
exchange_next {w} S {P} {H} {e} {R} {C} p l (along pre post c k f r) q = by (next_of S H e p l pre R post c)
  where
    by : NextOf w H e R post → Last w P H e R C
    by (node m rest s t) = absurd (omega arith)
    by (ends_open s z t) = record { pre = pre; is = is; count = k ∙ rw (is, length-append) (omega arith); idle = z; passed = λ n i. each n (Memᴰ.append_cases pre (rw is at i)) }
      where
        is : w.chain H e ≡ pre ++ (R ∷ [])
        is = rw s at c

        each : (n : ℕ) → (n ∈ pre) ⊎ (n ∈ (R ∷ [])) → P n
        each n (inl i) = f n i
        each n (inr i) = rw (Memᴰ.eq_of_singleton i) r
    by (ends-closed s z t) = absurd (not_inside S.tree_ok H e z (ref_level t q))

-- an exchange from H that succeeds at an entry of H meets an empty open chain
pub exchange_entry : {δ : Dims} {w : World δ} (S : Structure w) {H e : ℕ} → Published w.tree H → e < δ.base → w.cell (ent H e) ≡ level_ref H → (w.chain H e ≡ []) × (w.tree.into H e ≡ 0)
exchange_entry {w} S {H} {e} p l q = by (w.chain H e) refl (S.slot H e p l).links
  where
    by : (ns : List ℕ) → w.chain H e ≡ ns → Links w.cell (ent H e) ns → (w.chain H e ≡ []) × (w.tree.into H e ≡ 0)
    by [] c k = (c, dec (ℕ_discrete (w.tree.into H e) 0))
      where
        dec : Dec (w.tree.into H e ≡ 0) → w.tree.into H e ≡ 0
        dec (yes z) = z
        dec (no z) = let same = (S.slot H e p l).direct H z c q in absurd (not_inside S.tree_ok H e z (here same))
    by (m ∷ ns) c k = absurd (omega (arith, k.0))

-- the level of a placed node is on its pixel's path, and its entry is the pixel's digit
pub home_path : {δ : Dims} {w : World δ} (S : Structure w) {n g e : ℕ} → n ∈ w.chain g e → OnPath w.tree (w.pixel n) g × (e ≡ digit δ (w.pixel n) (w.tree.depth g))
home_path {δ} {w} S {n} {g} {e} i =
    let h = S.homed n g e i in
    let t = top-suc δ (w.pixel n) (w.tree.depth g) (S.tree_ok.bounded g h.level) in
    let s = digits_split h.at (digit_lt δ (w.pixel n) (w.tree.depth g)) (sym h.prefix ∙ t) in
    (record { pub_at = h.level; lies = s.0 }, s.1)

-- K is not placed: its open chain is in the deepest level on its path, K stands no higher, and not in that chain
pub not-placed : {δ : Dims} {w : World δ} (S : Structure w) {K H : ℕ} → OnPath w.tree K H → Deep w K H → w.tree.into H (digit δ K (w.tree.depth H)) ≡ 0 → ((n : ℕ) → n ∈ w.chain H (digit δ K (w.tree.depth H)) → Other w K n) → (m : ℕ) → Placed w m → Other w K m
unfolding Deep
not-placed {δ} {w} S {K} {H} o d idle f m p q =
    let (g, e, i) = S.in_chain m p in
    let (u, x) = home_path S i in
    let at = rw q at u in
    let h : w.home m ≡ g = (S.homed m g e i).home_is in
    let low = deepest S.tree_ok o idle at in
    let high = rw h at (d m p q) in
    let deep : w.tree.depth g ≡ w.tree.depth H = omega arith in
    let same = one_level S.tree_ok (w.tree.depth H) deep refl at.pub_at o.pub_at (at.lies ∙ ap (top δ K) deep ∙ sym o.lies) in
    f m (rw (x, q, same) at i) q

-- Going back from t by previous words to the level whose previous is H, with at most k of them
unfoldable pub go_back : (ℕ → ℕ) → ℕ → ℕ → ℕ → ℕ
go_back p zero H t = t
go_back p (suc k) H t = pick (ℕ_discrete (p t) H) t (go_back p k H (p t))

-- from a level inside a child of H it gives that child; p reads the previous words of published levels
pub back_is : {δ : Dims} {T : Tree δ} (ok : TreeOk T) {H e t : ℕ} (p : ℕ → ℕ) → ((g : ℕ) → Published T g → p g ≡ T.prev g) → (k : ℕ) → T.into H e ≢ 0 → Inside T (T.into H e) t → T.depth t ≤ T.depth H + k → go_back p k H t ≡ T.into H e
unfolding go_back
back_is {T} ok {H} {e} {t} p r zero z i h = absurd (omega (arith, inside_depth ok i, closed_depth ok H e z))
back_is {T} ok {H} {e} {t} p r (suc k) z (here q) h =
    let c = ok.closed H e z in
    pick_yes (ℕ_discrete (p t) H) t (go_back p k H (p t)) (ap p q ∙ r (T.into H e) c.to ∙ c.back) ∙ q
back_is {T} ok {H} {e} {t} p r (suc k) z (up l n i) h =
    let j = rw (← r t l) at i in
    pick_no (ℕ_discrete (p t) H) t (go_back p k H (p t)) (λ q. not_inside ok H e z (rw q at j))
    ∙ back_is ok p r k z j (let d = ap T.depth (r t l) in omega (arith, (ok.child t l n).deeper))
