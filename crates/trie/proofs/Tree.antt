-- The levels: the ghost tree, levels inside a level, levels on a key's path.
-- Relies on Digits.
use mathlib.Core.Path.{◌≡◌, refl, sym, ap, ◌∙◌}
use mathlib.Core.Logic.{◌≢◌}
use Prim.Native.Nat.{ℕ, zero, suc, ◌+◌, ◌*◌, ◌-◌, ◌≤◌, ◌<◌}
use native.Mathlib.Decide.{ℕ_discrete, dec_le}
use native.Mathlib.Omega.{arith}
use Rattle.trie.proofs.Digits.{Dims, top, digit, digit_lt, top-suc, digits_split}

-- What is known of the levels. All but `prev` and `depth` is ghost.
pub record Tree (δ : Dims) : Type 0 where
  pub prev : ℕ → ℕ
  pub depth : ℕ → ℕ
  -- the number of the digits that lead to a level
  pub pfx : ℕ → ℕ
  -- the child level that entry e of level g moves or has moved to; 0: none, the chain is open
  pub into : ℕ → ℕ → ℕ
  -- 0: published; 1: not taken; w + 2: held by worker w
  pub level_owner : ℕ → ℕ

abbrev pub Published : {δ : Dims} → Tree δ → ℕ → Type 0
Published T g = T.level_owner g ≡ 0

-- a published level under another one
pub record Child {δ : Dims} (T : Tree δ) (g : ℕ) : Type 0 where
  pub parent : Published T (T.prev g)
  pub deeper : T.depth g ≡ suc (T.depth (T.prev g))
  pub edge : ℕ
  pub edge-lt : edge < δ.base
  pub prefix : T.pfx g ≡ T.pfx (T.prev g) * δ.base + edge
  pub leads : T.into (T.prev g) edge ≡ g

-- what a closed entry leads to
pub record Closed {δ : Dims} (T : Tree δ) (g e : ℕ) : Type 0 where
  pub from : Published T g
  pub at : e < δ.base
  pub to : Published T (T.into g e)
  pub back : T.prev (T.into g e) ≡ g
  pub prefix : T.pfx (T.into g e) ≡ T.pfx g * δ.base + e

pub record TreeOk {δ : Dims} (T : Tree δ) : Type 0 where
  pub root : Published T 0
  pub root_depth : T.depth 0 ≡ 0
  pub root_pfx : T.pfx 0 ≡ 0
  pub child : (g : ℕ) → Published T g → g ≢ 0 → Child T g
  pub bounded : (g : ℕ) → Published T g → T.depth g < δ.depths
  pub closed : (g e : ℕ) → T.into g e ≢ 0 → Closed T g e

-- t leads to c by zero or more previous words
pub data Inside {δ : Dims} (T : Tree δ) (c : ℕ) : ℕ → Type 0 where
  here : {t : ℕ} → t ≡ c → Inside T c t
  up : {t : ℕ} → Published T t → t ≢ 0 → Inside T c (T.prev t) → Inside T c t

pub inside_trans : {δ : Dims} {T : Tree δ} {b c t : ℕ} → Inside T b c → Inside T c t → Inside T b t
inside_trans i (here e) = rw e i
inside_trans i (up p z j) = up p z (inside_trans i j)

pub inside_pub : {δ : Dims} {T : Tree δ} {c t : ℕ} → Published T c → Inside T c t → Published T t
inside_pub h (here e) = rw e h
inside_pub h (up p z i) = p

-- more levels published, the old ones as they were
pub inside_mono : {δ : Dims} {T T' : Tree δ} → ((g : ℕ) → Published T g → Published T' g) → ((g : ℕ) → Published T g → T'.prev g ≡ T.prev g) → {c t : ℕ} → Inside T c t → Inside T' c t
inside_mono m p (here e) = here e
inside_mono m p (up {t} q z i) = up (m t q) z (rw (p t q) (inside_mono m p i))

-- h published, and its digits are the first of K
pub record OnPath {δ : Dims} (T : Tree δ) (K h : ℕ) : Type 0 where
  pub pub_at : Published T h
  pub lies : T.pfx h ≡ top δ K (T.depth h)

module _ {δ : Dims} {T : Tree δ} (ok : TreeOk T) where
  pub inside_depth : {c t : ℕ} → Inside T c t → T.depth c ≤ T.depth t
  inside_depth (here e) = rw e (omega arith)
  inside_depth (up {t} p z i) = let k = inside_depth i in omega (arith, (ok.child t p z).deeper)

  -- a closed entry's child is one deeper
  pub closed_depth : (g e : ℕ) → T.into g e ≢ 0 → T.depth (T.into g e) ≡ suc (T.depth g)
  closed_depth g e z = let k = ok.closed g e z in (ok.child (T.into g e) k.to z).deeper ∙ rw k.back refl

  -- nothing inside a child of g is g
  pub not_inside : (g e : ℕ) → T.into g e ≢ 0 → Inside T (T.into g e) g → ⊥
  not_inside g e z i = omega (arith, inside_depth i, closed_depth g e z)

  pub root_only : {g : ℕ} → T.depth g ≡ 0 → Published T g → g ≡ 0
  root_only {g} d p = by (ℕ_discrete g 0)
    where
      by : Dec (g ≡ 0) → g ≡ 0
      by (yes e) = e
      by (no z) = omega (arith, (ok.child g p z).deeper)

  pub not_root : {g d : ℕ} → T.depth g ≡ suc d → g ≢ 0
  not_root {g} {d} h e = let k : T.depth g ≡ 0 = rw e ok.root_depth in omega arith

  -- one published level for a depth and a prefix
  pub one_level : (d : ℕ) {g h : ℕ} → T.depth g ≡ d → T.depth h ≡ d → Published T g → Published T h → T.pfx g ≡ T.pfx h → g ≡ h
  one_level zero p q pg ph e = root_only p pg ∙ sym (root_only q ph)
  one_level (suc d) {g} {h} p q pg ph e =
      let a = ok.child g pg (not_root p) in
      let b = ok.child h ph (not_root q) in
      let s = digits_split a.edge-lt b.edge-lt (sym a.prefix ∙ e ∙ b.prefix) in
      let same = one_level d (omega (arith, a.deeper)) (omega (arith, b.deeper)) a.parent b.parent s.0 in
      cc (a.leads, b.leads, s.1, same)

  -- the parent of a level on K's path is on it, and K's digit leads down
  pub path_up : {K g : ℕ} → OnPath T K g → g ≢ 0 → OnPath T K (T.prev g) × (T.into (T.prev g) (digit δ K (T.depth (T.prev g))) ≡ g)
  path_up {K} {g} o z =
      let a = ok.child g o.pub_at z in
      let t = top-suc δ K (T.depth (T.prev g)) (omega (arith, ok.bounded (T.prev g) a.parent)) in
      let s = digits_split a.edge-lt (digit_lt δ K (T.depth (T.prev g))) (sym a.prefix ∙ o.lies ∙ ap (top δ K) a.deeper ∙ t) in
      (record { pub_at = a.parent; lies = s.0 }, rw (← s.1) a.leads)

  -- a level on K's path has levels on it at all depths above
  pub above : (k : ℕ) {K g d : ℕ} → OnPath T K g → T.depth g ≡ k + d → (a : ℕ) × OnPath T K a × (T.depth a ≡ d)
  above zero {K} {g} o e = (g, o, omega arith)
  above (suc k) {K} {g} {d} o e =
      let z = not_root {g = g} {d = k + d} (omega arith) in
      above k (path_up o z).0 (omega (arith, (ok.child g o.pub_at z).deeper))

  -- an open chain on K's path is in the deepest level on K's path
  pub deepest : {K H g : ℕ} → OnPath T K H → T.into H (digit δ K (T.depth H)) ≡ 0 → OnPath T K g → T.depth g ≤ T.depth H
  deepest {K} {H} {g} o idle p = by (dec_le (T.depth g) (T.depth H))
    where
      by : Dec (T.depth g ≤ T.depth H) → T.depth g ≤ T.depth H
      by (yes h) = h
      by (no h) =
          let (a, q, d) = above (T.depth g - suc (T.depth H)) {d = suc (T.depth H)} p (omega arith) in
          let z = not_root d in
          let (r, leads) = path_up q z in
          let k = (ok.child a q.pub_at z).deeper in
          let same = one_level (T.depth H) {g = T.prev a} {h = H} (omega arith) refl r.pub_at o.pub_at (r.lies ∙ ap (top δ K) (omega arith) ∙ sym o.lies) in
          absurd (z (cc (leads, same, idle)))

  -- the child that K's digit leads to is on K's path
  pub path_down : {K H : ℕ} → OnPath T K H → (z : T.into H (digit δ K (T.depth H)) ≢ 0) → OnPath T K (T.into H (digit δ K (T.depth H)))
  path_down {K} {H} o z =
      let e = digit δ K (T.depth H) in
      let c = ok.closed H e z in
      record {
        pub_at = c.to;
        lies = c.prefix ∙ ap (λ x. x * δ.base + e) o.lies ∙ sym (top-suc δ K (T.depth H) (ok.bounded H o.pub_at)) ∙ ap (top δ K) (sym (closed_depth H e z));
      }
