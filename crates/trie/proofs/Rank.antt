-- The rank of a placed node: how many nodes a walk may still meet after it, on its chain and at the depths under it. It falls along next words.
-- Relies on Digits, Update, Lists, Chain, Tree, World, Read and Weights.
use mathlib.Core.Path.{◌≡◌, refl, sym, ap, ◌∙◌}
use mathlib.Core.Logic.{◌≢◌}
use mathlib.Core.List.Memᴰ
use mathlib.Core.List.{List, [], ◌∷◌, ◌++◌, append_assoc}
use Prim.Native.Nat.{ℕ, suc, ◌+◌, ◌<◌}
use native.Mathlib.Decide.{ℕ_discrete}
use native.Mathlib.Omega.{arith}
use lib.ListN.{length, length-append}
use Rattle.trie.proofs.Digits.{Dims, digit}
use Rattle.trie.proofs.Update.{nxt, pick, pick_yes, pick_no}
use Rattle.trie.proofs.Lists.{◌∈◌, NoDup, split-mem}
use Rattle.trie.proofs.Chain.{node_ref}
use Rattle.trie.proofs.Tree.{inside_depth, closed_depth}
use Rattle.trie.proofs.World.{World, Placed, RefInside, to_level_lem, to_node_lem, Homed, Structure}
use Rattle.trie.proofs.Read.{NextOf, node, ends_open, ends-closed, next_of, home_path}
use Rattle.trie.proofs.Weights.{under, places, under_less, under-places}

-- the number of elements after n
behind : ℕ → List ℕ → ℕ
behind n [] = 0
behind n (m ∷ ms) = pick (ℕ_discrete n m) (length ms) (behind n ms)

nodup_front : (pre : List ℕ) (n : ℕ) (post : List ℕ) → NoDup (pre ++ n ∷ post) → ¬ (n ∈ pre)
nodup_front [] n post d i = elim i [ ]
nodup_front (m ∷ pre) n post d (Memᴰ.head e) = d.0 (rw (sym e) (Memᴰ.append_right pre (Memᴰ.head refl)))
nodup_front (m ∷ pre) n post d (Memᴰ.tail i) = nodup_front pre n post d.1 i

behind_at : (pre : List ℕ) (n : ℕ) (post : List ℕ) → ¬ (n ∈ pre) → behind n (pre ++ n ∷ post) ≡ length post
unfolding behind
behind_at [] n post h = pick_yes (ℕ_discrete n n) (length post) (behind n post) refl
behind_at (m ∷ pre) n post h = pick_no (ℕ_discrete n m) (length (pre ++ n ∷ post)) (behind n (pre ++ n ∷ post)) (λ e. h (Memᴰ.head e)) ∙ behind_at pre n post (λ i. h (Memᴰ.tail i))

pub rank : {δ : Dims} → World δ → ℕ → ℕ
rank {δ} w n = under δ δ.limit (suc (w.tree.depth (w.home n))) + behind n (w.chain (w.home n) (digit δ (w.pixel n) (w.tree.depth (w.home n))))

-- it is told by the node's home, that level's depth, the pixel and the chain
pub rank_stays : {δ : Dims} (w w' : World δ) (n : ℕ) → w'.home n ≡ w.home n → w'.tree.depth (w.home n) ≡ w.tree.depth (w.home n) → w'.pixel n ≡ w.pixel n → ((g e : ℕ) → w'.chain g e ≡ w.chain g e) → rank w' n ≡ rank w n
unfolding rank
rank_stays w w' n h d p c = rw (h, d, p, c) refl

module _ {δ : Dims} {w : World δ} (S : Structure w) where
  rank_at : (g e : ℕ) (pre : List ℕ) (n : ℕ) (post : List ℕ) → w.chain g e ≡ pre ++ n ∷ post → rank w n ≡ under δ δ.limit (suc (w.tree.depth g)) + length post
  unfolding rank
  rank_at g e pre n post c =
      let i : n ∈ w.chain g e = rw c (Memᴰ.append_right pre (Memᴰ.head refl)) in
      let h = (S.homed n g e i).home_is in
      let b = ap (behind n) c ∙ behind_at pre n post (nodup_front pre n post (rw c at (S.once g e))) in
      rw (h, ← (home_path S i).1) (ap (λ k. under δ δ.limit (suc (w.tree.depth g)) + k) b)

  after-lt : (g e : ℕ) (pre : List ℕ) (n : ℕ) (post : List ℕ) → w.chain g e ≡ pre ++ n ∷ post → length post < δ.limit
  after-lt g e pre n post c =
      let h = S.homed n g e (rw c (Memᴰ.append_right pre (Memᴰ.head refl))) in
      let s = (S.slot g e h.level h.at).short in
      omega (arith, s, ap length c, length-append pre (n ∷ post))

  -- a placed node comes after every entry
  pub rank_lt : (n : ℕ) → Placed w n → rank w n < places δ
  rank_lt n p =
      let (g, e, i) = S.in_chain n p in
      let (pre, post, c) = split-mem i in
      rw (rank_at g e pre n post c) (under-places δ (S.tree_ok.bounded g (S.homed n g e i).level) (after-lt g e pre n post c))

  -- a node deeper than level g
  rank_deep : (g n : ℕ) → w.tree.depth g < δ.depths → Placed w n → w.tree.depth g < w.tree.depth (w.home n) → rank w n < under δ δ.limit (suc (w.tree.depth g))
  rank_deep g n b p l =
      let (h, e, i) = S.in_chain n p in
      let (pre, post, c) = split-mem i in
      let m = S.homed n h e i in
      let q : w.tree.depth g < w.tree.depth h = rw m.home_is at l in
      let k = S.tree_ok.bounded h m.level in
      let a = under_less δ δ.limit {d = suc (w.tree.depth g)} {e = suc (w.tree.depth h)} (omega arith) (omega arith) in
      let s = after-lt h e pre n post c in
      rw (rank_at h e pre n post c) (omega arith)

  -- the next node comes after the node
  pub rank_next : (m n : ℕ) → Placed w m → w.cell (nxt m) ≡ node_ref n → rank w n < rank w m
  rank_next m n p q = by (next_of S g e h.level h.at cut.0 m cut.1 cut.2)
    where
      g : ℕ
      g = (S.in_chain m p).0

      e : ℕ
      e = (S.in_chain m p).1

      h : Homed w m g e
      h = S.homed m g e (S.in_chain m p).2

      cut : (pre : List ℕ) × (post : List ℕ) × (w.chain g e ≡ pre ++ m ∷ post)
      cut = split-mem (S.in_chain m p).2

      here : rank w m ≡ under δ δ.limit (suc (w.tree.depth g)) + length cut.1
      here = rank_at g e cut.0 m cut.1 cut.2

      deeper : (z : w.tree.into g e ≢ 0) → RefInside w (w.tree.into g e) (w.cell (nxt m)) → rank w n < rank w m
      deeper z (to_level_lem t r i) = absurd (omega arith)
      deeper z (to_node_lem k r i) =
          let same : k ≡ n = omega arith in
          let a = inside_depth S.tree_ok i.inside in
          let b = closed_depth S.tree_ok g e z in
          let c = rank_deep g k (S.tree_ok.bounded g h.level) i.placed (omega arith) in
          rw (← same) (omega (arith, here))

      by : NextOf w g e m cut.1 → rank w n < rank w m
      by (node k rest s t) =
          let same : k ≡ n = omega arith in
          let c : w.chain g e ≡ (cut.0 ++ (m ∷ [])) ++ k ∷ rest = cut.2 ∙ rw (s, append_assoc) refl in
          rw (← same) (omega (arith, here, rank_at g e (cut.0 ++ (m ∷ [])) k rest c, ap length s))
      by (ends_open s z t) = absurd (omega arith)
      by (ends-closed s z r) = deeper z r
