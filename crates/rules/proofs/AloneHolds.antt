-- Along the turns of a call that has them all: the book stays, and the call takes one number at most, and only for a pixel that the book lacks.
-- Relies on what a turn leaves the worker, and on the row over a turn.
use Prim.Native.Nat.{ℕ, suc, ◌≤◌}
use mathlib.Core.Path.{◌≡◌, refl, sym, ap, ◌∙◌}
use mathlib.Core.Logic.{◌≢◌}
use mathlib.Core.List.{List, [], ◌∷◌, ◌++◌}
use native.Mathlib.Omega.{arith}
use lib.ListN.{length}
use lib.Seq.{take_all}
use Rattle.areas.specs.Memory.{none}
use Rattle.record.specs.declared.Answer.{Answer}
use Rattle.record.specs.declared.Answer.TheVariants.{New, Found, Full, Open}
use Rattle.trie.proofs.Digits.{Dims}
use Rattle.trie.proofs.Lists.{◌∈◌}
use Rattle.trie.proofs.World.{World, Structure, Partition}
use Rattle.trie.proofs.Fresh.{Fresh}
use Rattle.trie.proofs.Search.{fetch, fetches, Unseen}
use Rattle.trie.proofs.Stand.{Pos}
use Rattle.trie.proofs.Whole.{searching, Worker, ActOk, is_searching_lem}
use Rattle.rules.proofs.Invariant.{Rowing, goes, ends_new_lem, ends_found, Held, keeps, took, gave, kept}

-- one counter for the same owners
fresh_one : {f : ℕ → ℕ} {m n : ℕ} → Fresh f m → Fresh f n → m ≡ n
fresh_one {f} {m} {n} a b = let x = a.within n (b.beyond n (omega arith)) in let y = b.within m (a.beyond m (omega arith)) in omega arith

-- the book and the pixels of its nodes, the call's pixel, and the nodes taken, when the call started
module _ (B : List ℕ) (P : ℕ → ℕ) (K t₀ : ℕ) where
  -- the call's pixel is not in the book
  abbrev pub Missing : Type 0
  Missing = (n : ℕ) → n ∈ B → P n ≢ K

  -- the node that the worker holds, and the nodes taken
  pub data Holds (node taken : ℕ) : Type 0 where
    nothing : node ≡ 0 → taken ≡ t₀ → Holds node taken
    one : node ≡ suc t₀ → taken ≡ suc t₀ → Missing → Holds node taken

  -- amid the call
  pub record Calm {δ : Dims} (W : World δ) (c : Worker) (taken : ℕ) : Type 0 where
    pub book_is : W.book ≡ B
    pub pixels : (n : ℕ) → n ∈ B → W.pixel n ≡ P n
    pub top : W.tree.prev 0 ≡ none
    pub key_is : c.key ≡ K
    pub since_is : c.since ≡ length B
    pub holds : Holds c.node taken

  -- how it ended, with the nodes taken after it, of `nodes`
  pub data Ended {δ : Dims} (nodes : ℕ) (W : World δ) (taken : ℕ) : Answer → Type 0 where
    is_new : {n : ℕ} → n ≡ t₀ → Missing → W.book ≡ B ++ (t₀ ∷ []) → W.pixel t₀ ≡ K → taken ≡ suc t₀ → Ended nodes W taken (New n)
    is_found : {R : ℕ} → R ∈ B → P R ≡ K → W.book ≡ B → taken ≡ t₀ → Ended nodes W taken (Found R)
    is_full : Missing → W.book ≡ B → taken ≡ t₀ → nodes ≤ t₀ → Ended nodes W taken Full

  -- and what it left
  pub record Over {δ : Dims} (nodes : ℕ) (W : World δ) (node taken : ℕ) (v : Answer) : Type 0 where
    pub ended : Ended nodes W taken v
    pub pixels : (n : ℕ) → n ∈ B → W.pixel n ≡ P n
    pub top : W.tree.prev 0 ≡ none
    pub empty : node ≡ 0

  module _ {δ : Dims} {W : World δ} {c : Worker} {taken : ℕ} (k : Calm W c taken) where
    -- what was not seen when the call started is missing
    missing : Unseen W c.key c.since → Missing
    missing u n i e = u.unseen n (rw (k.since_is, k.book_is, take_all (length B) B (omega arith)) i) (k.pixels n i ∙ e ∙ sym k.key_is)

    fetch_missing : {v H : ℕ} {x : Pos} → ActOk W v c.key c.since (searching (fetch H x)) → Missing
    fetch_missing (is_searching_lem s b (fetches q l u)) = missing u

    held_on : {v node taken' : ℕ} → Fresh W.node_owner taken → ActOk W v c.key c.since c.act → Held W c node taken' Open → Holds node taken'
    held_on {v} {node} {taken'} F o (keeps f e) = by k.holds
      where
        by : Holds c.node taken → Holds node taken'
        by (nothing z t) = nothing (e ∙ z) (fresh_one f F ∙ t)
        by (one z t m) = one (e ∙ z) (fresh_one f F ∙ t) m
    held_on {v} {node} {taken'} F o (took a z f e t) = by k.holds
      where
        by : Holds c.node taken → Holds node taken'
        by (nothing y u) = let q = fresh_one f F ∙ u in one (e ∙ ap suc q) (t ∙ ap suc q) (fetch_missing (rw a at o))
        by (one y u m) = absurd (omega arith)

    module _ (S : Structure W) (Q : Partition W) (F : Fresh W.node_owner taken) {W' : World δ} {c' : Worker} {taken' : ℕ} where
      -- the call goes on
      pub calm_on : {v : ℕ} → ActOk W v c.key c.since c.act → Rowing W W' c c' Open → Held W c c'.node taken' Open → Calm W' c' taken'
      calm_on o (goes E b z s q) h =
          record {
            book_is = b ∙ k.book_is;
            pixels = λ n i. E.pixel_is n (Q.noted-placed n (rw k.book_is i)) ∙ k.pixels n i;
            top = E.prev_is 0 S.tree_ok.root ∙ k.top;
            key_is = q ∙ k.key_is;
            since_is = s ∙ k.since_is;
            holds = held_on F o h;
          }

      -- it ends "new"
      pub calm_new : {n : ℕ} (nodes : ℕ) → Rowing W W' c c' (New n) → Held W c c'.node taken' (New n) → Over nodes W' c'.node taken' (New n)
      calm_new {n} nodes (ends_new_lem can q e z) (gave f h y) = by k.holds
        where
          by : Holds c.node taken → Over nodes W' c'.node taken' (New n)
          by (nothing u t) = absurd (omega arith)
          by (one u t m) =
              let same : n ≡ t₀ = omega arith in
              record {
                ended = is_new same m (rw e (rw (k.book_is, same) refl)) (rw (e, ← same) (q ∙ k.key_is)) (fresh_one f F ∙ t);
                pixels = λ a i. rw e (k.pixels a i);
                top = rw e k.top;
                empty = y;
              }

      -- it ends "found"
      pub calm_found : {R : ℕ} (nodes : ℕ) → Rowing W W' c c' (Found R) → Held W c c'.node taken' (Found R) → Over nodes W' c'.node taken' (Found R)
      calm_found {R} nodes (ends_found p q e z) (kept f h) = by k.holds
        where
          in_book : R ∈ B
          in_book = rw k.book_is at (Q.noted R p)

          is_K : P R ≡ K
          is_K = sym (k.pixels R in_book) ∙ q ∙ k.key_is

          by : Holds c.node taken → Over nodes W' c'.node taken' (Found R)
          by (nothing u t) =
              record {
                ended = is_found in_book is_K (rw e k.book_is) (fresh_one f F ∙ t);
                pixels = λ a i. rw e (k.pixels a i);
                top = rw e k.top;
                empty = h ∙ u;
              }
          by (one u t m) = absurd (m R in_book is_K)

    -- it ends "full": nothing is held, and every node is taken
    pub calm_full : (nodes : ℕ) → Unseen W c.key c.since → c.node ≡ 0 → nodes ≤ taken → Over nodes W c.node taken Full
    calm_full nodes u z l = by k.holds
      where
        by : Holds c.node taken → Over nodes W c.node taken Full
        by (nothing y t) = record { ended = is_full (missing u) k.book_is t (omega arith); pixels = k.pixels; top = k.top; empty = y }
        by (one y t m) = absurd (omega arith)
