-- The number of levels: each published level of depth d stands on `limit` nodes of its own.
-- Relies on Digits, Update, Lists, Tree, World, Read, Evolve and Close.
use mathlib.Core.Path.{◌≡◌, refl, sym, ap, ◌∙◌}
use mathlib.Core.Logic.{◌⊎◌, inl, inr}
use mathlib.Core.List.Memᴰ
use mathlib.Core.List.{List, ◌++◌}
use Prim.Native.Nat.{ℕ, suc, ◌*◌, ◌≤◌, ◌<◌}
use native.Mathlib.Nat.{mul-suc}
use native.Mathlib.Decide.{ℕ_discrete}
use native.Mathlib.Omega.{arith}
use lib.ListN.{length, length-append}
use Rattle.trie.proofs.Digits.{Dims, top}
use Rattle.trie.proofs.Update.{upd, upd_same, upd_other}
use Rattle.trie.proofs.Lists.{◌∈◌, NoDup, nodup_append, nodup_below}
use Rattle.trie.proofs.Tree.{OnPath, deepest}
use Rattle.trie.proofs.World.{World, Placed, Structure}
use Rattle.trie.proofs.Read.{home_path}
use Rattle.trie.proofs.Evolve.{Grows, path_stays}
use Rattle.trie.proofs.Close.{close, CanClose, close_grows}

-- covered d: the nodes that the levels of depth d were made for; count d: the number of those levels
pub record Counted {δ : Dims} (w : World δ) (covered : ℕ → List ℕ) (count : ℕ → ℕ) : Type 0 where
  pub once : (d : ℕ) → NoDup (covered d)
  pub placed : (d n : ℕ) → n ∈ covered d → Placed w n
  pub under : (d n : ℕ) → n ∈ covered d → (g : ℕ) × OnPath w.tree (w.pixel n) g × (w.tree.depth g ≡ d)
  pub sizes : (d : ℕ) → length (covered d) ≡ δ.limit * count d

pub counted-stays : {δ : Dims} {w w' : World δ} (E : Grows w w') {covered : ℕ → List ℕ} {count : ℕ → ℕ} → Counted w covered count → Counted w' covered count
counted-stays {δ} {w} {w'} E c =
    record {
      once = c.once;
      placed = λ d n i. E.placed-stays n (c.placed d n i);
      under = λ d n i. let (g, o, e) = c.under d n i in (g, rw (E.pixel_is n (c.placed d n i)) (path_stays E o), E.depth_is g o.pub_at ∙ e);
      sizes = c.sizes;
    }

-- a full open chain closed by G: its nodes are covered at G's depth
pub counted-close : {δ : Dims} {w : World δ} (S : Structure w) {H e G : ℕ} (k : CanClose w H e G) (v : ℕ) → length (w.chain H e) ≡ δ.limit → {covered : ℕ → List ℕ} {count : ℕ → ℕ} → Counted w covered count → Counted (close w H e G v) (upd covered (suc (w.tree.depth H)) (covered (suc (w.tree.depth H)) ++ w.chain H e)) (upd count (suc (w.tree.depth H)) (suc (count (suc (w.tree.depth H)))))
counted-close {δ} {w} S {H} {e} {G} k v full {covered} {count} c =
    record {
      once = λ d. once' d (ℕ_discrete d D);
      placed = λ d n i. (came d n i).0;
      under = λ d n i. (came d n i).1;
      sizes = λ d. sizes' d (ℕ_discrete d D);
    }
  where
    D : ℕ
    D = suc (w.tree.depth H)

    more : List ℕ
    more = covered D ++ w.chain H e

    after : Counted (close w H e G v) covered count
    after = counted-stays (close_grows S k v) c

    -- no level of that depth was on the path of a node of the open chain
    apart : (n : ℕ) → n ∈ covered D → ¬ (n ∈ w.chain H e)
    apart n i j =
        let (g, o, d) = c.under D n i in
        let (p, x) = home_path S j in
        omega (arith, d, deepest S.tree_ok p (rw (← x) k.idle) o)

    once' : (d : ℕ) → Dec (d ≡ D) → NoDup (upd covered D more d)
    once' d (yes q) = rw (q, upd_same covered D more) (nodup_append (covered D) (w.chain H e) (c.once D) (S.once H e) apart)
    once' d (no q) = rw (upd_other covered D more d q) (c.once d)

    Good : ℕ → ℕ → Type 0
    Good d n = Placed w n × ((g : ℕ) × OnPath (close w H e G v).tree (w.pixel n) g × (w.tree.depth g ≡ d))

    on_G : (n : ℕ) → n ∈ w.chain H e → Good D n
    on_G n j = ((S.homed n H e j).placed, (G, record { pub_at = upd_same w.tree.level_owner G 0; lies = k.pfx_is ∙ sym (S.homed n H e j).prefix ∙ ap (top δ (w.pixel n)) (sym k.depth_is) }, k.depth_is))

    came : (d n : ℕ) → n ∈ upd covered D more d → Good d n
    came d n i = by (ℕ_discrete d D)
      where
        part : (n ∈ covered D) ⊎ (n ∈ w.chain H e) → Good D n
        part (inl j) = (after.placed D n j, after.under D n j)
        part (inr j) = on_G n j

        by : Dec (d ≡ D) → Good d n
        by (yes q) = rw q (part (Memᴰ.append_cases (covered D) (rw (q, upd_same covered D more) at i)))
        by (no q) = let j = rw (upd_other covered D more d q) at i in (after.placed d n j, after.under d n j)

    sizes' : (d : ℕ) → Dec (d ≡ D) → length (upd covered D more d) ≡ δ.limit * upd count D (suc (count D)) d
    sizes' d (yes q) = rw (q, upd_same covered D more, upd_same count D (suc (count D)), length-append, full, c.sizes D, mul-suc) refl
    sizes' d (no q) = rw (upd_other covered D more d q, upd_other count D (suc (count D)) d q) (c.sizes d)

-- at most nodes / limit levels of a depth
pub count-le : {δ : Dims} {w : World δ} {covered : ℕ → List ℕ} {count : ℕ → ℕ} (c : Counted w covered count) (nodes : ℕ) → ((n : ℕ) → Placed w n → n < nodes) → (d : ℕ) → δ.limit * count d ≤ nodes
count-le {count = count} c nodes h d = rw (c.sizes d) at (nodup_below _ nodes (c.once d) (λ n i. h n (c.placed d n i)))
