-- Effect E3: a node is placed at the end of an open chain (Put, Append).
-- Relies on Digits, Update, Lists, Grow, Chain, Tree, World, Evolve and Frame.
use mathlib.Core.Path.{◌≡◌, refl, sym, ap, ◌∙◌}
use mathlib.Core.Logic.{◌≢◌, ◌⊎◌, inl, inr}
use mathlib.Core.List.Memᴰ
use mathlib.Core.List.{[], ◌∷◌, ◌++◌}
use Prim.Native.Nat.{ℕ, suc, ◌+◌, ◌*◌, ◌^◌, ◌<◌}
use native.Mathlib.Decide.{ℕ_discrete}
use lib.ListN.{length}
use Rattle.trie.proofs.Digits.{Dims, top}
use Rattle.trie.proofs.Update.{ent, nxt, upd, upd_same, upd_other, upd_c, upd_c_other, same_entry?}
use Rattle.trie.proofs.Lists.{◌∈◌, ∈-last, nodup_snoc}
use Rattle.trie.proofs.Grow.{grown, grown_at, grown_other, grown_came, grown_stays, grown_new, grown_once}
use Rattle.trie.proofs.Chain.{level_ref, node_ref}
use Rattle.trie.proofs.Tree.{Published}
use Rattle.trie.proofs.World.{World, Placed, last_cell, Homed, SlotOk, Structure, Partition}
use Rattle.trie.proofs.Evolve.{Grows, Spares, Changed, same, longer, grows_tree, ref_stays, homed_stays}
use Rattle.trie.proofs.Frame.{ends_apart, held_away, level_away, slot_other, slot_grow}

-- node n goes to the end of the chain of (H, e)
abbrev pub place : {δ : Dims} → World δ → ℕ → ℕ → ℕ → World δ
place w H e n =
    record {
      tree = w.tree;
      pixel = w.pixel;
      cell = upd_c w.cell (last_cell w H e) (node_ref n);
      node_owner = upd w.node_owner n 0;
      chain = grown w.chain H e n;
      home = upd w.home n H;
      mover = w.mover;
      book = w.book ++ (n ∷ []);
    }

-- when it may
pub record CanPlace {δ : Dims} (w : World δ) (H e n : ℕ) : Type 0 where
  pub level : Published w.tree H
  pub at : e < δ.base
  pub idle : w.tree.into H e ≡ 0
  pub room : length (w.chain H e) < δ.limit
  pub held : w.node_owner n ≢ 0
  pub aims : w.cell (nxt n) ≡ level_ref H
  pub small : w.pixel n < δ.base ^ δ.depths
  pub prefix : top δ (w.pixel n) (suc (w.tree.depth H)) ≡ w.tree.pfx H * δ.base + e
  pub new : (m : ℕ) → Placed w m → w.pixel m ≢ w.pixel n

module _ {δ : Dims} {w : World δ} (S : Structure w) {H e n : ℕ} (k : CanPlace w H e n) where
  not_new : {m : ℕ} → Placed w m → m ≢ n
  not_new p q = k.held (rw q at p)

  placed-stays : {m : ℕ} → Placed w m → Placed (place w H e n) m
  placed-stays {m} p = upd_other w.node_owner n 0 m (not_new p) ∙ p

  home_stays : {m : ℕ} → Placed w m → (place w H e n).home m ≡ w.home m
  home_stays {m} p = upd_other w.home n H m (not_new p)

  pub place_grows : Grows w (place w H e n)
  place_grows = grows_tree refl (λ m p. refl) (λ c m i. record { placed = placed-stays i.placed; inside = rw (home_stays i.placed) i.inside }) (λ g d. by g d (same_entry? g d H e)) (n ∷ [], refl)
    where
      by : (g d : ℕ) → Dec ((g ≡ H) × (d ≡ e)) → Changed w (place w H e n) g d
      by g d (yes q) = longer (n ∷ []) (rw (q.0, q.1) k.idle) (rw q.0 k.level) (rw (q.0, q.1) (grown_at w.chain H e n))
      by g d (no q) = same (grown_other w.chain H e n g d q)

  not_there : (g d : ℕ) → ¬ (n ∈ w.chain g d)
  not_there g d i = k.held (S.homed n g d i).placed

  homed' : (m g d : ℕ) → m ∈ (place w H e n).chain g d → Homed (place w H e n) m g d
  homed' m g d i = by (grown_came w.chain H e n i)
    where
      by : (m ∈ w.chain g d) ⊎ ((m ≡ n) × (g ≡ H) × (d ≡ e)) → Homed (place w H e n) m g d
      by (inl j) = let h = S.homed m g d j in homed_stays place_grows (home_stays h.placed) h
      by (inr x) = rw (x.0, x.1, x.2) homed_new
        where
          homed_new : Homed (place w H e n) n H e
          homed_new =
              record {
                level = k.level;
                at = k.at;
                placed = upd_same w.node_owner n 0;
                home_is = upd_same w.home n H;
                small = k.small;
                prefix = k.prefix;
              }

  in_chain' : (m : ℕ) → Placed (place w H e n) m → (g : ℕ) × (d : ℕ) × (m ∈ (place w H e n).chain g d)
  in_chain' m p = by (ℕ_discrete m n)
    where
      by : Dec (m ≡ n) → (g : ℕ) × (d : ℕ) × (m ∈ (place w H e n).chain g d)
      by (yes q) = (H, e, rw q (grown_new w.chain H e n))
      by (no q) = let (g, d, i) = S.in_chain m (sym (upd_other w.node_owner n 0 m q) ∙ p) in (g, d, grown_stays w.chain H e n i)

  slot_here : SlotOk (place w H e n) H e
  slot_here = rw (grown_at w.chain H e n) (slot_grow w.cell (w.chain H e) H e n (S.once H e) k.idle k.room (held_away S H e k.held) k.aims (S.slot H e k.level k.at))

  pub place_structure : Structure (place w H e n)
  place_structure =
      record {
        tree_ok = S.tree_ok;
        homed = homed';
        in_chain = in_chain';
        once = grown_once w.chain H e n (not_there H e) S.once;
        slot = λ g d p l. by g d (S.slot g d p l) (same_entry? g d H e);
      }
    where
      by : (g d : ℕ) → SlotOk w g d → Dec ((g ≡ H) × (d ≡ e)) → SlotOk (place w H e n) g d
      by g d s (yes q) = rw (q.0, q.1) slot_here
      by g d s (no q) = rw (grown_other w.chain H e n g d q) (slot_other S H e (node_ref n) g d q refl (ref_stays place_grows) s)

  pub place_partition : Partition w → Partition (place w H e n)
  place_partition Q =
      record {
        noted = λ m p. noted m p (ℕ_discrete m n);
        noted-placed = λ m i. noted-placed m (Memᴰ.append_cases w.book i);
        noted_once = nodup_snoc w.book n Q.noted_once (λ i. k.held (Q.noted-placed n i));
        one_node = λ a b p q. one_node a b p q (ℕ_discrete a n) (ℕ_discrete b n);
      }
    where
      was : {m : ℕ} → m ≢ n → Placed (place w H e n) m → Placed w m
      was {m} q p = sym (upd_other w.node_owner n 0 m q) ∙ p

      noted : (m : ℕ) → Placed (place w H e n) m → Dec (m ≡ n) → m ∈ w.book ++ (n ∷ [])
      noted m p (yes q) = rw q (∈-last w.book n)
      noted m p (no q) = Memᴰ.append_left (n ∷ []) (Q.noted m (was q p))

      noted-placed : (m : ℕ) → (m ∈ w.book) ⊎ (m ∈ (n ∷ [])) → Placed (place w H e n) m
      noted-placed m (inl i) = placed-stays (Q.noted-placed m i)
      noted-placed m (inr i) = rw (Memᴰ.eq_of_singleton i) (upd_same w.node_owner n 0)

      one_node : (a b : ℕ) → Placed (place w H e n) a → Placed (place w H e n) b → Dec (a ≡ n) → Dec (b ≡ n) → w.pixel a ≡ w.pixel b → a ≡ b
      one_node a b p q (yes x) (yes y) z = x ∙ sym y
      one_node a b p q (yes x) (no y) z = absurd (k.new b (was y q) (sym z ∙ ap w.pixel x))
      one_node a b p q (no x) (yes y) z = absurd (k.new a (was x p) (z ∙ ap w.pixel y))
      one_node a b p q (no x) (no y) z = Q.one_node a b (was x p) (was y q) z

  -- another worker v sees a longer chain at most
  pub place_spares : (v : ℕ) → v ≢ 0 → w.node_owner n ≢ v → Spares v w (place w H e n)
  place_spares v z a =
      let f = w.cell in
      let x = last_cell w H e in
      record {
        my_node = λ m p. (
          upd_other w.node_owner n 0 m (λ q. a (ap w.node_owner (sym q) ∙ p)) ∙ p,
          refl,
          upd_c_other f x (node_ref n) (nxt m) (held_away S H e (λ q. z (sym p ∙ q))),
        );
        my_level = λ g p. (p, refl, refl, refl, λ d. upd_c_other f x (node_ref n) (ent g d) (level_away w H e (λ q. z (sym p ∙ q)) k.level));
        my_move = λ g d c m.
            let apart : ¬ ((g ≡ H) × (d ≡ e)) = λ q. c (rw (q.0, q.1) k.idle) in
            (m, grown_other w.chain H e n g d apart, upd_c_other f x (node_ref n) (last_cell w g d) (ends_apart S apart));
      }
