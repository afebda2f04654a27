-- Effect E4: an open full chain is closed: its end becomes a new level, which is published (Close, SetClose).
-- Relies on Digits, Update, Lists, Chain, Tree, World, Evolve and Frame.
use mathlib.Core.Path.{◌≡◌, refl, sym, ap, ◌∙◌}
use mathlib.Core.Logic.{◌≢◌}
use mathlib.Core.List.{[]}
use Prim.Native.Nat.{ℕ, suc, ◌+◌, ◌*◌, ◌<◌}
use native.Mathlib.Decide.{ℕ_discrete}
use native.Mathlib.Omega.{arith}
use Rattle.trie.proofs.Digits.{Dims}
use Rattle.trie.proofs.Update.{ent, nxt, upd, upd_same, upd_other, upd_c, upd_c_same, upd_c_other, upd₂, upd₂_same, upd₂_other, same_entry?}
use Rattle.trie.proofs.Lists.{no_members}
use Rattle.trie.proofs.Chain.{level_ref, ent_nxt, links_end}
use Rattle.trie.proofs.Tree.{Published, Child, Closed, TreeOk, here, inside_mono}
use Rattle.trie.proofs.World.{World, last_cell, to_level_lem, SlotOk, Structure}
use Rattle.trie.proofs.Evolve.{Grows, Spares, same, none-noted, child_stays, entry_stays, ref_stays, homed_stays}
use Rattle.trie.proofs.Frame.{ends_apart, entry_away, held_away, level_away, slot_other}

-- the chain of (H, e) closed by level G, which worker v (its number + 2) will move
abbrev pub close : {δ : Dims} → World δ → ℕ → ℕ → ℕ → ℕ → World δ
close w H e G v =
    record {
      tree = record {
        prev = w.tree.prev;
        depth = w.tree.depth;
        pfx = w.tree.pfx;
        into = upd₂ w.tree.into H e G;
        level_owner = upd w.tree.level_owner G 0;
      };
      pixel = w.pixel;
      cell = upd_c w.cell (last_cell w H e) (level_ref G);
      node_owner = w.node_owner;
      chain = w.chain;
      home = w.home;
      mover = upd w.mover G v;
      book = w.book;
    }

pub record CanClose {δ : Dims} (w : World δ) (H e G : ℕ) : Type 0 where
  pub level : Published w.tree H
  pub at : e < δ.base
  pub idle : w.tree.into H e ≡ 0
  pub held : w.tree.level_owner G ≢ 0
  pub prev_is : w.tree.prev G ≡ H
  pub depth_is : w.tree.depth G ≡ suc (w.tree.depth H)
  pub pfx_is : w.tree.pfx G ≡ w.tree.pfx H * δ.base + e
  pub not_deepest : suc (w.tree.depth H) < δ.depths
  pub blank : (d : ℕ) → d < δ.base → w.cell (ent G d) ≡ level_ref G

module _ {δ : Dims} {w : World δ} (S : Structure w) {H e G : ℕ} (k : CanClose w H e G) (v : ℕ) where
  abbrev after : World δ
  after = close w H e G v

  not_G : {g : ℕ} → Published w.tree g → g ≢ G
  not_G p q = k.held (rw q at p)

  G-not_root : G ≢ 0
  G-not_root q = not_G S.tree_ok.root (sym q)

  published : (g : ℕ) → Published w.tree g → Published after.tree g
  published g p = upd_other w.tree.level_owner G 0 g (not_G p) ∙ p

  was : {g : ℕ} → g ≢ G → Published after.tree g → Published w.tree g
  was {g} q p = sym (upd_other w.tree.level_owner G 0 g q) ∙ p

  into_at : after.tree.into H e ≡ G
  into_at = upd₂_same w.tree.into H e G

  into_other : (g d : ℕ) → ¬ ((g ≡ H) × (d ≡ e)) → after.tree.into g d ≡ w.tree.into g d
  into_other g d q = upd₂_other w.tree.into H e G g d q

  -- an entry that was closed is not the one closed now
  old_entry : (g d : ℕ) → w.tree.into g d ≢ 0 → ¬ ((g ≡ H) × (d ≡ e))
  old_entry g d z q = z (rw (q.0, q.1) k.idle)

  pub close_grows : Grows w after
  close_grows =
      record {
        published = published;
        prev_is = λ g p. refl;
        depth_is = λ g p. refl;
        pfx_is = λ g p. refl;
        into_is = λ g d p. into_other g d (old_entry g d p);
        pixel_is = λ m p. refl;
        placed-stays = λ m p. p;
        inside_stays = λ c m i. record { placed = i.placed; inside = inside_mono published (λ g p. refl) i.inside };
        changed = λ g d. same refl;
        book_grows = none-noted w.book;
      }

  child' : (g : ℕ) → Published after.tree g → g ≢ 0 → Dec (g ≡ G) → Child after.tree g
  child' g p z (yes q) = rw q (record {
    parent = rw k.prev_is (published H k.level);
    deeper = rw k.prev_is k.depth_is;
    edge = e;
    edge-lt = k.at;
    prefix = rw k.prev_is k.pfx_is;
    leads = rw k.prev_is into_at;
  })
  child' g p z (no q) = child_stays close_grows (was q p) z (S.tree_ok.child g (was q p) z)

  closed' : (g d : ℕ) → after.tree.into g d ≢ 0 → Dec ((g ≡ H) × (d ≡ e)) → Closed after.tree g d
  closed' g d z (yes q) =
      rw (q.0, q.1) (record {
        from = published H k.level;
        at = k.at;
        to = rw into_at (upd_same w.tree.level_owner G 0);
        back = rw into_at k.prev_is;
        prefix = rw into_at k.pfx_is;
      })
  closed' g d z (no q) = let y : w.tree.into g d ≢ 0 = rw (into_other g d q) at z in entry_stays close_grows y (S.tree_ok.closed g d y)

  tree_ok' : TreeOk after.tree
  tree_ok' =
      record {
        root = published 0 S.tree_ok.root;
        root_depth = S.tree_ok.root_depth;
        root_pfx = S.tree_ok.root_pfx;
        child = λ g p z. child' g p z (ℕ_discrete g G);
        bounded = λ g p. bounded' g p (ℕ_discrete g G);
        closed = λ g d z. closed' g d z (same_entry? g d H e);
      }
    where
      bounded' : (g : ℕ) → Published after.tree g → Dec (g ≡ G) → w.tree.depth g < δ.depths
      bounded' g p (yes q) = rw (q, k.depth_is) k.not_deepest
      bounded' g p (no q) = S.tree_ok.bounded g (was q p)

  -- the new level's chains are empty and open
  empty : (d : ℕ) → w.chain G d ≡ []
  empty d = no_members (w.chain G d) (λ m i. k.held (S.homed m G d i).level)

  opened : (d : ℕ) → w.tree.into G d ≡ 0
  opened d = by (ℕ_discrete (w.tree.into G d) 0)
    where
      by : Dec (w.tree.into G d ≡ 0) → w.tree.into G d ≡ 0
      by (yes z) = z
      by (no z) = absurd (k.held (S.tree_ok.closed G d z).from)

  G_other : (d : ℕ) → ¬ ((G ≡ H) × (d ≡ e))
  G_other d q = not_G k.level (sym q.0)

  slot_G : (d : ℕ) → d < δ.base → SlotOk after G d
  slot_G d l =
      let at : after.cell (ent G d) ≡ level_ref G = upd_c_other w.cell (last_cell w H e) (level_ref G) (ent G d) (entry_away w (G_other d)) ∙ k.blank d l in
      let none : after.tree.into G d ≡ 0 = into_other G d (G_other d) ∙ opened d in
      rw (empty d) (record { links = tt; short = omega arith; if_open = λ z. at; if_closed = λ z. absurd (z none); direct = λ t z. absurd (z none) })

  slot_H : SlotOk after H e
  slot_H =
      let s = S.slot H e k.level k.at in
      let f = w.cell in
      let x = last_cell w H e in
      let at : after.cell x ≡ level_ref G = upd_c_same f x (level_ref G) in
      record {
        links = links_end f (ent H e) (w.chain H e) (level_ref G) (λ m i. ent_nxt) (S.once H e) s.links;
        short = s.short;
        if_open = λ z. absurd (G-not_root (sym into_at ∙ z));
        if_closed = λ z. rw (into_at, at) (to_level_lem G refl (here refl));
        direct = λ t z c q. let y : x ≡ ent H e = rw c refl in let k = ap after.cell (sym y) ∙ at in let j : t ≡ G = omega arith in j ∙ sym into_at;
      }

  pub close_structure : Structure after
  close_structure =
      record {
        tree_ok = tree_ok';
        homed = λ m g d i. homed_stays close_grows refl (S.homed m g d i);
        in_chain = S.in_chain;
        once = S.once;
        slot = λ g d p l. by g d p l (ℕ_discrete g G) (same_entry? g d H e);
      }
    where
      by : (g d : ℕ) → Published after.tree g → d < δ.base → Dec (g ≡ G) → Dec ((g ≡ H) × (d ≡ e)) → SlotOk after g d
      by g d p l (yes q) x = rw q (slot_G d l)
      by g d p l (no q) (yes x) = rw (x.0, x.1) slot_H
      by g d p l (no q) (no x) = slot_other S H e (level_ref G) g d x (into_other g d x) (ref_stays close_grows) (S.slot g d (was q p) l)

  -- another worker u sees a level more
  pub close_spares : (u : ℕ) → u ≢ 0 → w.tree.level_owner G ≢ u → Spares u w after
  close_spares u z a =
      let f = w.cell in
      let x = last_cell w H e in
      record {
        my_node = λ m p. (p, refl, upd_c_other f x (level_ref G) (nxt m) (held_away S H e (λ q. z (sym p ∙ q))));
        my_level = λ g p. (
          upd_other w.tree.level_owner G 0 g (λ q. a (ap w.tree.level_owner (sym q) ∙ p)) ∙ p,
          refl,
          refl,
          refl,
          λ d. upd_c_other f x (level_ref G) (ent g d) (level_away w H e (λ q. z (sym p ∙ q)) k.level),
        );
        my_move = λ g d c m. (
          upd_other w.mover G v (w.tree.into g d) (not_G (S.tree_ok.closed g d c).to) ∙ m,
          refl,
          upd_c_other f x (level_ref G) (last_cell w g d) (ends_apart S (old_entry g d c)),
        );
      }
