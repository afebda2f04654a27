-- Effect E2: a worker takes a level, a new one or its spare, and writes all its words (Level, SetLevel).
-- Relies on Digits, Update, Chain, Tree, World, Evolve and Frame.
use mathlib.Core.Path.{◌≡◌, refl, sym, ap, ◌∙◌}
use mathlib.Core.Logic.{◌≢◌}
use Prim.Native.Nat.{ℕ}
use native.Mathlib.Decide.{ℕ_discrete}
use Rattle.trie.proofs.Digits.{Dims}
use Rattle.trie.proofs.Update.{ent, upd, upd_same, upd_other, upd_l, upd_l_other, upd_l_next}
use Rattle.trie.proofs.Chain.{level_ref, links_frame}
use Rattle.trie.proofs.Tree.{Published, TreeOk, inside_mono}
use Rattle.trie.proofs.World.{World, Structure}
use Rattle.trie.proofs.Evolve.{Grows, Spares, same, none-noted, child_stays, entry_stays, ref_stays, homed_stays}
use Rattle.trie.proofs.Frame.{slot_frame}

-- level G under H, at depth d, with prefix p and empty entries, held by v
abbrev pub take_level : {δ : Dims} → World δ → ℕ → ℕ → ℕ → ℕ → ℕ → World δ
take_level w G H d p v =
    record {
      tree = record {
        prev = upd w.tree.prev G H;
        depth = upd w.tree.depth G d;
        pfx = upd w.tree.pfx G p;
        into = w.tree.into;
        level_owner = upd w.tree.level_owner G v;
      };
      pixel = w.pixel;
      cell = upd_l w.cell G (level_ref G);
      node_owner = w.node_owner;
      chain = w.chain;
      home = w.home;
      mover = w.mover;
      book = w.book;
    }

module _ {δ : Dims} {w : World δ} (S : Structure w) {G : ℕ} (held : w.tree.level_owner G ≢ 0) (H d p v : ℕ) (holds : v ≢ 0) where
  abbrev taken : World δ
  taken = take_level w G H d p v

  not_G : {g : ℕ} → Published w.tree g → g ≢ G
  not_G q e = held (rw e at q)

  published : (g : ℕ) → Published w.tree g → Published taken.tree g
  published g q = upd_other w.tree.level_owner G v g (not_G q) ∙ q

  was : {g : ℕ} → Published taken.tree g → Published w.tree g
  was {g} q = by (ℕ_discrete g G)
    where
      by : Dec (g ≡ G) → Published w.tree g
      by (yes e) = absurd (holds (sym (upd_same w.tree.level_owner G v) ∙ rw e at q))
      by (no e) = sym (upd_other w.tree.level_owner G v g e) ∙ q

  prev_is : (g : ℕ) → Published w.tree g → taken.tree.prev g ≡ w.tree.prev g
  prev_is g q = upd_other w.tree.prev G H g (not_G q)

  depth_is : (g : ℕ) → Published w.tree g → taken.tree.depth g ≡ w.tree.depth g
  depth_is g q = upd_other w.tree.depth G d g (not_G q)

  pfx_is : (g : ℕ) → Published w.tree g → taken.tree.pfx g ≡ w.tree.pfx g
  pfx_is g q = upd_other w.tree.pfx G p g (not_G q)

  pub level_grows : Grows w taken
  level_grows =
      record {
        published = published;
        prev_is = prev_is;
        depth_is = depth_is;
        pfx_is = pfx_is;
        into_is = λ g e z. refl;
        pixel_is = λ m q. refl;
        placed-stays = λ m q. q;
        inside_stays = λ c m i. record { placed = i.placed; inside = inside_mono published prev_is i.inside };
        changed = λ g e. same refl;
        book_grows = none-noted w.book;
      }

  tree_ok' : TreeOk taken.tree
  tree_ok' =
      let k = S.tree_ok in
      record {
        root = published 0 k.root;
        root_depth = depth_is 0 k.root ∙ k.root_depth;
        root_pfx = pfx_is 0 k.root ∙ k.root_pfx;
        child = λ g q z. child_stays level_grows (was q) z (k.child g (was q) z);
        bounded = λ g q. rw (depth_is g (was q)) (k.bounded g (was q));
        closed = λ g e z. entry_stays level_grows z (k.closed g e z);
      }

  pub level_structure : Structure taken
  level_structure =
      record {
        tree_ok = tree_ok';
        homed = λ m g e i. homed_stays level_grows refl (S.homed m g e i);
        in_chain = S.in_chain;
        once = S.once;
        slot = λ g e q l.
            slot_frame w.cell taken.cell (w.chain g e) g e refl
            (upd_l_other w.cell G (level_ref G) g e (not_G (was q)))
            (λ m i. upd_l_next w.cell G (level_ref G) m)
            (ref_stays level_grows) (S.slot g e (was q) l);
      }

  -- a worker u that did not hold G
  pub level_spares : (u : ℕ) → w.tree.level_owner G ≢ u → Spares u w taken
  level_spares u a =
      record {
        my_node = λ m q. (q, refl, upd_l_next w.cell G (level_ref G) m);
        my_level = λ g q.
            let n : g ≢ G = λ e. a (ap w.tree.level_owner (sym e) ∙ q) in (
              upd_other w.tree.level_owner G v g n ∙ q,
              upd_other w.tree.prev G H g n,
              upd_other w.tree.depth G d g n,
              upd_other w.tree.pfx G p g n,
              λ e. upd_l_other w.cell G (level_ref G) g e n,
            );
        my_move = λ g e c m.
            let k = S.tree_ok.closed g e c in
            let f = links_frame w.cell taken.cell (ent g e) (w.chain g e) (upd_l_other w.cell G (level_ref G) g e (not_G k.from)) (λ n i. upd_l_next w.cell G (level_ref G) n) (S.slot g e k.from k.at).links in
            (m, refl, f.1);
      }
