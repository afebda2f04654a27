-- Effect E1: a worker takes a node, a new one or its spare, and writes both words (Take, TakeTail).
-- Relies on Digits, Update, Chain, World, Evolve and Frame.
use mathlib.Core.Path.{◌≡◌, refl, sym, ap, ◌∙◌}
use mathlib.Core.Logic.{◌≢◌}
use Prim.Native.Nat.{ℕ}
use native.Mathlib.Decide.{ℕ_discrete}
use Rattle.trie.proofs.Digits.{Dims}
use Rattle.trie.proofs.Update.{Cell, nxt, upd, upd_same, upd_other, upd_c, upd_c_other}
use Rattle.trie.proofs.Chain.{nxt_inj, ent_nxt}
use Rattle.trie.proofs.World.{World, Placed, Structure, Partition}
use Rattle.trie.proofs.Evolve.{Grows, Spares, same, none-noted, grows_tree, ref_stays, homed_stays, partition_stays}
use Rattle.trie.proofs.Frame.{held_away, slot_frame}

-- node n with pixel K and next r, held by v
abbrev pub take_node : {δ : Dims} → World δ → ℕ → ℕ → ℕ → ℕ → World δ
take_node w n K r v =
    record {
      tree = w.tree;
      pixel = upd w.pixel n K;
      cell = upd_c w.cell (nxt n) r;
      node_owner = upd w.node_owner n v;
      chain = w.chain;
      home = w.home;
      mover = w.mover;
      book = w.book;
    }

module _ {δ : Dims} {w : World δ} (S : Structure w) {n : ℕ} (held : w.node_owner n ≢ 0) (K r v : ℕ) (holds : v ≢ 0) where
  abbrev taken : World δ
  taken = take_node w n K r v

  not_n : {m : ℕ} → Placed w m → m ≢ n
  not_n p q = held (rw q at p)

  placed-stays : {m : ℕ} → Placed w m → Placed taken m
  placed-stays {m} p = upd_other w.node_owner n v m (not_n p) ∙ p

  was : {m : ℕ} → Placed taken m → Placed w m
  was {m} p = by (ℕ_discrete m n)
    where
      by : Dec (m ≡ n) → Placed w m
      by (yes q) = absurd (holds (sym (upd_same w.node_owner n v) ∙ rw q at p))
      by (no q) = sym (upd_other w.node_owner n v m q) ∙ p

  pub take_grows : Grows w taken
  take_grows = grows_tree refl (λ m p. upd_other w.pixel n K m (not_n p)) (λ c m i. record { placed = placed-stays i.placed; inside = i.inside }) (λ g d. same refl) (none-noted w.book)

  cell_stays : {x : Cell} → x ≢ nxt n → taken.cell x ≡ w.cell x
  cell_stays {x} q = upd_c_other w.cell (nxt n) r x q

  pub take_structure : Structure taken
  take_structure =
      record {
        tree_ok = S.tree_ok;
        homed = λ m g d i. homed_stays take_grows refl (S.homed m g d i);
        in_chain = λ m p. S.in_chain m (was p);
        once = S.once;
        slot = λ g d p l.
            slot_frame w.cell taken.cell (w.chain g d) g d refl
            (cell_stays ent_nxt)
            (λ m i. cell_stays (λ q. not_n (S.homed m g d i).placed (nxt_inj q)))
            (ref_stays take_grows) (S.slot g d p l);
      }

  pub take_partition : Partition w → Partition taken
  take_partition Q = partition_stays take_grows (λ m p. was p) refl Q

  -- a worker u that did not hold n
  pub take_spares : (u : ℕ) → w.node_owner n ≢ u → Spares u w taken
  take_spares u a =
      record {
        my_node = λ m p.
            let q : m ≢ n = λ q. a (ap w.node_owner (sym q) ∙ p) in
            (upd_other w.node_owner n v m q ∙ p, upd_other w.pixel n K m q, cell_stays (λ y. q (nxt_inj y)));
        my_level = λ g p. (p, refl, refl, refl, λ d. cell_stays ent_nxt);
        my_move = λ g d c m. (m, refl, cell_stays (λ q. held_away S g d held (sym q)));
      }
