-- Effect E6: the last node of a chain that is moving goes to the end of an open chain inside the child (SetPut, SetAppend).
-- Relies on Digits, Update, Lists, Grow, Chain, Tree, World, Read, Evolve and Frame.
use mathlib.Core.Path.{◌≡◌, refl, sym, ap, ◌∙◌}
use mathlib.Core.Logic.{◌≢◌, ◌⊎◌, inl, inr}
use mathlib.Core.List.Memᴰ
use mathlib.Core.List.{List, [], ◌∷◌, ◌++◌}
use Prim.Native.Nat.{ℕ, suc, ◌+◌, ◌*◌, ◌<◌}
use native.Mathlib.Decide.{ℕ_discrete}
use lib.ListN.{length}
use Rattle.trie.proofs.Digits.{Dims, top}
use Rattle.trie.proofs.Update.{ent, nxt, upd, upd_same, upd_other, upd_c, upd_c_other, same_entry?}
use Rattle.trie.proofs.Lists.{◌∈◌, ∈-last}
use Rattle.trie.proofs.Grow.{grown, grown_at, grown_other, grown_came, grown_stays, grown_new, grown_once, shrunk, shrunk_at, shrunk_other, shrunk_came, shrunk_stays, shrunk_once}
use Rattle.trie.proofs.Chain.{level_ref, node_ref}
use Rattle.trie.proofs.Tree.{Published, Inside}
use Rattle.trie.proofs.World.{World, Placed, last_cell, NodeInside, RefInside, to_node_lem, Homed, SlotAt, SlotOk, Structure}
use Rattle.trie.proofs.Read.{inside_child}
use Rattle.trie.proofs.Evolve.{Grows, Spares, Changed, same, longer, shorter, none-noted, grows_tree, ref_stays, homed_stays}
use Rattle.trie.proofs.Frame.{one_slot, ends_apart, node_away, held_away, level_away, slot_other, slot_grow, slot_shrink}

-- node n leaves the chain of (H, e), of which `pre` stays, for the end of that of (T, d)
abbrev pub move_one : {δ : Dims} → World δ → ℕ → ℕ → List ℕ → ℕ → ℕ → ℕ → World δ
move_one w H e pre n T d =
    record {
      tree = w.tree;
      pixel = w.pixel;
      cell = upd_c w.cell (last_cell w T d) (node_ref n);
      node_owner = w.node_owner;
      chain = grown (shrunk w.chain H e pre) T d n;
      home = upd w.home n T;
      mover = w.mover;
      book = w.book;
    }

pub record CanMove {δ : Dims} (w : World δ) (H e : ℕ) (pre : List ℕ) (n T d : ℕ) : Type 0 where
  pub from : Published w.tree H
  pub from_at : e < δ.base
  pub closed : w.tree.into H e ≢ 0
  pub last : w.chain H e ≡ pre ++ (n ∷ [])
  pub level : Published w.tree T
  pub at : d < δ.base
  pub idle : w.tree.into T d ≡ 0
  pub inside : Inside w.tree (w.tree.into H e) T
  pub room : length (w.chain T d) < δ.limit
  pub aims : w.cell (nxt n) ≡ level_ref T
  pub prefix : top δ (w.pixel n) (suc (w.tree.depth T)) ≡ w.tree.pfx T * δ.base + d

module _ {δ : Dims} {w : World δ} (S : Structure w) {H e : ℕ} {pre : List ℕ} {n T d : ℕ} (k : CanMove w H e pre n T d) where
  abbrev after : World δ
  after = move_one w H e pre n T d

  there : n ∈ w.chain H e
  there = rw k.last (∈-last pre n)

  alone : (g f : ℕ) → n ∈ w.chain g f → (g ≡ H) × (f ≡ e)
  alone g f i = one_slot S i there

  apart : ¬ ((T ≡ H) × (d ≡ e))
  apart q = k.closed (rw (← q.0, ← q.1) k.idle)

  -- the target chain itself is not shortened
  target : shrunk w.chain H e pre T d ≡ w.chain T d
  target = shrunk_other w.chain H e n pre k.last S.once alone T d apart

  -- the chain that is left
  pub at_source : after.chain H e ≡ pre
  at_source = grown_other (shrunk w.chain H e pre) T d n H e (λ q. apart (sym q.0, sym q.1)) ∙ shrunk_at w.chain H e n pre k.last S.once alone

  at_target : after.chain T d ≡ w.chain T d ++ (n ∷ [])
  at_target = grown_at (shrunk w.chain H e pre) T d n ∙ ap (λ l. l ++ (n ∷ [])) target

  pub elsewhere : (g f : ℕ) → ¬ ((g ≡ H) × (f ≡ e)) → ¬ ((g ≡ T) × (f ≡ d)) → after.chain g f ≡ w.chain g f
  elsewhere g f p q = grown_other (shrunk w.chain H e pre) T d n g f q ∙ shrunk_other w.chain H e n pre k.last S.once alone g f p

  inside_stays : {c m : ℕ} → NodeInside w c m → NodeInside after c m
  inside_stays {c} {m} i = record { placed = i.placed; inside = by (ℕ_discrete m n) }
    where
      by : Dec (m ≡ n) → Inside w.tree c (upd w.home n T m)
      by (yes q) = let j : Inside w.tree c H = rw (q, (S.homed n H e there).home_is) at i.inside in rw (q, upd_same w.home n T) (inside_child S.tree_ok k.closed j k.inside)
      by (no q) = rw (upd_other w.home n T m q) i.inside

  went : NodeInside after (w.tree.into H e) n
  went = record { placed = (S.homed n H e there).placed; inside = rw (upd_same w.home n T) k.inside }

  pub move_grows : Grows w after
  move_grows = grows_tree refl (λ m p. refl) (λ c m i. inside_stays i) (λ g y. by g y (same_entry? g y T d) (same_entry? g y H e)) (none-noted w.book)
    where
      by : (g y : ℕ) → Dec ((g ≡ T) × (y ≡ d)) → Dec ((g ≡ H) × (y ≡ e)) → Changed w after g y
      by g y (yes q) p = longer (n ∷ []) (rw (q.0, q.1) k.idle) (rw q.0 k.level) (rw (q.0, q.1) at_target)
      by g y (no q) (yes p) =
          shorter (n ∷ []) (rw (p.0, p.1) k.closed) (rw (p.0, p.1, at_source) k.last) (λ m i. rw (p.0, p.1, Memᴰ.eq_of_singleton i) went)
      by g y (no q) (no p) = same (elsewhere g y p q)

  homed' : (m g f : ℕ) → m ∈ after.chain g f → Homed after m g f
  homed' m g f i = by (grown_came (shrunk w.chain H e pre) T d n i)
    where
      new : Homed after n T d
      new =
          record {
            level = k.level;
            at = k.at;
            placed = (S.homed n H e there).placed;
            home_is = upd_same w.home n T;
            small = (S.homed n H e there).small;
            prefix = k.prefix;
          }

      by : (m ∈ shrunk w.chain H e pre g f) ⊎ ((m ≡ n) × (g ≡ T) × (f ≡ d)) → Homed after m g f
      by (inl j) = let (i, q) = shrunk_came w.chain H e n pre k.last S.once alone j in homed_stays move_grows (upd_other w.home n T m q) (S.homed m g f i)
      by (inr x) = rw (x.0, x.1, x.2) new

  in_chain' : (m : ℕ) → Placed w m → (g : ℕ) × (f : ℕ) × (m ∈ after.chain g f)
  in_chain' m p = by (ℕ_discrete m n)
    where
      by : Dec (m ≡ n) → (g : ℕ) × (f : ℕ) × (m ∈ after.chain g f)
      by (yes q) = (T, d, rw q (grown_new (shrunk w.chain H e pre) T d n))
      by (no q) = let (g, f, i) = S.in_chain m p in (g, f, grown_stays (shrunk w.chain H e pre) T d n (shrunk_stays w.chain H e n pre k.last S.once alone i q))

  -- every chain but the target keeps its words
  kept : (g f : ℕ) → ¬ ((g ≡ T) × (f ≡ d)) → SlotOk w g f → SlotAt w.tree (RefInside after) after.cell (w.chain g f) g f
  kept g f q s = slot_other S T d (node_ref n) g f q refl (ref_stays move_grows) s

  slot' : (g f : ℕ) → SlotOk w g f → Dec ((g ≡ T) × (f ≡ d)) → Dec ((g ≡ H) × (f ≡ e)) → SlotOk after g f
  slot' g f s (yes q) p =
      rw (q.0, q.1, at_target) (slot_grow w.cell (w.chain T d) T d n (S.once T d) k.idle k.room (node_away w (λ i. apart (alone T d i))) k.aims (S.slot T d k.level k.at))
  slot' g f s (no q) (yes p) =
      rw (p.0, p.1, at_source) (slot_shrink after.cell pre H e n k.closed (to_node_lem n refl went) (rw k.last at (kept H e (λ x. apart (sym x.0, sym x.1)) (S.slot H e k.from k.from_at))))
  slot' g f s (no q) (no p) = rw (elsewhere g f p q) (kept g f q s)

  pub move_structure : Structure after
  move_structure =
      record {
        tree_ok = S.tree_ok;
        homed = homed';
        in_chain = in_chain';
        once = grown_once (shrunk w.chain H e pre) T d n (λ i. apart (alone T d (rw target at i))) (shrunk_once w.chain H e n pre k.last S.once alone);
        slot = λ g f p l. slot' g f (S.slot g f p l) (same_entry? g f T d) (same_entry? g f H e);
      }

  -- another worker v, who does not move this chain, sees one chain shorter and one longer
  pub move_spares : (v : ℕ) → v ≢ 0 → w.mover (w.tree.into H e) ≢ v → Spares v w after
  move_spares v z a =
      let f = w.cell in
      let x = last_cell w T d in
      record {
        my_node = λ m p. (p, refl, upd_c_other f x (node_ref n) (nxt m) (held_away S T d (λ q. z (sym p ∙ q))));
        my_level = λ g p. (p, refl, refl, refl, λ y. upd_c_other f x (node_ref n) (ent g y) (level_away w T d (λ q. z (sym p ∙ q)) k.level));
        my_move = λ g y c m.
            let p : ¬ ((g ≡ H) × (y ≡ e)) = λ q. a (rw (q.0, q.1) at m) in
            let q : ¬ ((g ≡ T) × (y ≡ d)) = λ q. c (rw (q.0, q.1) k.idle) in
            (m, elsewhere g y p q, upd_c_other f x (node_ref n) (last_cell w g y) (ends_apart S q));
      }
