-- What writing the end cell of one chain leaves alone.
-- Relies on Digits, Update, Lists, Chain, Tree and World.
use mathlib.Core.Path.{◌≡◌, sym, ap, ◌∙◌}
use mathlib.Core.Logic.{◌≢◌}
use mathlib.Core.List.Memᴰ
use mathlib.Core.List.{List, [], ◌∷◌, ◌++◌}
use Prim.Native.Nat.{ℕ, suc, ◌<◌}
use native.Mathlib.Omega.{arith}
use lib.ListN.{length, length-append}
use Rattle.trie.proofs.Digits.{Dims, top, digits_split}
use Rattle.trie.proofs.Update.{Cell, ent, nxt, upd_c, upd_c_same, upd_c_other}
use Rattle.trie.proofs.Lists.{◌∈◌, NoDup}
use Rattle.trie.proofs.Chain.{level_ref, node_ref, nxt_inj, ent_inj, ent_nxt, end_cell, EndOf, first, after, end_of, end_at, links_frame, links_end, links_snoc, links_init}
use Rattle.trie.proofs.Tree.{Tree, Published}
use Rattle.trie.proofs.World.{World, last_cell, RefInside, SlotAt, SlotOk, Structure}

-- a node stands in one chain
pub one_slot : {δ : Dims} {w : World δ} (S : Structure w) {m g e h d : ℕ} → m ∈ w.chain g e → m ∈ w.chain h d → (g ≡ h) × (e ≡ d)
one_slot {δ} {w} S {m} {g} {e} {h} {d} i j =
    let a = S.homed m g e i in
    let b = S.homed m h d j in
    let same : g ≡ h = sym a.home_is ∙ b.home_is in
    (same, (digits_split a.at b.at (sym a.prefix ∙ ap (λ x. top δ (w.pixel m) (suc (w.tree.depth x))) same ∙ b.prefix)).1)

-- a cell that belongs to no chain but that of (g, e) is not the end cell of another
pub entry_away : {δ : Dims} (w : World δ) {g e h d : ℕ} → ¬ ((g ≡ h) × (e ≡ d)) → ent g e ≢ last_cell w h d
entry_away w {g} {e} {h} {d} n q = by (end_of (ent h d) (w.chain h d))
  where
    by : EndOf (ent h d) (w.chain h d) → ⊥
    by (first z p) = n (ent_inj (q ∙ p))
    by (after m i p) = ent_nxt (q ∙ p)

pub node_away : {δ : Dims} (w : World δ) {m h d : ℕ} → ¬ (m ∈ w.chain h d) → nxt m ≢ last_cell w h d
node_away w {m} {h} {d} n q = by (end_of (ent h d) (w.chain h d))
  where
    by : EndOf (ent h d) (w.chain h d) → ⊥
    by (first z p) = ent_nxt (sym (q ∙ p))
    by (after k i p) = n (Memᴰ.cast (nxt_inj (q ∙ p)) i)

-- two chains end in two cells
pub ends_apart : {δ : Dims} {w : World δ} (S : Structure w) {g e h d : ℕ} → ¬ ((g ≡ h) × (e ≡ d)) → last_cell w g e ≢ last_cell w h d
ends_apart {δ} {w} S {g} {e} {h} {d} n q = by (end_of (ent g e) (w.chain g e))
  where
    by : EndOf (ent g e) (w.chain g e) → ⊥
    by (first z p) = entry_away w n (sym p ∙ q)
    by (after m i p) = node_away w (λ j. n (one_slot S i j)) (sym p ∙ q)

-- a chain whose words stayed
pub slot_frame : {δ : Dims} {T T' : Tree δ} {R R' : ℕ → ℕ → Type 0} (f f' : Cell → ℕ) (ns : List ℕ) (g e : ℕ) → T'.into g e ≡ T.into g e → f' (ent g e) ≡ f (ent g e) → ((n : ℕ) → n ∈ ns → f' (nxt n) ≡ f (nxt n)) → ((c r : ℕ) → R c r → R' c r) → SlotAt T R f ns g e → SlotAt T' R' f' ns g e
slot_frame f f' ns g e q h k m s =
    let l = links_frame f f' (ent g e) ns h k s.links in
    record {
      links = l.0;
      short = s.short;
      if_open = λ z. l.1 ∙ s.if_open (sym q ∙ z);
      if_closed = λ z. rw (q, l.1) (m _ _ (s.if_closed (λ y. z (q ∙ y))));
      direct = λ t z c p. s.direct t (λ y. z (q ∙ y)) c (sym h ∙ p) ∙ sym q;
    }

-- a chain that is not the one whose end cell was written
pub slot_other : {δ : Dims} {w : World δ} (S : Structure w) (h d v : ℕ) {T' : Tree δ} {R' : ℕ → ℕ → Type 0} (g e : ℕ) → ¬ ((g ≡ h) × (e ≡ d)) → T'.into g e ≡ w.tree.into g e → ((c r : ℕ) → RefInside w c r → R' c r) → SlotOk w g e → SlotAt T' R' (upd_c w.cell (last_cell w h d) v) (w.chain g e) g e
slot_other {δ} {w} S h d v g e n q m s =
    let f = w.cell in
    let x = last_cell w h d in
    slot_frame f (upd_c f x v) (w.chain g e) g e q (upd_c_other f x v (ent g e) (entry_away w n)) (λ k i. upd_c_other f x v (nxt k) (node_away w (λ j. n (one_slot S i j)))) m s

-- the end cell of a chain of a published level is no word of a held node or level
pub held_away : {δ : Dims} {w : World δ} (S : Structure w) {m : ℕ} (h d : ℕ) → w.node_owner m ≢ 0 → nxt m ≢ last_cell w h d
held_away {δ} {w} S {m} h d a = node_away w (λ i. a (S.homed m h d i).placed)

pub level_away : {δ : Dims} (w : World δ) {g e : ℕ} (h d : ℕ) → w.tree.level_owner g ≢ 0 → Published w.tree h → ent g e ≢ last_cell w h d
level_away w h d a p = entry_away w (λ q. a (ap w.tree.level_owner q.0 ∙ p))

-- an open chain that gets a node at its end
pub slot_grow : {δ : Dims} {T : Tree δ} {R R' : ℕ → ℕ → Type 0} (f : Cell → ℕ) (ns : List ℕ) (g e n : ℕ) → NoDup ns → T.into g e ≡ 0 → length ns < δ.limit → nxt n ≢ end_cell (ent g e) ns → f (nxt n) ≡ level_ref g → SlotAt T R f ns g e → SlotAt T R' (upd_c f (end_cell (ent g e) ns) (node_ref n)) (ns ++ (n ∷ [])) g e
slot_grow f ns g e n o idle room away aims s =
    let x = end_cell (ent g e) ns in
    record {
      links = links_snoc (upd_c f x (node_ref n)) (ent g e) ns n (links_end f (ent g e) ns (node_ref n) (λ m i. ent_nxt) o s.links) (upd_c_same f x (node_ref n));
      short = rw length-append (omega arith);
      if_open = λ z. rw (end_at (ent g e) ns n []) (upd_c_other f x (node_ref n) (nxt n) away ∙ aims);
      if_closed = λ z. absurd (z idle);
      direct = λ t z c q. absurd (z idle);
    }

-- a closed chain whose last node has gone into the child
pub slot_shrink : {δ : Dims} {T : Tree δ} {R R' : ℕ → ℕ → Type 0} (f : Cell → ℕ) (ns : List ℕ) (g e n : ℕ) → T.into g e ≢ 0 → R' (T.into g e) (node_ref n) → SlotAt T R f (ns ++ (n ∷ [])) g e → SlotAt T R' f ns g e
slot_shrink f ns g e n z r s =
    let l = links_init f (ent g e) ns n s.links in
    record {
      links = l.0;
      short = let k = rw length-append at s.short in omega arith;
      if_open = λ q. absurd (z q);
      if_closed = λ q. rw l.1 r;
      direct = λ t q c p. let k : f (ent g e) ≡ node_ref n = rw c at l.1 in absurd (omega arith);
    }
