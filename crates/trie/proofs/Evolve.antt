-- What a turn of another worker may have done, seen by one worker, and what it leaves true for that worker.
-- Relies on Digits, Update, Lists, Tree, Read and World.
use mathlib.Core.Path.{◌≡◌, refl, sym, ap, ◌∙◌}
use mathlib.Core.Logic.{◌≢◌}
use mathlib.Core.List.Memᴰ
use mathlib.Core.List.{List, [], ◌∷◌, ◌++◌, append_assoc, append-nil}
use Prim.Native.Nat.{ℕ, ◌≤◌}
use Rattle.trie.proofs.Digits.{Dims, top}
use Rattle.trie.proofs.Update.{ent, nxt}
use Rattle.trie.proofs.Lists.{◌∈◌, Cut, kept, went, cut_append}
use Rattle.trie.proofs.Tree.{Published, Child, Closed, Inside, here, inside_mono, OnPath, deepest}
use Rattle.trie.proofs.Read.{home_path}
use Rattle.trie.proofs.World.{World, Placed, last_cell, NodeInside, RefInside, to_level_lem, to_node_lem, Homed, Structure, Partition, Deep, Walk, along, gone, Other}

-- How a chain may have changed: not; longer while open; shorter by nodes that went into the child
pub data Changed {δ : Dims} (w w' : World δ) (g e : ℕ) : Type 0 where
  same : w'.chain g e ≡ w.chain g e → Changed w w' g e
  longer : (more : List ℕ) → w.tree.into g e ≡ 0 → Published w.tree g → w'.chain g e ≡ w.chain g e ++ more → Changed w w' g e
  shorter : (left : List ℕ) → w.tree.into g e ≢ 0 → w.chain g e ≡ w'.chain g e ++ left → ((n : ℕ) → n ∈ left → NodeInside w' (w.tree.into g e) n) → Changed w w' g e

-- What every effect leaves true for everybody, the worker that makes it included
pub record Grows {δ : Dims} (w w' : World δ) : Type 0 where
  pub published : (g : ℕ) → Published w.tree g → Published w'.tree g
  pub prev_is : (g : ℕ) → Published w.tree g → w'.tree.prev g ≡ w.tree.prev g
  pub depth_is : (g : ℕ) → Published w.tree g → w'.tree.depth g ≡ w.tree.depth g
  pub pfx_is : (g : ℕ) → Published w.tree g → w'.tree.pfx g ≡ w.tree.pfx g
  pub into_is : (g e : ℕ) → w.tree.into g e ≢ 0 → w'.tree.into g e ≡ w.tree.into g e
  pub pixel_is : (n : ℕ) → Placed w n → w'.pixel n ≡ w.pixel n
  pub placed-stays : (n : ℕ) → Placed w n → Placed w' n
  pub inside_stays : (c n : ℕ) → NodeInside w c n → NodeInside w' c n
  pub changed : (g e : ℕ) → Changed w w' g e
  pub book_grows : (more : List ℕ) × (w'.book ≡ w.book ++ more)

-- What the effects of the others leave besides to worker v (its number + 2): what it holds and the chains that it moves
pub record Spares {δ : Dims} (v : ℕ) (w w' : World δ) : Type 0 where
  -- the node and the level that v holds
  pub my_node : (n : ℕ) → w.node_owner n ≡ v → (w'.node_owner n ≡ v) × (w'.pixel n ≡ w.pixel n) × (w'.cell (nxt n) ≡ w.cell (nxt n))
  pub my_level : (g : ℕ) → w.tree.level_owner g ≡ v → (w'.tree.level_owner g ≡ v) × (w'.tree.prev g ≡ w.tree.prev g) × (w'.tree.depth g ≡ w.tree.depth g) × (w'.tree.pfx g ≡ w.tree.pfx g) × ((e : ℕ) → w'.cell (ent g e) ≡ w.cell (ent g e))
  -- the chain that v moves
  pub my_move : (g e : ℕ) → w.tree.into g e ≢ 0 → w.mover (w.tree.into g e) ≡ v → (w'.mover (w.tree.into g e) ≡ v) × (w'.chain g e ≡ w.chain g e) × (w'.cell (last_cell w g e) ≡ w.cell (last_cell w g e))

-- a book in which nothing was noted
pub none-noted : (book : List ℕ) → (more : List ℕ) × (book ≡ book ++ more)
none-noted book = ([], sym (append-nil book))

-- an effect that leaves the levels as they were
pub grows_tree : {δ : Dims} {w w' : World δ} → w'.tree ≡ w.tree → ((n : ℕ) → Placed w n → w'.pixel n ≡ w.pixel n) → ((c n : ℕ) → NodeInside w c n → NodeInside w' c n) → ((g e : ℕ) → Changed w w' g e) → ((more : List ℕ) × (w'.book ≡ w.book ++ more)) → Grows w w'
grows_tree {δ} {w} {w'} t pixel inside changed book =
    record {
      published = λ g p. rw t p;
      prev_is = λ g p. rw t refl;
      depth_is = λ g p. rw t refl;
      pfx_is = λ g p. rw t refl;
      into_is = λ g e z. rw t refl;
      pixel_is = pixel;
      placed-stays = λ n p. (inside (w.home n) n (record { placed = p; inside = here refl })).placed;
      inside_stays = inside;
      changed = changed;
      book_grows = book;
    }

-- an event that changes no word
pub grows_refl : {δ : Dims} (w : World δ) → Grows w w
grows_refl w = grows_tree refl (λ n p. refl) (λ c n i. i) (λ g e. same refl) (none-noted w.book)

module _ {δ : Dims} {w w' : World δ} (E : Grows w w') where
  pub path_stays : {K h : ℕ} → OnPath w.tree K h → OnPath w'.tree K h
  path_stays {K} {h} o = record { pub_at = E.published h o.pub_at; lies = E.pfx_is h o.pub_at ∙ o.lies ∙ ap (top δ K) (sym (E.depth_is h o.pub_at)) }

  pub level-stays : {c t : ℕ} → Inside w.tree c t → Inside w'.tree c t
  level-stays i = inside_mono E.published E.prev_is i

  pub child_stays : {g : ℕ} → Published w.tree g → g ≢ 0 → Child w.tree g → Child w'.tree g
  child_stays {g} p z c =
      let h = w.tree.prev g in
      let q = E.prev_is g p in
      record {
        parent = rw q (E.published h c.parent);
        deeper = rw (q, E.depth_is g p, E.depth_is h c.parent) c.deeper;
        edge = c.edge;
        edge-lt = c.edge-lt;
        prefix = rw (q, E.pfx_is g p, E.pfx_is h c.parent) c.prefix;
        leads = rw q (E.into_is h c.edge (λ y. z (sym c.leads ∙ y)) ∙ c.leads);
      }

  pub entry_stays : {g e : ℕ} → w.tree.into g e ≢ 0 → Closed w.tree g e → Closed w'.tree g e
  entry_stays {g} {e} z c =
      let h = w.tree.into g e in
      let q = E.into_is g e z in
      record {
        from = E.published g c.from;
        at = c.at;
        to = rw q (E.published h c.to);
        back = rw q (E.prev_is h c.to ∙ c.back);
        prefix = rw (q, E.pfx_is h c.to, E.pfx_is g c.from) c.prefix;
      }

  pub ref_stays : (c r : ℕ) → RefInside w c r → RefInside w' c r
  ref_stays c r (to_level_lem t p i) = to_level_lem t p (level-stays i)
  ref_stays c r (to_node_lem n p i) = to_node_lem n p (E.inside_stays c n i)

  pub homed_stays : {n g e : ℕ} → w'.home n ≡ w.home n → Homed w n g e → Homed w' n g e
  homed_stays {n} {g} q h =
      let x = E.pixel_is n h.placed in
      record {
        level = E.published g h.level;
        at = h.at;
        placed = E.placed-stays n h.placed;
        home_is = q ∙ h.home_is;
        small = rw x h.small;
        prefix = rw (x, E.depth_is g h.level, E.pfx_is g h.level) h.prefix;
      }

  -- no node placed, nothing noted
  pub partition_stays : ((n : ℕ) → Placed w' n → Placed w n) → w'.book ≡ w.book → Partition w → Partition w'
  partition_stays was b Q =
      record {
        noted = λ n p. rw b (Q.noted n (was n p));
        noted-placed = λ n i. E.placed-stays n (Q.noted-placed n (rw b at i));
        noted_once = rw b Q.noted_once;
        one_node = λ m n p q e. Q.one_node m n (was m p) (was n q) (sym (E.pixel_is m (was m p)) ∙ e ∙ E.pixel_is n (was n q));
      }

  pub closed-stays : {g e : ℕ} → w.tree.into g e ≢ 0 → w'.tree.into g e ≢ 0
  closed-stays {g} {e} z q = z (sym (E.into_is g e z) ∙ q)

  -- a closed chain gets no node
  pub closed_chain : {g e n : ℕ} → w.tree.into g e ≢ 0 → n ∈ w'.chain g e → n ∈ w.chain g e
  closed_chain {g} {e} {n} z i = by (E.changed g e)
    where
      by : Changed w w' g e → n ∈ w.chain g e
      by (same p) = rw p at i
      by (longer more q l p) = absurd (z q)
      by (shorter left q p f) = rw p (Memᴰ.append_left left i)

  pub walk-stays : {P P' : ℕ → Type 0} (m : (n : ℕ) → Placed w n → P n → P' n) (S : Structure w) {H e R C : ℕ} → Walk w P H e R C → Walk w' P' H e R C
  walk-stays {P} {P'} m S {H} {e} {R} {C} (gone z i f) =
      gone (closed-stays z) (rw (E.into_is H e z) (E.inside_stays (w.tree.into H e) R i)) (λ n j. let k = closed_chain z j in m n (S.homed n H e k).placed (f n k))
  walk-stays {P} {P'} m S {H} {e} {R} {C} (along pre post c k f r) = by (E.changed H e)
    where
      there : (n : ℕ) → n ∈ pre ++ R ∷ post → Placed w n
      there n i = (S.homed n H e (rw c i)).placed

      f' : (n : ℕ) → n ∈ pre → P' n
      f' n i = m n (there n (Memᴰ.append_left (R ∷ post) i)) (f n i)

      r' : P' R
      r' = m R (there R (Memᴰ.append_right pre (Memᴰ.head refl))) r

      by : Changed w w' H e → Walk w' P' H e R C
      by (same p) = along pre post (p ∙ c) k f' r'
      by (longer more q l p) = along pre (post ++ more) (p ∙ rw (c, append_assoc) refl) k f' r'
      by (shorter left z p g) = cut (cut_append pre R post (w'.chain H e) left (sym c ∙ p))
        where
          cut : Cut pre R (w'.chain H e) left → Walk w' P' H e R C
          cut (kept rest q) = along pre rest q k f' r'
          cut (went i h) = gone (closed-stays z) (rw (E.into_is H e z) (g R i)) (λ n j. f' n (h n j))

  pub other_stays : {K : ℕ} (n : ℕ) → Placed w n → Other w K n → Other w' K n
  other_stays n p q = rw (E.pixel_is n p) q

  -- K is placed no higher than h: what is placed or moved goes to an open chain, so to the deepest level on its path
  pub deep_stays : (S : Structure w) (S' : Structure w') {K h : ℕ} → OnPath w.tree K h → Deep w K h → Deep w' K h
  unfolding Deep
  deep_stays S S' {K} {h} o d n p q = by (E.changed g e)
    where
      g : ℕ
      g = (S'.in_chain n p).0

      e : ℕ
      e = (S'.in_chain n p).1

      i : n ∈ w'.chain g e
      i = (S'.in_chain n p).2

      old : n ∈ w.chain g e → w'.tree.depth h ≤ w'.tree.depth (w'.home n)
      old j =
          let a = S.homed n g e j in
          let k = d n a.placed (sym (E.pixel_is n a.placed) ∙ q) in
          rw ((S'.homed n g e i).home_is, E.depth_is h o.pub_at, E.depth_is g a.level) (rw a.home_is at k)

      new : w.tree.into g e ≡ 0 → Published w.tree g → w'.tree.depth h ≤ w'.tree.depth (w'.home n)
      new z l =
          let (u, x) = home_path S' i in
          let at : OnPath w.tree K g = record { pub_at = l; lies = sym (E.pfx_is g l) ∙ u.lies ∙ rw (q, E.depth_is g l) refl } in
          let idle = rw (x, q, E.depth_is g l) at z in
          rw ((S'.homed n g e i).home_is, E.depth_is h o.pub_at, E.depth_is g l) (deepest S.tree_ok at idle o)

      by : Changed w w' g e → w'.tree.depth h ≤ w'.tree.depth (w'.home n)
      by (same p) = old (rw p at i)
      by (longer more z l p) = new z l
      by (shorter left z p f) = old (rw p (Memᴰ.append_left left i))
