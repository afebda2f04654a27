-- The least pixel of the marked nodes is the smallest reachable pixel.
-- Relies on reach for what the marks tell.
use mathlib.Core.Path.{◌≡◌, refl, sym, ap, ◌∙◌}
use mathlib.Core.Logic.{◌≢◌, ◌⊎◌, inl, inr}
use mathlib.Core.Bool.{Bool, true, false, not, cond, ◌&&◌}
use mathlib.Core.List.Memᴰ
use mathlib.Core.List.{List, [], ◌∷◌, Memᴰ, map}
use Prim.Native.Nat.{ℕ, zero, suc, ◌+◌, ◌≤◌, ◌<◌, min}
use native.Mathlib.Decide.{ℕ_discrete}
use native.Mathlib.Omega.{arith}
use lib.Dec.{eqb, leb}
use lib.ListN.{get_or}
use borrow.Author.Tests.{leb-true, leb-false, eqb-false, ne_eqb, le-leb}
use Rattle.std.specs.Prelude.{Ok, filter, fold}
use Rattle.std.specs.List.{range_with_len, reduce}
use Rattle.std.proofs.lemmas.Bool.{not-true, and_parts, and_from}
use Rattle.words.specs.Digits.{max_pixel}
use Rattle.words.proofs.Choice.{true_false}
use Rattle.settings.specs.declared.Settings.{Settings}
use Rattle.areas.specs.Memory.{Memory, pixel_at}
use Rattle.reach.specs.Reachable.{Reachable}
use Rattle.reach.specs.Marked.{Marked, Fits, things}
use Rattle.reach.proofs.Exact.{not_dangling, reached_below}
use Rattle.listing.specs.Cut.{held, least_of, SeenFrom}

-- the members of what the chain gives
of_range : (a n : ℕ) {i : ℕ} → Memᴰ i (range_with_len a n) → i < a + n
of_range a zero h = absurd (Memᴰ.not-nil h)
of_range a (suc n) (Memᴰ.head e) = omega arith
of_range a (suc n) (Memᴰ.tail h) = let l = of_range (a + 1) n h in omega arith

to_range : (a n : ℕ) {i : ℕ} → a ≤ i → i < a + n → Memᴰ i (range_with_len a n)
to_range a zero l h = absurd (omega arith)
to_range a (suc n) {i} l h = by (ℕ_discrete i a) (to_range (a + 1) n)
  where
    by : Dec (i ≡ a) → (a + 1 ≤ i → i < a + 1 + n → Memᴰ i (range_with_len (a + 1) n)) → Memᴰ i (range_with_len a (suc n))
    by (yes e) f = Memᴰ.head e
    by (no d) f = Memᴰ.tail (f (omega arith) (omega arith))

module _ (f : ℕ → Bool) where
  of_filter : (l : List ℕ) {x : ℕ} → Memᴰ x (filter f l) → Memᴰ x l × (f x ≡ true)
  of_filter [] h = absurd (Memᴰ.not-nil h)
  of_filter (y ∷ l) {x} h = by (λ k. of_filter l k) (f y) refl h
    where
      by : (Memᴰ x (filter f l) → Memᴰ x l × (f x ≡ true)) → (b : Bool) → f y ≡ b → Memᴰ x (cond b (y ∷ filter f l) (filter f l)) → Memᴰ x (y ∷ l) × (f x ≡ true)
      by g true e (Memᴰ.head q) = (Memᴰ.head q, ap f q ∙ e)
      by g true e (Memᴰ.tail k) = let (m, t) = g k in (Memᴰ.tail m, t)
      by g false e k = let (m, t) = g k in (Memᴰ.tail m, t)

  to_filter : (l : List ℕ) {x : ℕ} → Memᴰ x l → f x ≡ true → Memᴰ x (filter f l)
  to_filter [] h t = absurd (Memᴰ.not-nil h)
  to_filter (y ∷ l) {x} h t = by (λ k. to_filter l k t) (f y) refl (Memᴰ.cases_cons h)
    where
      by : (Memᴰ x l → Memᴰ x (filter f l)) → (b : Bool) → f y ≡ b → (x ≡ y) ⊎ Memᴰ x l → Memᴰ x (cond b (y ∷ filter f l) (filter f l))
      by g true e (inl q) = Memᴰ.head q
      by g true e (inr k) = Memᴰ.tail (g k)
      by g false e (inl q) = absurd (true_false (sym t ∙ (ap f q ∙ e)))
      by g false e (inr k) = g k

module _ (f : ℕ → ℕ) where
  of_map : (l : List ℕ) {y : ℕ} → Memᴰ y (map f l) → (x : ℕ) × Memᴰ x l × (f x ≡ y)
  of_map [] h = absurd (Memᴰ.not-nil h)
  of_map (x ∷ l) (Memᴰ.head e) = (x, Memᴰ.head refl, sym e)
  of_map (x ∷ l) (Memᴰ.tail h) = let (z, m, e) = of_map l h in (z, Memᴰ.tail m, e)

  to_map : (l : List ℕ) {x : ℕ} → Memᴰ x l → Memᴰ (f x) (map f l)
  to_map [] h = absurd (Memᴰ.not-nil h)
  to_map (x ∷ l) (Memᴰ.head e) = Memᴰ.head (ap f e)
  to_map (x ∷ l) (Memᴰ.tail h) = Memᴰ.tail (to_map l h)

-- the least of a list is in it, and below all of it
fold_in : (a : ℕ) (l : List ℕ) → Memᴰ (fold min a l) (a ∷ l)
fold_in a [] = Memᴰ.head refl
fold_in a (x ∷ l) = by (Memᴰ.cases_cons (fold_in (min a x) l)) (leb a x) refl
  where
    by : (fold min (min a x) l ≡ min a x) ⊎ Memᴰ (fold min (min a x) l) l → (b : Bool) → leb a x ≡ b → Memᴰ (fold min (min a x) l) (a ∷ x ∷ l)
    by (inl e) true t = let h : a ≤ x = leb-true _ _ t in Memᴰ.head (omega arith)
    by (inl e) false t = let h : x < a = leb-false _ _ t in Memᴰ.tail (Memᴰ.head (omega arith))
    by (inr k) b t = Memᴰ.tail (Memᴰ.tail k)

fold_below : (a : ℕ) (l : List ℕ) → (fold min a l ≤ a) × ((q : ℕ) → Memᴰ q l → fold min a l ≤ q)
fold_below a [] = (omega arith, λ q h. absurd (Memᴰ.not-nil h))
fold_below a (x ∷ l) =
    let (h, f) = fold_below (min a x) l in
    (omega arith, λ q m. by f h q (Memᴰ.cases_cons m))
  where
    by : ((q : ℕ) → Memᴰ q l → fold min (min a x) l ≤ q) → fold min (min a x) l ≤ min a x → (q : ℕ) → (q ≡ x) ⊎ Memᴰ q l → fold min (min a x) l ≤ q
    by f h q (inl e) = omega arith
    by f h q (inr m) = f q m

module _ (nodes marks : List ℕ) (place k : ℕ) where
  abbrev is_marked : ℕ → Bool
  is_marked i = not (eqb (get_or marks i 0) 0)

  abbrev in_reach : ℕ → Bool
  in_reach p = leb place p && leb p max_pixel

  -- a pixel that is held is a marked node's, and the other way round
  record Held (p : ℕ) : Type 0 where
    node : ℕ
    below : node < k
    marked : get_or marks node 0 ≢ 0
    holds : pixel_at nodes node ≡ p
    above : place ≤ p
    bounded : p ≤ max_pixel

  of_held : {p : ℕ} → Memᴰ p (held nodes marks place k) → Held p
  of_held {p} h =
      let (m, t) = of_filter in_reach _ h in
      let (i, n, e) = of_map (λ i. pixel_at nodes i) _ m in
      let (r, d) = of_filter is_marked _ n in
      record {
        node = i;
        below = let l = of_range 0 k r in omega arith;
        marked = eqb-false _ _ (not-true _ d);
        holds = e;
        above = leb-true _ _ (and_parts _ _ t).0;
        bounded = leb-true _ _ (and_parts _ _ t).1;
      }

  to_held : (i : ℕ) → i < k → get_or marks i 0 ≢ 0 → place ≤ pixel_at nodes i → pixel_at nodes i ≤ max_pixel → Memᴰ (pixel_at nodes i) (held nodes marks place k)
  to_held i l d a b =
      to_filter in_reach _ (to_map (λ i. pixel_at nodes i) _ (to_filter is_marked _ (to_range 0 k (omega arith) (omega arith)) (ap not (ne_eqb _ _ d)))) (and_from _ _ (le-leb _ _ a) (le-leb _ _ b))

-- what is seen at a place
pub seen : {w : ℕ} {s : Settings} {m : Memory} {marks : List ℕ} (place : ℕ) → Marked w s m false marks → Fits s things → SeenFrom w s m place (Ok (least_of m.nodes marks place s.nodes_taken))
unfolding least_of
seen {w} {s} {m} {marks} place X F = by (held m.nodes marks place s.nodes_taken) refl
  where
    listed : (q : ℕ) → Reachable w m q → place ≤ q → Memᴰ q (held m.nodes marks place s.nodes_taken)
    listed q R p =
        let i = R.node in
        rw R.holds at (to_held m.nodes marks place s.nodes_taken i (reached_below X refl i R.reached) (X.reached_marked refl i R.reached) (rw R.holds p) (rw R.holds R.is_pixel_number))

    by : (l : List ℕ) → held m.nodes marks place s.nodes_taken ≡ l → SeenFrom w s m place (Ok (reduce min l))
    by [] e = (not_dangling X refl, λ q R p. Memᴰ.not-nil (rw e at (listed q R p)))
    by (a ∷ l) e =
        let H : Held m.nodes marks place s.nodes_taken (fold min a l) = of_held m.nodes marks place s.nodes_taken (rw e (fold_in a l)) in (
          not_dangling X refl,
          record {
            reachable = record { node = H.node; reached = X.marked_reached H.node (let b = H.below in omega (arith, F.nodes)) H.marked; holds = H.holds; is_pixel_number = H.bounded };
            above = H.above;
            least = λ q R p. below q (Memᴰ.cases_cons (rw e at (listed q R p)));
          },
        )
      where
        below : (q : ℕ) → (q ≡ a) ⊎ Memᴰ q l → fold min a l ≤ q
        below q (inl z) = let h = (fold_below a l).0 in omega arith
        below q (inr n) = (fold_below a l).1 q n
