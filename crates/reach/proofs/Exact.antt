-- The search finds exactly what is reached: what it marks is reached, and when it ends nothing that is reached is left out.
-- Relies on Marks for the count of marks, on Things for references, on rules for what is reached.
use mathlib.Core.Path.{◌≡◌, refl, ap, sym, ◌∙◌}
use mathlib.Core.Logic.{◌≢◌, ◌⊎◌, inl, inr}
use mathlib.Core.Bool.{Bool, true, false, not}
use mathlib.Core.List.{List, [], ◌∷◌, ◌++◌}
use Prim.Native.Nat.{ℕ, zero, suc, ◌+◌, ◌-◌, ◌≤◌, ◌<◌}
use native.Mathlib.Decide.{ℕ_discrete}
use native.Mathlib.Omega.{arith}
use lib.Dec.{eqb, ltb}
use lib.ListN.{length, get_or, set, replicate, length-set, length-replicate, length-append, get_or-append}
use lib.Seq.{get_or-set_same, get_or-set_other, get_or-append_seam}
use borrow.Author.Tests.{ltb-true, eqb-true, eqb-false, lt-ltb, ltb-false, not-true}
use Rattle.words.specs.Digits.{base}
use Rattle.words.proofs.Choice.{pick-both, both_left, both_right, both_true, true_false}
use Rattle.settings.specs.declared.Settings.{Settings}
use Rattle.settings.specs.Sizes.{max_nodes}
use Rattle.areas.specs.Memory.{Memory, level_ref, node_ref, none, next_at, previous_at, entry_at, ref_taken}
use Rattle.rules.specs.Reached.{Reached, root, by_entry, by_next, by_previous}
use Rattle.reach.specs.Cut.{Search, thing_of, ref_of, ones, discovered, met_thing, dangles, met, met_entries, met_previous, level_expanded, expanded, goes_on, round, rounds, unsearched}
use Rattle.reach.specs.Reachable.{Dangling}
use Rattle.reach.specs.Marked.{Marked, Fits}
use Rattle.reach.proofs.Marks.{ones-le, ones-set, ones_none}
use Rattle.reach.proofs.Things.{node_thing, node_ref_lem, level_ref_lem, met-level, thing_ref, thing_below, node_taken_lem}

-- one reference leads to another in one step
pub data Leads (w : ℕ) (m : Memory) : ℕ → ℕ → Type 0 where
  to_entry : {r r' : ℕ} (g e : ℕ) → r ≡ level_ref g → e < base w → r' ≡ entry_at w m.levels g e → Leads w m r r'
  to_next : {r r' : ℕ} (i : ℕ) → r ≡ node_ref i → r' ≡ next_at m.nodes i → Leads w m r r'
  to_previous : {r r' : ℕ} (g : ℕ) → r ≡ level_ref g → previous_at w m.levels g ≢ none → r' ≡ level_ref (previous_at w m.levels g) → Leads w m r r'

-- what stays as a search goes on
pub record Grows (x y : Search) : Type 0 where
  pub marks_stay : (t : ℕ) → get_or x.marks t 0 ≢ 0 → get_or y.marks t 0 ≢ 0
  pub queue_stays : (j : ℕ) → j < length x.queue → get_or y.queue j 0 ≡ get_or x.queue j 0
  pub count_grows : length x.queue ≤ length y.queue
  pub dangling_stays : y.dangling ≡ false → x.dangling ≡ false

grows_refl : (x : Search) → Grows x x
grows_refl x = record { marks_stay = λ t h. h; queue_stays = λ j h. refl; count_grows = omega arith; dangling_stays = λ e. e }

grows_trans : {x y z : Search} → Grows x y → Grows y z → Grows x z
grows_trans {x} {y} {z} p q =
    record {
      marks_stay = λ t h. q.marks_stay t (p.marks_stay t h);
      queue_stays = λ j h. q.queue_stays j (let c = p.count_grows in omega arith) ∙ p.queue_stays j h;
      count_grows = let c = p.count_grows in let d = q.count_grows in omega arith;
      dangling_stays = λ e. p.dangling_stays (q.dangling_stays e);
    }

-- the search met a reference: it names something taken, and that is marked
pub record Fine (s : Settings) (x : Search) (r : ℕ) : Type 0 where
  pub taken : ref_taken s r ≡ true
  pub marked : get_or x.marks (thing_of r) 0 ≢ 0

fine_grows : {s : Settings} {x y : Search} {r : ℕ} → Grows x y → Fine s x r → Fine s y r
fine_grows {r = r} g f = record { taken = f.taken; marked = g.marks_stay (thing_of r) f.marked }

-- what holds of a search at any time, n being the room for things
pub record Holds (w : ℕ) (s : Settings) (m : Memory) (n : ℕ) (x : Search) : Type 0 where
  pub marks_length : length x.marks ≡ n
  pub counted : ones x.marks ≡ length x.queue
  pub queued : (t : ℕ) → get_or x.marks t 0 ≢ 0 → (j : ℕ) × (j < length x.queue) × (get_or x.queue j 0 ≡ t)
  pub sound : (j : ℕ) → j < length x.queue → Reached w m (ref_of (get_or x.queue j 0))
  pub why : x.dangling ≡ true → Dangling w s m

-- y comes after x, and met every reference of P unless one of them named nothing taken
pub record Met (w : ℕ) (s : Settings) (m : Memory) (n : ℕ) (x y : Search) (P : ℕ → Type 0) : Type 0 where
  pub holds : Holds w s m n y
  pub grows : Grows x y
  pub fine : y.dangling ≡ false → (r : ℕ) → P r → Fine s y r

module _ {w : ℕ} {s : Settings} {m : Memory} {n : ℕ} (F : Fits s n) where
  -- there are never more things discovered than there is room for
  pub count-le : {x : Search} → Holds w s m n x → length x.queue ≤ n
  count-le {x} H = let o = ones-le x.marks in let e = H.counted in omega (arith, H.marks_length)

  -- a thing is discovered
  discovered-met : (x : Search) (r : ℕ) → Holds w s m n x → Reached w m r → ref_taken s r ≡ true → get_or x.marks (thing_of r) 0 ≡ 0 → Met w s m n x (discovered x (thing_of r)) (λ r'. r' ≡ r)
  unfolding discovered
  discovered-met x r H R k z =
      record {
        holds =
            record {
              marks_length = length-set x.marks t 1 ∙ H.marks_length;
              counted = let o = ones-set x.marks t below z in let e = H.counted in let l = length-append x.queue (t ∷ []) in omega arith;
              queued = λ t' h. let (j, l, q) = queued' t' h (ℕ_discrete t' t) in let a = longer in (j, omega arith, q);
              sound = λ j h. let a = longer in sound' j (omega arith) (ℕ_discrete j c);
              why = H.why;
            };
        grows =
            record {
              marks_stay = λ t' h. stay t' h (ℕ_discrete t' t);
              queue_stays = λ j h. get_or-append x.queue (t ∷ []) 0 j h;
              count_grows = let l = length-append x.queue (t ∷ []) in omega arith;
              dangling_stays = λ e. e;
            };
        fine = λ a r' e. rw e (record { taken = k; marked = mark });
      }
    where
      t : ℕ
      t = thing_of r

      c : ℕ
      c = length x.queue

      below : t < length x.marks
      below = let b : t < n = thing_below F r k in omega (arith, b, H.marks_length)

      longer : length (x.queue ++ t ∷ []) ≡ c + 1
      longer = length-append x.queue (t ∷ [])

      mark : get_or (set x.marks t 1) t 0 ≢ 0
      mark e = let o = get_or-set_same x.marks t 1 0 below in omega (arith, o, e)

      queued' : (t' : ℕ) → get_or (set x.marks t 1) t' 0 ≢ 0 → Dec (t' ≡ t) → (j : ℕ) × (j < c + 1) × (get_or (x.queue ++ t ∷ []) j 0 ≡ t')
      queued' t' h (yes e) = (c, omega arith, get_or-append_seam x.queue t [] 0 ∙ sym e)
      queued' t' h (no d) =
          let (j, l, q) = H.queued t' (λ o. h (get_or-set_other x.marks t t' 1 0 d ∙ o)) in
          (j, omega arith, get_or-append x.queue (t ∷ []) 0 j l ∙ q)

      sound' : (j : ℕ) → j < c + 1 → Dec (j ≡ c) → Reached w m (ref_of (get_or (x.queue ++ t ∷ []) j 0))
      sound' j h (yes e) =
          let q : get_or (x.queue ++ t ∷ []) j 0 ≡ t = ap (λ (i : ℕ). get_or (x.queue ++ t ∷ []) i 0) e ∙ get_or-append_seam x.queue t [] 0 in
          rw (q, thing_ref F r k) R
      sound' j h (no d) = let l : j < c = omega arith in rw (get_or-append x.queue (t ∷ []) 0 j l) (H.sound j l)

      stay : (t' : ℕ) → get_or x.marks t' 0 ≢ 0 → Dec (t' ≡ t) → get_or (set x.marks t 1) t' 0 ≢ 0
      stay t' h (yes e) o = h (ap (λ (i : ℕ). get_or x.marks i 0) e ∙ z)
      stay t' h (no d) o = h (sym (get_or-set_other x.marks t t' 1 0 d) ∙ o)

  -- a reference that names nothing taken
  dangles-met : (x : Search) (r : ℕ) → Holds w s m n x → Reached w m r → ref_taken s r ≡ false → Met w s m n x (dangles x) (λ r'. r' ≡ r)
  unfolding dangles
  dangles-met x r H R k =
      record {
        holds =
            record {
              marks_length = H.marks_length;
              counted = H.counted;
              queued = H.queued;
              sound = H.sound;
              why = λ e. record { reference = r; reached = R; names_nothing = k };
            };
        grows =
            record {
              marks_stay = λ t h. h;
              queue_stays = λ j h. refl;
              count_grows = omega arith;
              dangling_stays = λ e. absurd (true_false e);
            };
        fine = λ a r' q. absurd (true_false a);
      }

  -- a reference that is reached is met
  met-met : (x : Search) (r : ℕ) → Holds w s m n x → Reached w m r → Met w s m n x (met s x r) (λ r'. r' ≡ r)
  unfolding met met_thing
  met-met x r H R =
      pick-both (λ y. Met w s m n x y (λ r'. r' ≡ r)) x.dangling (λ d. record { holds = H; grows = grows_refl x; fine = λ a. absurd (true_false (sym d ∙ a)) })
      (λ _.
      pick-both (λ y. Met w s m n x y (λ r'. r' ≡ r)) (ref_taken s r)
      (λ k.
      pick-both (λ y. Met w s m n x y (λ r'. r' ≡ r)) (eqb (get_or x.marks (thing_of r) 0) 0) (λ e. discovered-met x r H R k (eqb-true _ _ e))
      (λ e. record { holds = H; grows = grows_refl x; fine = λ a r' q. rw q (record { taken = k; marked = eqb-false _ _ e }) }))
      (λ k. dangles-met x r H R k))

  -- one after the other
  then : {x y z : Search} {P Q : ℕ → Type 0} → Met w s m n x y P → Met w s m n y z Q → Met w s m n x z (λ r. P r ⊎ Q r)
  then {x} {y} {z} {P} {Q} p q =
      record { holds = q.holds; grows = grows_trans p.grows q.grows; fine = fine' }
    where
      fine' : z.dangling ≡ false → (r : ℕ) → P r ⊎ Q r → Fine s z r
      fine' a r (inl h) = fine_grows q.grows (p.fine (q.grows.dangling_stays a) r h)
      fine' a r (inr h) = q.fine a r h

  -- fewer references
  only : {x y : Search} {P Q : ℕ → Type 0} → Met w s m n x y P → ((r : ℕ) → Q r → P r) → Met w s m n x y Q
  only p f = record { holds = p.holds; grows = p.grows; fine = λ a r h. p.fine a r (f r h) }

  -- the first k entries of a reached level are met
  entries-met :
      (x : Search) (g k : ℕ) → Holds w s m n x → Reached w m (level_ref g) → k ≤ base w
      → Met w s m n x (met_entries w s m.levels g x k) (λ r. (e : ℕ) × (e < k) × (r ≡ entry_at w m.levels g e))
  unfolding met_entries
  entries-met x g zero H R h = record { holds = H; grows = grows_refl x; fine = λ a r p. absurd (let l = p.1 in omega arith) }
  entries-met x g (suc k) H R h =
      let p = entries-met x g k H R (omega arith) in
      let q = met-met (met_entries w s m.levels g x k) (entry_at w m.levels g k) p.holds (by_entry g k (omega arith) refl R) in
      only (then p q) split
    where
      split : (r : ℕ) → (e : ℕ) × (e < suc k) × (r ≡ entry_at w m.levels g e) → ((e : ℕ) × (e < k) × (r ≡ entry_at w m.levels g e)) ⊎ (r ≡ entry_at w m.levels g k)
      split r (e, l, q) = by (ℕ_discrete e k)
        where
          by : Dec (e ≡ k) → ((e : ℕ) × (e < k) × (r ≡ entry_at w m.levels g e)) ⊎ (r ≡ entry_at w m.levels g k)
          by (yes z) = inr (q ∙ ap (λ (i : ℕ). entry_at w m.levels g i) z)
          by (no d) = inl (e, omega arith, q)

  -- the previous word of a reached level is met
  previous_met :
      (x : Search) (g : ℕ) → Holds w s m n x → Reached w m (level_ref g)
      → Met w s m n x (met_previous s x (previous_at w m.levels g)) (λ r. (previous_at w m.levels g ≢ none) × (r ≡ level_ref (previous_at w m.levels g)))
  unfolding met_previous
  previous_met x g H R =
      pick-both (λ y. Met w s m n x y (λ r. (p ≢ none) × (r ≡ level_ref p))) (eqb p none)
      (λ e. record { holds = H; grows = grows_refl x; fine = λ a r q. absurd (q.0 (eqb-true _ _ e)) })
      (λ e. rw (met-level s x p) (only (met-met x (level_ref p) H (by_previous g (eqb-false _ _ e) refl R)) (λ r q. q.1)))
    where
      p : ℕ
      p = previous_at w m.levels g

  -- what a reached thing refers to is met
  expanded-met :
      (x : Search) (t : ℕ) → Holds w s m n x → Reached w m (ref_of t) → Met w s m n x (expanded w s m x t) (Leads w m (ref_of t))
  unfolding expanded level_expanded
  expanded-met x t H R =
      pick-both (λ y. Met w s m n x y (Leads w m (ref_of t))) (ltb t max_nodes)
      (λ e. let b : t < max_nodes = ltb-true _ _ e in let q = node_ref_lem t b in only (met-met x (next_at m.nodes t) H (by_next t refl (rw q at R))) (of_node q))
      (λ e.
      let b : max_nodes ≤ t = ltb-false _ _ e in
      let q = level_ref_lem t b in
      let p = entries-met x (t - max_nodes) (base w) H (rw q at R) (omega arith) in
      only (then p (previous_met _ (t - max_nodes) p.holds (rw q at R))) (of_level q))
    where
      of_node : ref_of t ≡ node_ref t → (r : ℕ) → Leads w m (ref_of t) r → r ≡ next_at m.nodes t
      of_node q r (to_entry g e a l v) = absurd (let z : node_ref t ≡ level_ref g = sym q ∙ a in omega arith)
      of_node q r (to_next i a v) = let z : node_ref t ≡ node_ref i = sym q ∙ a in let k : i ≡ t = omega arith in v ∙ ap (next_at m.nodes) k
      of_node q r (to_previous g a d v) = absurd (let z : node_ref t ≡ level_ref g = sym q ∙ a in omega arith)

      g₀ : ℕ
      g₀ = t - max_nodes

      of_level :
          ref_of t ≡ level_ref g₀ → (r : ℕ) → Leads w m (ref_of t) r
          → ((e : ℕ) × (e < base w) × (r ≡ entry_at w m.levels g₀ e)) ⊎ ((previous_at w m.levels g₀ ≢ none) × (r ≡ level_ref (previous_at w m.levels g₀)))
      of_level q r (to_entry g e a l v) = let z : level_ref g₀ ≡ level_ref g = sym q ∙ a in let k : g ≡ g₀ = omega arith in inl (e, l, (rw k at v))
      of_level q r (to_next i a v) = absurd (let z : level_ref g₀ ≡ node_ref i = sym q ∙ a in omega arith)
      of_level q r (to_previous g a d v) = let z : level_ref g₀ ≡ level_ref g = sym q ∙ a in let k : g ≡ g₀ = omega arith in inr ((rw k at d), (rw k at v))

-- a search after k rounds: the root was met, and what the first k things of the queue refer to
pub record Done (w : ℕ) (s : Settings) (m : Memory) (n : ℕ) (x : Search) (k : ℕ) : Type 0 where
  pub holds : Holds w s m n x
  pub root_fine : x.dangling ≡ false → Fine s x (level_ref 0)
  pub closed : x.dangling ≡ false → (j : ℕ) → j < k → j < length x.queue → (r : ℕ) → Leads w m (ref_of (get_or x.queue j 0)) r → Fine s x r

goes_below : (x : Search) (k : ℕ) → goes_on x k ≡ true → (k < length x.queue) × (x.dangling ≡ false)
unfolding goes_on
goes_below x k e = (ltb-true _ _ (both_left _ _ e), not-true _ (both_right (ltb k (length x.queue)) _ e))

goes_all : (x : Search) (k : ℕ) → k < length x.queue → x.dangling ≡ false → goes_on x k ≡ true
unfolding goes_on
goes_all x k l a = both_true (lt-ltb _ _ l) (ap not a)

module _ {w : ℕ} {s : Settings} {m : Memory} {n : ℕ} (F : Fits s n) where
  nothing_holds : Holds w s m n (unsearched n)
  unfolding unsearched
  nothing_holds =
      record {
        marks_length = length-replicate n 0;
        counted = ones_none n;
        queued = λ t h. absurd (h (get_d_none n t));
        sound = λ j h. absurd (omega arith);
        why = λ e. absurd (true_false (sym e));
      }
    where
      get_d_none : (n t : ℕ) → ◌≡◌ {A = ℕ} (get_or (replicate n 0) t 0) 0
      get_d_none zero t = refl
      get_d_none (suc n) zero = refl
      get_d_none (suc n) (suc t) = get_d_none n t

  round_done : (x : Search) (k : ℕ) → Done w s m n x k → Done w s m n (round w s m x k) (suc k)
  unfolding round
  round_done x k D =
      pick-both (λ y. Done w s m n y (suc k)) (goes_on x k) (λ e. on e) (λ e. off e)
    where
      t : ℕ
      t = get_or x.queue k 0

      y : Search
      y = expanded w s m x t

      on : goes_on x k ≡ true → Done w s m n y (suc k)
      on e =
          record {
            holds = M.holds;
            root_fine = λ a. fine_grows M.grows (D.root_fine (M.grows.dangling_stays a));
            closed = λ a j h l r q. by a j h r q (ℕ_discrete j k);
          }
        where
          b : k < length x.queue
          b = (goes_below x k e).0

          M : Met w s m n x y (Leads w m (ref_of t))
          M = expanded-met F x t D.holds (D.holds.sound k b)

          by : y.dangling ≡ false → (j : ℕ) → j < suc k → (r : ℕ) → Leads w m (ref_of (get_or y.queue j 0)) r → Dec (j ≡ k) → Fine s y r
          by a j h r q (yes z) =
              let p : get_or y.queue j 0 ≡ t = ap (λ (i : ℕ). get_or y.queue i 0) z ∙ M.grows.queue_stays k b in
              M.fine a r (rw p at q)
          by a j h r q (no d) =
              let l : j < length x.queue = omega (arith, b) in
              let p : get_or y.queue j 0 ≡ get_or x.queue j 0 = M.grows.queue_stays j l in
              fine_grows M.grows (D.closed (M.grows.dangling_stays a) j (omega arith) l r (rw p at q))

      off : goes_on x k ≡ false → Done w s m n x (suc k)
      off e = record { holds = D.holds; root_fine = D.root_fine; closed = λ a j h l r q. by a j h l r q (ℕ_discrete j k) }
        where
          by : x.dangling ≡ false → (j : ℕ) → j < suc k → j < length x.queue → (r : ℕ) → Leads w m (ref_of (get_or x.queue j 0)) r → Dec (j ≡ k) → Fine s x r
          by a j h l r q (yes z) = absurd (true_false (sym (goes_all x k (rw z at l) a) ∙ e))
          by a j h l r q (no d) = D.closed a j (omega arith) l r q

  -- what holds after any number of rounds
  pub rounds_done : (k : ℕ) → Done w s m n (rounds w s m n k) k
  unfolding rounds
  rounds_done zero =
      let M = met-met F (unsearched n) (level_ref 0) nothing_holds (root refl) in
      record { holds = M.holds; root_fine = λ a. M.fine a (level_ref 0) refl; closed = λ a j h. absurd (omega arith) }
  rounds_done (suc k) = round_done (rounds w s m n k) k (rounds_done k)

  -- a search that does not go on has discovered everything that is reached
  reached_fine : (x : Search) (k : ℕ) → Done w s m n x k → length x.queue ≤ k → x.dangling ≡ false → {r : ℕ} → Reached w m r → Fine s x r
  reached_fine x k D c a R = go R
    where
      from : {r r' : ℕ} → Fine s x r → Leads w m r r' → Fine s x r'
      from {r} {r'} f l =
          let (j, b, q) = D.holds.queued (thing_of r) f.marked in
          let p : ref_of (get_or x.queue j 0) ≡ r = ap ref_of q ∙ thing_ref F r f.taken in
          D.closed a j (omega arith) b r' (rw p l)

      go : {r : ℕ} → Reached w m r → Fine s x r
      go (root e) = rw e (D.root_fine a)
      go (by_entry g e l q k') = from (go k') (to_entry g e refl l q)
      go (by_next i q k') = from (go k') (to_next i refl q)
      go (by_previous g d q k') = from (go k') (to_previous g refl d q)

  -- the answer of a search that does not go on
  pub tells_reached : (x : Search) (k : ℕ) → Done w s m n x k → goes_on x k ≡ false → Marked w s m (x.dangling) x.marks
  tells_reached x k D e =
      record {
        only_then = D.holds.why;
        all-taken = λ a r R. (reached_fine x k D (over a) a R).taken;
        marked_reached =
            λ i h o.
            let (j, b, q) = D.holds.queued i o in
            let p : ref_of (get_or x.queue j 0) ≡ node_ref i = ap ref_of q ∙ node_ref_lem i h in
            rw p at (D.holds.sound j b);
        reached_marked = λ a i R. rw (node_thing i) at (reached_fine x k D (over a) a R).marked;
      }
    where
      over : x.dangling ≡ false → length x.queue ≤ k
      over a = by (ltb k (length x.queue)) refl
        where
          by : (b : Bool) → ltb k (length x.queue) ≡ b → length x.queue ≤ k
          by true z = absurd (true_false (sym (goes_all x k (ltb-true _ _ z) a) ∙ e))
          by false z = ltb-false _ _ z

-- what the marks tell where the search met no reference to nothing taken
module _ {w : ℕ} {s : Settings} {m : Memory} {a : Bool} {marks : List ℕ} (X : Marked w s m a marks) where
  pub not_dangling : a ≡ false → ¬ (Dangling w s m)
  not_dangling e y = true_false (sym (X.all-taken e y.reference y.reached) ∙ y.names_nothing)

  -- a reached node is one of the taken ones
  pub reached_below : a ≡ false → (i : ℕ) → Reached w m (node_ref i) → i < s.nodes_taken
  reached_below e i R = node_taken_lem s i (X.all-taken e (node_ref i) R)
