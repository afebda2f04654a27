-- How far a list of turns comes, and what its entries find, skip and count.
-- Relies on that questions 1 to 3 stay answered yes over a turn, and on the laws of an entry by its turn's number.
use Prim.Native.Nat.{ℕ, zero, suc, ◌+◌, ◌≤◌, ◌<◌}
use mathlib.Core.Path.{◌≡◌, refl, sym, ap, subst, ◌∙◌}
use mathlib.Core.Logic.{◌≢◌, ◌⊎◌, inl, inr}
use mathlib.Core.Bool.{true, false, not}
use mathlib.Core.List.{List, [], ◌∷◌, ◌++◌, append_assoc}
use native.Mathlib.Omega.{arith}
use lib.Dec.{ltb}
use Rattle.words.specs.Choice.{pick, both, every}
use Rattle.words.proofs.Choice.{pick_true, pick_false, both_left, both_right, both_false_left}
use Rattle.settings.specs.declared.Settings.{Settings}
use Rattle.areas.specs.Memory.{Areas}
use Rattle.rules.specs.Asked.{question4, question4_all}
use Rattle.rules.specs.Lists.{State, state, after, Visit, visit, turn_at, left_after, visits, end_state, met_six, counts, turns_done, list_number, turns_result, list_questions}
use Rattle.rules.specs.Refusals.{AllYes}
use Rattle.rules.specs.ListEnds.{workers_at, AtEach, ListsEnd}
use Rattle.rules.proofs.Questions.{all_yes}
use Rattle.rules.proofs.OneTurn.{eight-leaves}
use Rattle.rules.proofs.Visits.{six_uncounted, not_empty}
use Rattle.rules.proofs.ManyTurns.{list_carried}
use Rattle.rules.proofs.Three.{Three, three_stays, below_workers}
use Rattle.rules.proofs.Entries.{Outcome, outcome, done_open, eight_uncounted, open_counted, no_six, is_six, left-six, left-eight, left_other, visits-six, visits-eight, visits_other}

-- questions 1 to 4 of the list l at the state x
record Yes (w workers : ℕ) (l : List ℕ) (x : State) : Type 0 where
  pub three : Three w workers x
  pub four : every (λ i. ltb i workers) l ≡ true

-- behind its first entry, whether that is skipped or done
skip : {w workers i : ℕ} {l : List ℕ} {x : State} → Yes w workers (i ∷ l) x → Yes w workers l x
unfolding every
skip y = record { three = y.three; four = both_right _ _ y.four }

step : {w workers i : ℕ} {l : List ℕ} {x : State} → Yes w workers (i ∷ l) x → Yes w workers l (after (turn_at w (visit i x)))
step {w} {workers} {i} {l} {x} y = record { three = three_stays w x i y.three; four = (skip y).four }

-- the first entry
first_outcome : {w workers i : ℕ} {l : List ℕ} {x : State} → Yes w workers (i ∷ l) x → Outcome w x i
unfolding every
first_outcome {w} {workers} {i} {l} {x} y =
    let q = y.three in
    outcome w x i q.one q.two q.three (below_workers i q (both_left _ _ y.four))

-- the turns done before the entries behind the first one
one_less : (w : ℕ) (x : State) (i n : ℕ) {k : ℕ} → Outcome w x i → k < left_after (turn_at w (visit i x)).reply.number n → pick (counts w (visit i x)) 1 0 + k < suc n
one_less w x i n {k} o h = by o
  where
    other : ((turn_at w (visit i x)).reply.number ≡ 0) ⊎ ((turn_at w (visit i x)).reply.number ≡ 9) → (turn_at w (visit i x)).reply.number ≢ 6 → (turn_at w (visit i x)).reply.number ≢ 8 → pick (counts w (visit i x)) 1 0 + k < suc n
    other d p q =
        let c : ◌≡◌ {A = ℕ} (pick (counts w (visit i x)) 1 0) 1 = pick_true _ _ _ (open_counted w x i (done_open w x i d) p) in
        let l : k < n = rw (left_other _ n p q) at h in
        omega arith

    by : Outcome w x i → pick (counts w (visit i x)) 1 0 + k < suc n
    by (inl e) = other (inl e) (λ z. omega arith) (λ z. omega arith)
    by (inr (inl e)) = other (inr e) (λ z. omega arith) (λ z. omega arith)
    by (inr (inr (inl e))) =
        let c : ◌≡◌ {A = ℕ} (pick (counts w (visit i x)) 1 0) 0 = pick_false _ _ _ (eight_uncounted w x i e) in
        let l : k < suc n = rw (left-eight _ n e) at h in
        omega arith
    by (inr (inr (inr e))) = let l : k < 0 = rw (left-six _ n e) at h in absurd (omega arith)

-- an entry that is reached finds what those before it left, and its questions 1 to 4 are answered yes
entry_at : (w : ℕ) (l : List ℕ) (n : ℕ) (x : State) {workers : ℕ} → Yes w workers l x → AtEach w l n x (λ before v. (v.before ≡ end_state w x before) × Outcome w v.before v.worker)
unfolding visits end_state
entry_at w [] n x y before v more e = absurd (not_empty before v more e)
entry_at w (i ∷ l) zero x y before v more e = absurd (not_empty before v more e)
entry_at w (i ∷ l) (suc n) x y [] v more e =
    let p : visit i x ≡ v = cc in
    (ap (λ u. u.before) (sym p), subst (λ (u : Visit). Outcome w u.before u.worker) p (first_outcome y))
entry_at w (i ∷ l) (suc n) x y (u ∷ before) v more e =
    let p : visit i x ≡ u = cc in
    let q : visits w l (left_after (turn_at w (visit i x)).reply.number n) (after (turn_at w (visit i x))) ≡ before ++ v ∷ more = cc in
    let (f, o) = entry_at w l _ _ (step y) before v more q in
    (f ∙ ap (λ (t : Visit). end_state w (after (turn_at w t)) before) p, o)

-- the state after entries is what the last of them left
end-last : (w : ℕ) (x : State) (before : List Visit) (v : Visit) → end_state w x (before ++ v ∷ []) ≡ after (turn_at w v)
unfolding end_state
end-last w x [] v = refl
end-last w x (u ∷ before) v = end-last w (after (turn_at w u)) before v

-- so an entry finds what the one before it left
finds_next : (w : ℕ) (l : List ℕ) (n : ℕ) (x : State) {workers : ℕ} → Yes w workers l x → (before : List Visit) (v u : Visit) (more : List Visit) → visits w l n x ≡ before ++ v ∷ u ∷ more → u.before ≡ after (turn_at w v)
finds_next w l n x y before v u more e =
    (entry_at w l n x y (before ++ v ∷ []) u more (e ∙ sym (append_assoc before (v ∷ []) (u ∷ more)))).0 ∙ end-last w x before v

-- and fewer turns are done before it than the limit
below_at : (w : ℕ) (l : List ℕ) (n : ℕ) (x : State) {workers : ℕ} → Yes w workers l x → AtEach w l n x (λ before v. turns_done w before < n)
unfolding visits turns_done
below_at w [] n x y before v more e = absurd (not_empty before v more e)
below_at w (i ∷ l) zero x y before v more e = absurd (not_empty before v more e)
below_at w (i ∷ l) (suc n) x y [] v more e = omega arith
below_at w (i ∷ l) (suc n) x y (u ∷ before) v more e =
    let p : visit i x ≡ u = cc in
    let q : visits w l (left_after (turn_at w (visit i x)).reply.number n) (after (turn_at w (visit i x))) ≡ before ++ v ∷ more = cc in
    subst (λ (t : Visit). pick (counts w t) 1 0 + turns_done w before < suc n) p (one_less w x i n (first_outcome y) (below_at w l _ _ (step y) before v more q))

-- how far the entries reached come
record Comes (w : ℕ) (l : List ℕ) (n : ℕ) (vs : List Visit) : Type 0 where
  pub rest : List ℕ
  pub beginning : l ≡ workers_at vs ++ rest
  pub within : turns_done w vs ≤ n
  pub ends : (rest ≡ []) ⊎ ((turns_done w vs ≡ n) ⊎ (list_number w vs ≡ 6))

comes_none : (w n : ℕ) (x : State) → Comes w [] n (visits w [] n x)
unfolding visits workers_at turns_done
comes_none w n x = record { rest = []; beginning = refl; within = omega arith; ends = inl refl }

comes_limit : (w i : ℕ) (l : List ℕ) (x : State) → Comes w (i ∷ l) 0 (visits w (i ∷ l) 0 x)
unfolding visits workers_at turns_done
comes_limit w i l x = record { rest = i ∷ l; beginning = refl; within = omega arith; ends = inr (inl refl) }

module _ (w i : ℕ) (l : List ℕ) (x : State) where
  -- the entry met 6
  comes_six : {n : ℕ} → (turn_at w (visit i x)).reply.number ≡ 6 → Comes w (i ∷ l) n (visit i x ∷ [])
  unfolding workers_at turns_done list_number every
  comes_six {n} e =
      let six = is_six w x i e in
      let z : ◌≡◌ {A = ℕ} (pick (counts w (visit i x)) 1 0) 0 = pick_false _ _ _ (six_uncounted w (visit i x) six) in
      record { rest = l; beginning = refl; within = omega arith; ends = inr (inr (pick_false _ _ _ (both_false_left _ (ap not six)))) }

  -- one entry more in front, which met no 6 and counts c
  comes_more : (k n c : ℕ) {vs : List Visit} → n ≡ c + k → met_six w (visit i x) ≡ false → ◌≡◌ {A = ℕ} (pick (counts w (visit i x)) 1 0) c → Comes w l k vs → Comes w (i ∷ l) n (visit i x ∷ vs)
  unfolding workers_at turns_done list_number every both
  comes_more k n c {vs} p z e m =
      record {
        rest = m.rest;
        beginning = ap (λ us. i ∷ us) m.beginning;
        within = let h = m.within in omega arith;
        ends = by m.ends;
      }
    where
      by : (m.rest ≡ []) ⊎ ((turns_done w vs ≡ k) ⊎ (list_number w vs ≡ 6)) → (m.rest ≡ []) ⊎ ((pick (counts w (visit i x)) 1 0 + turns_done w vs ≡ n) ⊎ (list_number w (visit i x ∷ vs) ≡ 6))
      by (inl r) = inl r
      by (inr (inl d)) = inr (inl (omega arith))
      by (inr (inr s)) = inr (inr (ap (λ b. pick (both (not b) (every (λ y. not (met_six w y)) vs)) 0 6) z ∙ s))

  -- by the number of its turn: behind a skipped entry the list goes on as it was, behind one that is done with one turn less
  comes_step : (n : ℕ) → Outcome w x i → Comes w l (suc n) (visits w l (suc n) x) → Comes w l n (visits w l n (after (turn_at w (visit i x)))) → Comes w (i ∷ l) (suc n) (visits w (i ∷ l) (suc n) x)
  comes_step n o same less = by o
    where
      more : ((turn_at w (visit i x)).reply.number ≡ 0) ⊎ ((turn_at w (visit i x)).reply.number ≡ 9) → (turn_at w (visit i x)).reply.number ≢ 6 → (turn_at w (visit i x)).reply.number ≢ 8 → Comes w (i ∷ l) (suc n) (visits w (i ∷ l) (suc n) x)
      more d h g =
          rw (visits_other w i n l x h g)
          (comes_more n (suc n) 1 (omega arith) (no_six w x i h) (pick_true _ _ _ (open_counted w x i (done_open w x i d) h)) less)

      by : Outcome w x i → Comes w (i ∷ l) (suc n) (visits w (i ∷ l) (suc n) x)
      by (inl e) = more (inl e) (λ z. omega arith) (λ z. omega arith)
      by (inr (inl e)) = more (inr e) (λ z. omega arith) (λ z. omega arith)
      by (inr (inr (inl e))) =
          rw (visits-eight w i n l x e)
          (comes_more (suc n) (suc n) 0 (omega arith) (no_six w x i (λ z. omega arith)) (pick_false _ _ _ (eight_uncounted w x i e)) same)
      by (inr (inr (inr e))) = rw (visits-six w i n l x e) (comes_six e)

comes : (w : ℕ) (l : List ℕ) (n : ℕ) (x : State) {workers : ℕ} → Yes w workers l x → Comes w l n (visits w l n x)
comes w [] n x y = comes_none w n x
comes w (i ∷ l) zero x y = comes_limit w i l x
comes w (i ∷ l) (suc n) x y =
    comes_step w i l x n (first_outcome y) (comes w l (suc n) x (skip y)) (comes w l n _ (step y))

-- an entry whose turn is done, also one that ends "full"
counted : (w : ℕ) (v : Visit) → ((turn_at w v).reply.number ≡ 0) ⊎ ((turn_at w v).reply.number ≡ 9) → counts w v ≡ true
counted w v (inl e) = open_counted w v.before v.worker (done_open w v.before v.worker (inl e)) (λ z. omega arith)
counted w v (inr e) = open_counted w v.before v.worker (done_open w v.before v.worker (inr e)) (λ z. omega arith)

-- a list whose questions are answered yes
all-four : (w : ℕ) (s : Settings) (l : List ℕ) (a : Areas) → AllYes (list_questions w s l a) → Yes w s.workers l (state s a)
unfolding list_questions every question4_all question4
all-four w s l a y =
    let y₂ = both_right _ _ y in
    let y₃ = both_right _ _ y₂ in
    record { three = record { workers_is = refl; one = both_left _ _ y; two = both_left _ _ y₂; three = both_left _ _ y₃ }; four = both_left _ _ (both_right _ _ y₃) }

pub lists_end : (w : ℕ) → ListsEnd w
unfolding turns_result end_state
lists_end w s l limit a y =
    let four = all-four w s l a y in
    let m = comes w l limit (state s a) four in
    let c = list_carried w s l limit a (all_yes _ y) in
    record {
      rest = m.rest;
      beginning = m.beginning;
      first = λ v more e. (entry_at w l limit (state s a) four [] v more e).0;
      next = λ before v u more e. finds_next w l limit (state s a) four before v u more e;
      within = rw c m.within;
      ends = rw c m.ends;
      counted = ap (λ r. r.reply.turns) c;
      left = λ before v e. ap after c ∙ ap (end_state w (state s a)) e ∙ end-last w (state s a) before v;
      none_left = λ e. ap after c ∙ ap (end_state w (state s a)) e;
      below = below_at w l limit (state s a) four;
      numbers = λ before v more e. (entry_at w l limit (state s a) four before v more e).1;
      skipped = λ before v more e z. (eight-leaves w v.before.settings v.worker v.before.areas z, eight_uncounted w v.before v.worker z);
      done = λ before v more e. counted w v;
    }
