-- Failed exchanges are at most placing workers − 1 times the done ones, and a worker that has the turns to itself fails none unless it is doomed.
-- Relies on who is doomed after an event, and on sums over operations.
use Prim.Native.Nat.{ℕ, zero, suc, ◌+◌, ◌*◌, ◌-◌, ◌≤◌, ◌<◌}
use mathlib.Core.Path.{◌≡◌, refl, sym, ap, subst, ◌∙◌}
use mathlib.Core.Logic.{◌≢◌, inl, inr}
use mathlib.Core.Bool.{Bool}
use mathlib.Core.List.{List, [], ◌∷◌}
use native.Mathlib.Nat.{mul-suc}
use native.Mathlib.Decide.{ℕ_discrete, dec_lt}
use native.Mathlib.Omega.{arith}
use Rattle.words.specs.Choice.{pick}
use Rattle.words.proofs.Choice.{pick-both}
use Rattle.settings.specs.declared.Settings.{Settings}
use Rattle.areas.specs.Memory.{Areas}
use Rattle.record.specs.declared.Exchange.{Exchange}
use Rattle.rules.specs.Operations.{opening, start, turn}
use Rattle.rules.specs.Lists.{State, after}
use Rattle.rules.specs.Calls.{Event, turns, happens, state_after}
use Rattle.rules.specs.Alone.{turns_of}
use Rattle.rules.specs.Sequences.{Operation, performs, left_by, since_opening}
use Rattle.rules.specs.Exchanges.{done_in, failed_in, total, doomed, failures, successes}
use Rattle.rules.specs.ExchangeBound.{placing, sum_since, Bounded, BoundStatement}
use Rattle.trie.proofs.Update.{upd, upd_same}
use Rattle.trie.proofs.Dooms.{dooms}
use Rattle.trie.proofs.Advance.{numbers}
use Rattle.trie.proofs.Whole.{Worker}
use Rattle.rules.proofs.Dims.{Width}
use Rattle.rules.proofs.Invariant.{WorldOf, Fine, at}
use Rattle.rules.proofs.Refused.{refuses-opening, refuses-start}
use Rattle.rules.proofs.Carried.{opening_done, start_done}
use Rattle.rules.proofs.Starting.{start_yes, starter, fine_started}
use Rattle.rules.proofs.Opened.{opened, fine_opened}
use Rattle.rules.proofs.Theorem.{opening_yes}
use Rattle.rules.proofs.OneTurn.{turn-leaves}
use Rattle.rules.proofs.TurnEvent.{turn_open}
use Rattle.rules.proofs.FineQuestions.{worker_of_lem}
use Rattle.rules.proofs.Operated.{Comes, ComesAt, comes_width, began_width, here-width, comes_opened, comes_all}
use Rattle.rules.proofs.Exchanges.{none_failed}
use Rattle.rules.proofs.ExchangeCounts.{counts}
use Rattle.rules.proofs.ExchangeEvents.{doomed_among, turn-counted, event_counted, none-doomed}
use Rattle.rules.proofs.ExchangeSums.{sum_opened}

-- the sum of one event and of those after it
sums : (p f d f' d' D D' : ℕ) → f' ≤ (p - 1) * d' + D' → (d ≡ 0 → f + D' ≤ D) → (d ≢ 0 → (d ≡ 1) × (f ≡ 0) × (suc D' ≤ p)) → f + f' ≤ (p - 1) * (d + d') + D
sums p f d f' d' D D' h a b = by (ℕ_discrete d 0)
  where
    by : Dec (d ≡ 0) → f + f' ≤ (p - 1) * (d + d') + D
    by (yes z) = let k = a z in rw z (omega arith)
    by (no z) = let (one, none, l) = b z in let m = mul-suc (p - 1) d' in rw one (omega arith)

-- no placing worker: no exchange is done
none_done : (p d d' : ℕ) {D : ℕ} → p ≡ 0 → (d ≢ 0 → suc D ≤ p) → d' ≡ 0 → d + d' ≡ 0
none_done p d d' e h z = by (ℕ_discrete d 0)
  where
    by : Dec (d ≡ 0) → d + d' ≡ 0
    by (yes y) = omega arith
    by (no y) = let l = h y in absurd (omega arith)

none-fails : (p f d : ℕ) → f ≤ (p - 1) * d + 0 → p ≡ 0 → f ≡ 0
none-fails p f d b e = let c : f ≤ (0 - 1) * d + 0 = rw e at b in omega arith

-- one placing worker
one_fails : (p f d : ℕ) → f ≤ (p - 1) * d + 0 → p ≡ 1 → f ≡ 0
one_fails p f d b e = let c : f ≤ (1 - 1) * d + 0 = rw e at b in omega arith

none_of : {f d : ℕ} → f ≤ d → d ≡ 0 → f ≡ 0
none_of l z = omega arith

-- where starts and turns lead, and the bound on the way; who is doomed now may fail still
record Run (w : ℕ) (s₀ : Settings) (es : List Event) (x : State) (D : ℕ) : Type 0 where
  world : WorldOf w s₀
  workers : ℕ → Worker
  fine : Fine w s₀ (state_after w es x) world workers
  bound : failures w es x ≤ (placing s₀ - 1) * successes w es x + D
  none : placing s₀ ≡ 0 → successes w es x ≡ 0

runs : (w : ℕ) (s₀ : Settings) (es : List Event) (x : State) (W : WorldOf w s₀) (ws : ℕ → Worker) → Fine w s₀ x W ws → Run w s₀ es x (doomed_among (placing s₀) W ws)
unfolding total state_after
runs w s₀ [] x W ws F = record { world = W; workers = ws; fine = F; bound = omega arith; none = λ e. refl }
runs w s₀ (e ∷ es) x W ws F =
    let c = event_counted F e in
    let r = runs w s₀ es (after (happens w e x)) c.world c.workers c.fine in
    record {
      world = r.world;
      workers = r.workers;
      fine = r.fine;
      bound = sums (placing s₀) _ _ _ _ _ _ r.bound c.where_none c.where_one;
      none = λ p. none_done (placing s₀) _ _ p (λ z. (c.where_one z).2) (r.none p);
    }

-- after an opening nobody is doomed
opened_runs : (w : ℕ) → Width w → (s : Settings) (a : Areas) → (opening w s a).reply.number ≡ 0 → (es : List Event) → Run w s es (after (opening w s a)) 0
opened_runs w width s a z es =
    let y = (refuses-opening w s a).numbered.carried.0 z in
    let q = opening_yes w s a y in
    let r = runs w s es _ _ _ (fine_opened width s a q.0 q.1) in
    let n = none-doomed (opened width s a q.0 q.1) (placing s) in
    rw (opening_done w s a z) (record { world = r.world; workers = r.workers; fine = r.fine; bound = let b = r.bound in omega arith; none = r.none })

-- A worker of the table that has the turns to itself fails at most as often as it is doomed.
inside_fails : (w : ℕ) (s₀ : Settings) (i k : ℕ) (x : State) (W : WorldOf w s₀) (ws : ℕ → Worker) → Fine w s₀ x W ws → failures w (turns_of i k) x ≤ dooms W (ws i).key (ws i).act
unfolding total happens
inside_fails w s₀ i zero x W ws F = omega arith
inside_fails w s₀ i (suc k) x W ws F =
    let c = turn-counted F i in
    let o = c.own in
    let n = inside_fails w s₀ i k (after (turn w x.settings i x.areas)) c.world c.workers c.fine in
    omega arith

-- a number that is no worker's: every turn is refused and leaves the state
outside_fails : (w : ℕ) (s₀ : Settings) (i k : ℕ) (x : State) (W : WorldOf w s₀) (ws : ℕ → Worker) → Fine w s₀ x W ws → (i < s₀.workers → ⊥) → failures w (turns_of i k) x ≡ 0
unfolding total happens
outside_fails w s₀ i zero x W ws F n = refl
outside_fails w s₀ i (suc k) x W ws F n =
    let h : (turn w x.settings i x.areas).reply.number ≢ 0 = λ z. n (worker_of_lem F (turn_open w x i (inl refl) z).below) in
    let g : (turn w x.settings i x.areas).reply.number ≢ 9 = λ z. n (worker_of_lem F (turn_open w x i (inr refl) z).below) in
    let e = none_failed w i x h in
    let r : failures w (turns_of i k) (after (happens w (turns i) x)) ≡ failures w (turns_of i k) x = ap (failures w (turns_of i k)) (turn-leaves w x.settings i x.areas h g) in
    let u = outside_fails w s₀ i k x W ws F n in
    omega arith

module _ {w : ℕ} where
  -- whoever is not doomed by the words is not doomed in the theory
  alone-fails : {s₀ : Settings} {x : State} {W : WorldOf w s₀} {ws : ℕ → Worker} → Fine w s₀ x W ws → (i k : ℕ) → failures w (turns_of i k) x ≤ pick (doomed w i x) 1 0
  unfolding doomed
  alone-fails {s₀} {x} {W} {ws} F i k =
      pick-both (λ n. failures w (turns_of i k) x ≤ n) (doomed w i x)
      (λ e. by (dec_lt i s₀.workers) 1 (λ l. (numbers W (ws i).key (ws i).act).dooms-le))
      (λ e. by (dec_lt i s₀.workers) 0 (λ l. let z = (counts (at F i l)).doomed_is e in omega arith))
    where
      by : Dec (i < s₀.workers) → (n : ℕ) → (i < s₀.workers → dooms W (ws i).key (ws i).act ≤ n) → failures w (turns_of i k) x ≤ n
      by (yes l) n d = omega (arith, inside_fails w s₀ i k x W ws F, d l)
      by (no l) n d = omega (arith, outside_fails w s₀ i k x W ws F l)

  -- the number of placing workers stays
  same_placing : {s₀ : Settings} {x : State} {W : WorldOf w s₀} {ws : ℕ → Worker} → Fine w s₀ x W ws → placing x.settings ≡ placing s₀
  unfolding placing
  same_placing F = rw (F.table.same.workers_is, F.table.same.viewers_is) refl

  -- a start leaves its worker free
  started-fails : {s₀ : Settings} {x : State} {W : WorldOf w s₀} {ws : ℕ → Worker} → Fine w s₀ x W ws → (looks : Bool) (i row column k : ℕ) → (start w x.settings looks i row column x.areas).reply.number ≡ 0 → failures w (turns_of i k) (after (start w x.settings looks i row column x.areas)) ≡ 0
  started-fails {s₀} {x} {W} {ws} F looks i row column k z =
      let y = start_yes w x looks i row column ((refuses-start w x.settings looks i row column x.areas).numbered.carried.0 z) in
      let h = worker_of_lem F y.below in
      let c = starter F i row column h y.inside in
      rw (start_done w x.settings looks i row column x.areas z)
      (none_of (inside_fails w s₀ i k _ W (upd ws i c) (fine_started F i row column h y.inside)) (rw (upd_same ws i c) refl))

-- of a state that came of a carried out opening
bounded_at : {x : State} → ComesAt (record { began = x; events = [] }) x → (os : List Operation) → Bounded x os
unfolding performs
bounded_at {x} c₀ os =
    record {
      bound = rw (sum failed_in, sum done_in, same_placing fine) (omega (arith, r.bound));
      none = λ e. let p = sym (same_placing fine) ∙ e in (rw (sum failed_in) (none-fails _ _ _ r.bound p), rw (sum done_in) (r.none p));
      single = λ e. rw (sum failed_in) (one_fails _ _ _ r.bound (sym (same_placing fine) ∙ e));
      alone = λ i k. subst (λ (v : ℕ). failures v (turns_of i k) left ≤ pick (doomed v i left) 1 0) (sym here) (alone-fails fine i k);
      started = λ looks i row column k. subst
          (λ (v : ℕ). (start v left.settings looks i row column left.areas).reply.number ≡ 0 → failures v (turns_of i k) (after (start v left.settings looks i row column left.areas)) ≡ 0) (sym here)
          (started-fails fine looks i row column k);
    }
  where
    left : State
    left = left_by os x

    w : ℕ
    w = (comes_all os c₀).0

    c : Comes w (since_opening os x) left
    c = (comes_all os c₀).1

    width : Width w
    width = comes_width c

    here : left.settings.width ≡ w
    here = here-width c

    es : List Event
    es = (since_opening os x).events

    y : State
    y = after (opening w c.settings c.areas)

    r : Run w c.settings es y 0
    r = opened_runs w width c.settings c.areas c.carried es

    fine : Fine w c.settings left r.world r.workers
    fine = subst (λ (z : State). Fine w c.settings z r.world r.workers) (ap (state_after w es) (sym c.began) ∙ c.ends) r.fine

    sum : (f : Exchange → ℕ) → sum_since f os x 0 ≡ total f w es y
    sum f = sum_opened f os x c₀ ∙ ap (λ (v : ℕ). total f v es (since_opening os x).began) (began_width c) ∙ ap (total f w es) c.began

-- along every sequence of operations from a carried out opening, at every width that question 1 lets pass
pub exchanges_bounded : BoundStatement
exchanges_bounded s a z os = bounded_at (comes_opened s a z) os
