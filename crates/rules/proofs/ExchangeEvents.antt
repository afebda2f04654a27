-- Who is doomed after an event: a failed exchange frees its worker, and only a done one dooms others.
-- Relies on the exchange of a turn, on the theory's account of it, and on what a start and a turn leave.
use Prim.Native.Nat.{ℕ, suc, ◌+◌, ◌≤◌, ◌<◌}
use mathlib.Core.Path.{◌≡◌, refl, sym, ap, subst, ◌∙◌}
use mathlib.Core.Bool.{Bool, true, false}
use mathlib.Core.List.{List}
use mathlib.Core.Logic.{◌≢◌, inl, inr}
use native.Mathlib.Decide.{ℕ_discrete, dec_lt}
use native.Mathlib.Omega.{arith}
use borrow.Author.Tests.{eq-eqb, ne_eqb, eqb-false, le-leb}
use lib.Dec.{eqb}
use Rattle.words.specs.Choice.{pick}
use Rattle.words.proofs.Choice.{pick_true, pick_false}
use Rattle.settings.specs.Sizes.{views}
use Rattle.settings.specs.declared.Settings.{Settings}
use Rattle.areas.specs.Memory.{Memory}
use Rattle.record.specs.declared.Kind.{Kind}
use Rattle.record.specs.declared.Head.{Head}
use Rattle.record.specs.declared.Move.{Move}
use Rattle.record.specs.Kinds.{kind_no}
use Rattle.record.specs.Layout.{Record}
use Rattle.record.specs.Fits.{role_fits}
use Rattle.record.specs.declared.Answer.{Answer}
use Rattle.record.specs.declared.Exchange.{Exchange}
use Rattle.record.specs.declared.Exchange.TheVariants.{None}
use Rattle.rules.specs.Steps.{Step}
use Rattle.rules.specs.Operations.{Result, record_of, memory_of, start, turn}
use Rattle.rules.specs.Lists.{State, after}
use Rattle.rules.specs.Calls.{Event, starts, turns, happens}
use Rattle.rules.specs.Asked.{question7}
use Rattle.rules.specs.Exchanges.{commits, exchange_by, exchange_of, exchange_at, failed_in, done_in}
use Rattle.rules.specs.ExchangeBound.{placing}
use Rattle.trie.proofs.Update.{upd, upd_same, upd_other}
use Rattle.trie.proofs.Evolve.{Grows, grows_refl}
use Rattle.trie.proofs.Digits.{Dims}
use Rattle.trie.proofs.World.{World, Structure}
use Rattle.trie.proofs.Place.{place_grows}
use Rattle.trie.proofs.Sum.{sum, sum_mono, sum_less, sum_spare, sum_zero}
use Rattle.trie.proofs.Dooms.{dooms, fails, succeeds, dooms-none}
use Rattle.trie.proofs.Advance.{numbers}
use Rattle.trie.proofs.Opening.{fresh}
use Rattle.trie.proofs.Whole.{Worker}
use Rattle.rules.proofs.Invariant.{WorldOf, Rowing, goes, ends_new_lem, ends_found, ends_absent, TurnOk, Role, Fine, at}
use Rattle.rules.proofs.FineQuestions.{worker_of_lem}
use Rattle.rules.proofs.Questions.{first-later, last_no}
use Rattle.rules.proofs.OneTurn.{done_number, nine_is_full, turn-leaves}
use Rattle.rules.proofs.Carried.{start_done}
use Rattle.rules.proofs.Refused.{refuses-start}
use Rattle.rules.proofs.Asking.{turn_ok}
use Rattle.rules.proofs.Ending.{none_left, stopped, fine_full}
use Rattle.rules.proofs.Starting.{start_yes, starter, fine_started}
use Rattle.rules.proofs.TurnEvent.{turn_open}
use Rattle.rules.proofs.AloneTurn.{fine_taken}
use Rattle.rules.proofs.Roles.{Viewing, at_look, at_read, at_tail, at_follow, viewing_kind, of_viewer_lem}
use Rattle.rules.proofs.ExchangeCounts.{counts}

-- the worker of an event
abbrev worker_of : Event → ℕ
worker_of (starts looks i row column) = i
worker_of (turns i) = i

-- how many workers are doomed
pub doomed_among : {δ : Dims} → ℕ → World δ → (ℕ → Worker) → ℕ
doomed_among n W ws = sum n (λ j. dooms W (ws j).key (ws j).act)

-- every turn's world has grown
grows_of : {δ : Dims} {W W' : World δ} {c c' : Worker} {v : Answer} → Structure W → Rowing W W' c c' v → Grows W W'
grows_of S (goes E b z p q) = E
grows_of S (ends_new_lem k q e z) = rw e (place_grows S k)
grows_of {W = W} S (ends_found p q e z) = rw e (grows_refl W)
grows_of {W = W} S (ends_absent p e z) = rw e (grows_refl W)

-- the worker's key matters only while its call is open
same_doom : {δ : Dims} {W W' : World δ} {c c' : Worker} {v : Answer} → Rowing W W' c c' v → dooms W' c'.key c'.act ≡ dooms W' c.key c'.act
same_doom (goes E b z p q) = rw q refl
same_doom (ends_new_lem k q e z) = rw z refl
same_doom (ends_found p q e z) = rw z refl
same_doom (ends_absent p e z) = rw z refl

-- over the first p workers: nobody else is greater, and worker i is less by k, which is 0 where i is none of them
among_less : (p : ℕ) (f g : ℕ → ℕ) (i k : ℕ) → ((j : ℕ) → j ≢ i → g j ≤ f j) → k + g i ≤ f i → (p ≤ i → k ≡ 0) → k + sum p g ≤ sum p f
among_less p f g i k h e z = by (dec_lt i p)
  where
    each : (j : ℕ) → Dec (j ≡ i) → g j ≤ f j
    each j (yes q) = rw q (omega (arith, e))
    each j (no q) = h j q

    by : Dec (i < p) → k + sum p g ≤ sum p f
    by (yes l) = sum_less p f g i k l h e
    by (no l) = let n = z (omega arith) in let m = sum_mono p f g (λ j. each j (ℕ_discrete j i)) in omega arith

-- a viewer's turn makes no exchange
viewer_none : (w : ℕ) (h : Head) (ms : List Move) (m : Memory) {k : Kind} → Viewing k → exchange_by w h m (commits k w h ms m) ≡ None
unfolding commits exchange_by
viewer_none w h ms m at_look = refl
viewer_none w h ms m at_read = refl
viewer_none w h ms m at_tail = refl
viewer_none w h ms m at_follow = refl

-- an event of worker i with exchange e: where none is done, a failed one frees its worker and nobody is doomed newly; where one is done, at least its own worker is not doomed
pub record Counted (w : ℕ) (s₀ : Settings) (i : ℕ) (W : WorldOf w s₀) (ws : ℕ → Worker) (y : State) (e : Exchange) : Type 0 where
  pub world : WorldOf w s₀
  pub workers : ℕ → Worker
  pub fine : Fine w s₀ y world workers
  pub own : failed_in e + dooms world (workers i).key (workers i).act ≤ dooms W (ws i).key (ws i).act
  pub where_none : done_in e ≡ 0 → failed_in e + doomed_among (placing s₀) world workers ≤ doomed_among (placing s₀) W ws
  pub where_one : done_in e ≢ 0 → (done_in e ≡ 1) × (failed_in e ≡ 0) × (suc (doomed_among (placing s₀) world workers) ≤ placing s₀)

module _ {w : ℕ} {s₀ : Settings} where
  -- nothing happens
  stays : {x y : State} (i : ℕ) {W : WorldOf w s₀} {ws : ℕ → Worker} → Fine w s₀ x W ws → y ≡ x → Counted w s₀ i W ws y None
  unfolding failed_in done_in
  stays i {W = W} {ws} F e = record { world = W; workers = ws; fine = rw e F; own = omega arith; where_none = λ z. omega arith; where_one = λ z. absurd (z refl) }

  module _ {x : State} {W : WorldOf w s₀} {ws : ℕ → Worker} (F : Fine w s₀ x W ws) (i : ℕ) (here : i < s₀.workers) where
    -- the worker is free after it, and nothing is written
    free_counted : {y : State} (c : Worker) → dooms W c.key c.act ≡ 0 → Fine w s₀ y W (upd ws i c) → Counted w s₀ i W ws y None
    unfolding failed_in done_in doomed_among
    free_counted c z G =
        record {
          world = W;
          workers = upd ws i c;
          fine = G;
          own = rw (upd_same ws i c, z) (omega arith);
          where_none = λ u. among_less (placing s₀) (λ j. dooms W (ws j).key (ws j).act) (λ j. dooms W (upd ws i c j).key (upd ws i c j).act) i 0 (λ j d. rw (upd_other ws i c j d) (omega arith)) (rw (upd_same ws i c, z) (omega arith)) (λ l. refl);
          where_one = λ u. absurd (u refl);
        }

    -- a turn that is taken; a viewer's exchanges nothing
    taken-counted : {t : Step} (T : TurnOk w s₀ W ws i t) {y : State} {e : Exchange} → Fine w s₀ y T.world (upd ws i T.worker) → failed_in e ≡ fails W (ws i).key (ws i).act → done_in e ≡ succeeds W (ws i).key (ws i).act → (placing s₀ ≤ i → e ≡ None) → Counted w s₀ i W ws y e
    unfolding doomed_among failed_in done_in
    taken-counted T {y} {e} G failed_is done_is views-none =
        record {
          world = T.world;
          workers = upd ws i T.worker;
          fine = G;
          own = rw failed_is mine;
          where_none = λ z. among_less (placing s₀) (λ j. dooms W (ws j).key (ws j).act) after_it i (failed_in e) (λ j d. others j d (sym done_is ∙ z)) (rw failed_is mine) (λ l. ap failed_in (views-none l));
          where_one = λ z.
              let n : succeeds W (ws i).key (ws i).act ≢ 0 = λ u. z (done_is ∙ u) in
              let k = numbers W (ws i).key (ws i).act in
              let q = k.not-doomed n in
              let f : succeeds W (ws i).key (ws i).act ≡ 1 = omega (arith, k.succeeds-le) in
              let own = T.dooming.own in
              let d = same_doom T.rowing in
              let u : after_it i ≡ 0 = rw (upd_same ws i T.worker) (omega arith) in
              (done_is ∙ f, omega (arith, failed_is), sum_spare (placing s₀) after_it i (places (dec_lt i (placing s₀)) z) (λ j l. (numbers T.world (upd ws i T.worker j).key (upd ws i T.worker j).act).dooms-le) u);
        }
      where
        S : Structure W
        S = F.inv.structure

        places : Dec (i < placing s₀) → done_in e ≢ 0 → i < placing s₀
        places (yes l) z = l
        places (no l) z = absurd (z (ap done_in (views-none (omega arith))))

        after_it : ℕ → ℕ
        after_it j = dooms T.world (upd ws i T.worker j).key (upd ws i T.worker j).act

        mine : fails W (ws i).key (ws i).act + after_it i ≤ dooms W (ws i).key (ws i).act
        mine = let own = T.dooming.own in let d = same_doom T.rowing in rw (upd_same ws i T.worker) (omega arith)

        others : (j : ℕ) → j ≢ i → succeeds W (ws i).key (ws i).act ≡ 0 → after_it j ≤ dooms W (ws j).key (ws j).act
        others j d z = rw (upd_other ws i T.worker j d) (dooms-none S (grows_of S T.rowing) (T.dooming.others z) (F.inv.each j).acts)

module _ {w : ℕ} {s₀ : Settings} {x : State} {W : WorldOf w s₀} {ws : ℕ → Worker} (F : Fine w s₀ x W ws) where
  -- a worker beyond those that place is a viewer
  views-none : (i : ℕ) → i < s₀.workers → question7 (record_of x.areas i) ≡ false → placing s₀ ≤ i → exchange_of w (record_of x.areas i) (memory_of x.areas) ≡ None
  unfolding placing views question7
  views-none i h b l =
      let r : Record = record_of x.areas i in
      let v : role_fits true (kind_no r.head.kind) ≡ true = (subst (λ (v : Bool). Role v r.head) (le-leb _ _ l) (F.roles i h)).call (eqb-false _ _ b) in
      viewer_none w r.head r.moves (memory_of x.areas) (viewing_kind r.head.kind (of_viewer_lem _ v))

  -- a turn, by its number
  pub turn-counted : (i : ℕ) → Counted w s₀ i W ws (after (turn w x.settings i x.areas)) (exchange_at w (turns i) x)
  unfolding exchange_at
  turn-counted i = by (ℕ_discrete r.reply.number 0) (ℕ_discrete r.reply.number 9)
    where
      r : Result
      r = turn w x.settings i x.areas

      e : Exchange
      e = exchange_of w (record_of x.areas i) (memory_of x.areas)

      by : Dec (r.reply.number ≡ 0) → Dec (r.reply.number ≡ 9) → Counted w s₀ i W ws (after r) (pick (eqb r.reply.number 0) e None)
      by (yes z) d =
          let o = turn_open w x i (inl refl) z in
          let h = worker_of_lem F o.below in
          let T = turn_ok (at F i h) o.busy (first-later 9 _ _ (λ y. omega arith) o.gives).0 in
          rw (pick_true _ e None (eq-eqb _ _ z), done_number w x.settings i x.areas z) (taken-counted F i h T (fine_taken F i h o.busy T) (counts (at F i h)).failed_is (counts (at F i h)).done_is (views-none i h o.busy))
      by (no z) (yes y) =
          let o = turn_open w x i (inr refl) y in
          let h = worker_of_lem F o.below in
          let t = (none_left x.settings (record_of x.areas i) (last_no 9 _ (λ y. omega arith) o.gives)).taking in
          rw (pick_false _ e None (ne_eqb _ _ z), nine_is_full w x.settings i x.areas y) (free_counted F i h (stopped (ws i)) refl (fine_full F i h t))
      by (no z) (no y) = rw (pick_false _ e None (ne_eqb _ _ z)) (stays i F (turn-leaves w x.settings i x.areas z y))

  -- a start
  start-counted : (looks : Bool) (i row column : ℕ) → Counted w s₀ i W ws (after (start w x.settings looks i row column x.areas)) None
  start-counted looks i row column = by (ℕ_discrete r.reply.number 0)
    where
      r : Result
      r = start w x.settings looks i row column x.areas

      by : Dec (r.reply.number ≡ 0) → Counted w s₀ i W ws (after r) None
      by (yes z) =
          let y = start_yes w x looks i row column ((refuses-start w x.settings looks i row column x.areas).numbered.carried.0 z) in
          let h = worker_of_lem F y.below in
          rw (start_done w x.settings looks i row column x.areas z) (free_counted F i h (starter F i row column h y.inside) refl (fine_started F i row column h y.inside))
      by (no z) = stays i F ((refuses-start w x.settings looks i row column x.areas).unchanged z).1

  pub event_counted : (e : Event) → Counted w s₀ (worker_of e) W ws (after (happens w e x)) (exchange_at w e x)
  unfolding happens exchange_at
  event_counted (starts looks i row column) = start-counted looks i row column
  event_counted (turns i) = turn-counted i

-- after an opening nobody is doomed
pub none-doomed : {δ : Dims} (W : World δ) (n : ℕ) → doomed_among n W (λ i. fresh) ≡ 0
unfolding doomed_among
none-doomed W n = sum_zero n (λ j. dooms W fresh.key fresh.act) (λ j. refl)
