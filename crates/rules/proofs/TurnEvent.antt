-- The event of a turn: what it leaves holds along the sequence; it is not answered 6, and "full" only where every node is taken.
-- Relies on that every kind of turn keeps the invariant, on demand 1 of a turn, and on the row over a turn.
use Rattle.settings.specs.Sizes.{views}
use Prim.Native.Nat.{ℕ, suc, ◌≤◌}
use mathlib.Core.Path.{◌≡◌, refl, sym, ap, ◌∙◌}
use mathlib.Core.Logic.{◌≢◌, ◌⊎◌, inl, inr}
use mathlib.Core.Bool.{true, false}
use mathlib.Core.List.{List, [], ◌∷◌, ◌++◌}
use native.Mathlib.Decide.{ℕ_discrete}
use native.Mathlib.Omega.{arith}
use lib.ListN.{length}
use borrow.Author.Tests.{not-true}
use Rattle.words.specs.Choice.{asks, first_no}
use Rattle.settings.specs.declared.Settings.{Settings}
use Rattle.record.specs.declared.Answer.{Answer}
use Rattle.record.specs.declared.Answer.TheVariants.{Nothing, Full, Open}
use Rattle.rules.specs.Acts.{act}
use Rattle.rules.specs.Asked.{question4, question7, question8, question9}
use Rattle.rules.specs.Operations.{Result, record_of, memory_of, taken, full, turn, turn_questions}
use Rattle.rules.specs.Lists.{State, after}
use Rattle.rules.specs.Calls.{Call, Opened, turns, happens, left_open, opens, ends, ends_with, ending_answer, ending}
use Rattle.rules.specs.Demands.{EventOk}
use Rattle.trie.proofs.Update.{upd}
use Rattle.trie.proofs.Whole.{idle, Worker}
use Rattle.rules.proofs.Questions.{first-later, first_yes, none-given, last_no}
use Rattle.rules.proofs.OneTurn.{turn-number, done_number, nine_is_full, turn-refused, turn-leaves}
use Rattle.rules.proofs.Invariant.{WorldOf, at, TurnOk, Rowing, goes, ends_new_lem, ends_found, ends_absent}
use Rattle.rules.proofs.Idle.{busy_acts}
use Rattle.rules.proofs.Asking.{asks_ok, turn_ok}
use Rattle.rules.proofs.Ending.{none_left, full_unseen, stopped, fine_full}
use Rattle.rules.proofs.Stored.{fine_after}
use Rattle.rules.proofs.Roles.{turn_role}
use Rattle.rules.proofs.RowTurns.{ends_one, row-turn, row-full-turn}
use Rattle.rules.proofs.Along.{Along, below, along_waits, top-stays, newest_stays}

ends_of : (i k : ℕ) (os : List Opened) (r : Result) → ends (turns i) k r.reply os ≡ ends_with i k r.reply.answer os
unfolding ends
ends_of i k os r = refl

opens-left : (i k : ℕ) (os : List Opened) (r : Result) → opens (turns i) k r.reply os ≡ left_open i r.reply.answer os
unfolding opens
opens-left i k os r = refl

nothing_ends : (i k : ℕ) (os : List Opened) → ends_with i k Nothing os ≡ []
unfolding ends_with
nothing_ends i k os = refl

nothing_left : (i : ℕ) (os : List Opened) → left_open i Nothing os ≡ os
unfolding left_open
nothing_left i os = refl

open_left : (i : ℕ) (os : List Opened) → left_open i Open os ≡ os
unfolding left_open
open_left i os = refl

nothing_counts : (i k : ℕ) (os : List Opened) → length (ends_with i k Nothing os) ≡ ending_answer Nothing
unfolding ends_with ending_answer
nothing_counts i k os = refl

-- a turn that its questions let through, or all but question 9: n is its number
abbrev pub Passed : ℕ → Type 0
Passed n = (n ≡ 0) ⊎ (n ≡ 9)

other_number : (m : ℕ) {n : ℕ} → m ≢ 0 → m ≢ 9 → Passed n → m ≢ n
other_number m z y (inl e) q = z (q ∙ e)
other_number m z y (inr e) q = y (q ∙ e)

-- its worker is below workers and has a call open; what question 9 gives
pub record Open8 (w : ℕ) (x : State) (i n : ℕ) : Type 0 where
  pub below : question4 x.settings i ≡ true
  pub busy : question7 (record_of x.areas i) ≡ false
  pub gives : first_no (asks 9 (question9 x.settings (record_of x.areas i)) ∷ []) ≡ n

pub turn_open : (w : ℕ) (x : State) (i : ℕ) {n : ℕ} → Passed n → (turn w x.settings i x.areas).reply.number ≡ n → Open8 w x i n
unfolding turn_questions question8
turn_open w x i p e =
    let (y₁, e₁) = first-later 1 _ _ (other_number 1 (λ z. omega arith) (λ z. omega arith) p) (sym (turn-number w x.settings i x.areas) ∙ e) in
    let (y₂, e₂) = first-later 2 _ _ (other_number 2 (λ z. omega arith) (λ z. omega arith) p) e₁ in
    let (y₃, e₃) = first-later 3 _ _ (other_number 3 (λ z. omega arith) (λ z. omega arith) p) e₂ in
    let (y₄, e₄) = first-later 4 _ _ (other_number 4 (λ z. omega arith) (λ z. omega arith) p) e₃ in
    let (y₆, e₆) = first-later 6 _ _ (other_number 6 (λ z. omega arith) (λ z. omega arith) p) e₄ in
    let (y₈, e₈) = first-later 8 _ _ (other_number 8 (λ z. omega arith) (λ z. omega arith) p) e₆ in
    record { below = y₄; busy = not-true _ y₈; gives = e₈ }

module _ {w : ℕ} {s₀ : Settings} {x : State} {k : ℕ} {os : List Opened} {cs : List Call} (a : Along w s₀ x k os cs) (i : ℕ) where
  turn-not_6 : (turn w x.settings i x.areas).reply.number ≢ 6
  unfolding turn_questions
  turn-not_6 e =
      let (y₁, e₁) = first-later 1 _ _ (λ z. omega arith) (sym (turn-number w x.settings i x.areas) ∙ e) in
      let (y₂, e₂) = first-later 2 _ _ (λ z. omega arith) e₁ in
      let (y₃, e₃) = first-later 3 _ _ (λ z. omega arith) e₂ in
      let (y₄, e₄) = first-later 4 _ _ (λ z. omega arith) e₃ in
      let f = asks_ok (at a.fine i (below a y₄)) in
      let (y₈, e₈) = first-later 8 _ _ (λ z. omega arith) (sym (first_yes 6 _ f) ∙ e₄) in
      let (y₉, e₉) = first-later 9 _ _ (λ z. omega arith) e₈ in
      none-given (λ z. omega arith) e₉

  -- what a turn that is carried out leaves of the invariant
  pub carried_ok : (turn w x.settings i x.areas).reply.number ≡ 0 → TurnOk w s₀ a.world a.workers i (act w (views x.settings i) x.settings (record_of x.areas i) (memory_of x.areas))
  carried_ok z =
      let o = turn_open w x i (inl refl) z in
      turn_ok (at a.fine i (below a o.below)) o.busy (first-later 9 _ _ (λ y. omega arith) o.gives).0

  -- the turn is taken
  turn-carried : (turn w x.settings i x.areas).reply.number ≡ 0 → Along w s₀ (after (turn w x.settings i x.areas)) (suc k) (left_open i (turn w x.settings i x.areas).reply.answer os) (cs ++ ends_with i k (turn w x.settings i x.areas).reply.answer os)
  unfolding taken
  turn-carried z =
      let o = turn_open w x i (inl refl) z in
      let F = a.fine in
      let h = below a o.below in
      let q = (first-later 9 _ _ (λ y. omega arith) o.gives).0 in
      let K = turn_ok (at F i h) o.busy q in
      let b = busy_acts (F.records i h) o.busy in
      rw (done_number w x.settings i x.areas z, taken)
      (record {
        world = K.world;
        workers = upd a.workers i K.worker;
        starts = a.starts;
        fine = fine_after F i h K.table K.inv K.levels K.matches (turn_role F i h o.busy);
        top = top-stays F a.top K.rowing;
        rows = row-turn F.inv.structure F.inv.partition a.rows.rowed a.rows.perm i b (a.opened i h b) K.rowing;
        opened = newest_stays s₀ a.workers a.opened i K.worker _ (λ y. (b, (same_key K.rowing y, stays_open K.rowing y)));
      })
    where
      same_key : {W W' : WorldOf w s₀} {c c' : Worker} {v : Answer} → Rowing W W' c c' v → c'.act ≢ idle → c'.key ≡ c.key
      same_key (goes E b n e y) z = y
      same_key (ends_new_lem k q e y) z = absurd (z y)
      same_key (ends_found k q e y) z = absurd (z y)
      same_key (ends_absent u e y) z = absurd (z y)

      stays_open : {W W' : WorldOf w s₀} {c c' : Worker} {v : Answer} → Rowing W W' c c' v → c'.act ≢ idle → left_open i v os ≡ os
      stays_open (goes E b n e y) z = open_left i os
      stays_open (ends_new_lem k q e y) z = absurd (z y)
      stays_open (ends_found k q e y) z = absurd (z y)
      stays_open (ends_absent u e y) z = absurd (z y)

  -- the call ends "full"
  turn-full : (turn w x.settings i x.areas).reply.number ≡ 9 → Along w s₀ (after (turn w x.settings i x.areas)) (suc k) (left_open i (turn w x.settings i x.areas).reply.answer os) (cs ++ ends_with i k (turn w x.settings i x.areas).reply.answer os)
  unfolding full
  turn-full z =
      let o = turn_open w x i (inr refl) z in
      let F = a.fine in
      let h = below a o.below in
      let N = none_left x.settings (record_of x.areas i) (last_no 9 _ (λ y. omega arith) o.gives) in
      let b = busy_acts (F.records i h) o.busy in
      let c = stopped (a.workers i) in
      rw (nine_is_full w x.settings i x.areas z)
      (record {
        world = a.world;
        workers = upd a.workers i c;
        starts = a.starts;
        fine = fine_full F i h N.taking;
        top = a.top;
        rows = row-full-turn F.inv.structure F.inv.partition a.rows.rowed a.rows.perm i b (a.opened i h b) c refl (full_unseen (at F i h) N.taking);
        opened = newest_stays s₀ a.workers a.opened i c Full (λ y. absurd (y refl));
      })

  -- any other number changes nothing and ends nothing
  turn_waits : (turn w x.settings i x.areas).reply.number ≢ 0 → (turn w x.settings i x.areas).reply.number ≢ 9 → Along w s₀ (after (turn w x.settings i x.areas)) (suc k) (left_open i (turn w x.settings i x.areas).reply.answer os) (cs ++ ends_with i k (turn w x.settings i x.areas).reply.answer os)
  turn_waits h g =
      let e : (turn w x.settings i x.areas).reply.answer ≡ Nothing = ap (λ y. y.reply.answer) (turn-refused w x.settings i x.areas h g) in
      rw (turn-leaves w x.settings i x.areas h g, e, nothing_ends i k os, nothing_left i os) (along_waits a)

  pub turn_along : Along w s₀ (after (turn w x.settings i x.areas)) (suc k) (opens (turns i) k (turn w x.settings i x.areas).reply os) (cs ++ ends (turns i) k (turn w x.settings i x.areas).reply os)
  turn_along = rw (opens-left i k os (turn w x.settings i x.areas), ends_of i k os (turn w x.settings i x.areas)) (by (ℕ_discrete (turn w x.settings i x.areas).reply.number 0) (ℕ_discrete (turn w x.settings i x.areas).reply.number 9))
    where
      r : Result
      r = turn w x.settings i x.areas

      by : Dec (r.reply.number ≡ 0) → Dec (r.reply.number ≡ 9) → Along w s₀ (after r) (suc k) (left_open i r.reply.answer os) (cs ++ ends_with i k r.reply.answer os)
      by (yes z) d = turn-carried z
      by (no z) (yes y) = turn-full y
      by (no z) (no y) = turn_waits z y

  -- the calls that the turn ended: one if it was answered "new", "found" or "full", else none
  pub turn-ends : length (ends (turns i) k (turn w x.settings i x.areas).reply os) ≡ ending (turns i) (turn w x.settings i x.areas).reply
  unfolding ends ending
  turn-ends = by (ℕ_discrete (turn w x.settings i x.areas).reply.number 0) (ℕ_discrete (turn w x.settings i x.areas).reply.number 9)
    where
      r : Result
      r = turn w x.settings i x.areas

      one : {n : ℕ} → Open8 w x i n → length (ends_with i k r.reply.answer os) ≡ ending_answer r.reply.answer
      one o = let h = below a o.below in ends_one (a.opened i h (busy_acts (a.fine.records i h) o.busy)) k r.reply.answer

      by : Dec (r.reply.number ≡ 0) → Dec (r.reply.number ≡ 9) → length (ends_with i k r.reply.answer os) ≡ ending_answer r.reply.answer
      by (yes z) d = one (turn_open w x i (inl refl) z)
      by (no z) (yes y) = one (turn_open w x i (inr refl) y)
      by (no z) (no y) = rw (turn-refused w x.settings i x.areas z y) (nothing_counts i k os)

  -- a carried out turn is not answered "full", and a refusal is only by 9
  full-nine : (turn w x.settings i x.areas).reply.answer ≡ Full → (turn w x.settings i x.areas).reply.number ≡ 9
  unfolding taken
  full-nine f = by (ℕ_discrete (turn w x.settings i x.areas).reply.number 0) (ℕ_discrete (turn w x.settings i x.areas).reply.number 9)
    where
      r : Result
      r = turn w x.settings i x.areas

      not_full : {W W' : WorldOf w s₀} {c c' : Worker} {v : Answer} → Rowing W W' c c' v → v ≡ Full → ⊥
      not_full (goes E b n e y) q = let z : ◌≡◌ {A = ℕ} 0 1 = cc in omega arith
      not_full (ends_new_lem k p e y) q = let z : ◌≡◌ {A = ℕ} 0 1 = cc in omega arith
      not_full (ends_found k p e y) q = let z : ◌≡◌ {A = ℕ} 0 1 = cc in omega arith
      not_full (ends_absent u e y) q = let z : ◌≡◌ {A = ℕ} 0 1 = cc in omega arith

      by : Dec (r.reply.number ≡ 0) → Dec (r.reply.number ≡ 9) → r.reply.number ≡ 9
      by (yes z) d =
          let o = turn_open w x i (inl refl) z in
          let K = turn_ok (at a.fine i (below a o.below)) o.busy (first-later 9 _ _ (λ y. omega arith) o.gives).0 in
          absurd (not_full K.rowing (sym (ap (λ y. y.reply.answer) (done_number w x.settings i x.areas z)) ∙ f))
      by (no z) (yes y) = y
      by (no z) (no y) = absurd (nothing_full (sym (ap (λ u. u.reply.answer) (turn-refused w x.settings i x.areas z y)) ∙ f))
        where
          nothing_full : Nothing ≡ Full → ⊥
          nothing_full q = let t : ◌≡◌ {A = ℕ} 0 1 = cc in omega arith

  pub turn_event : EventOk w (turns i) x
  unfolding happens full
  turn_event =
      record {
        full-taken = λ f.
            let z = full-nine f in
            let o = turn_open w x i (inr refl) z in
            let N = none_left x.settings (record_of x.areas i) (last_no 9 _ (λ y. omega arith) o.gives) in
            let same : x.settings.nodes ≡ s₀.nodes = a.fine.table.same.nodes_is in
            let l : x.settings.nodes_taken ≤ s₀.nodes = a.fine.table.nodes_le in
            rw (nine_is_full w x.settings i x.areas z, full) (omega (arith, N.all-taken));
        never_6 = turn-not_6;
      }
