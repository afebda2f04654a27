-- A call with all turns to itself ends, from every state that a sequence can reach, within the turns that the definition names.
-- Relies on that the measure falls in every turn after which a call goes on, and on its bound.
use Prim.Native.Nat.{ℕ, zero, suc, ◌*◌, ◌<◌}
use mathlib.Core.Path.{◌≡◌, refl, sym, ap, ◌∙◌}
use mathlib.Core.Bool.{true, false}
use mathlib.Core.List.{List, []}
use native.Mathlib.Omega.{arith}
use native.Mathlib.Numerals.{add-one}
use Rattle.words.specs.Digits.{depths}
use Rattle.words.proofs.Choice.{pick_true, pick_false}
use Rattle.settings.specs.Sizes.{level_count, views}
use Rattle.settings.specs.declared.Settings.{Settings}
use Rattle.record.specs.declared.Answer.{Answer}
use Rattle.record.specs.declared.Answer.TheVariants.{Full, Open}
use Rattle.rules.specs.Acts.{act}
use Rattle.rules.specs.Asked.{question7, question8}
use Rattle.rules.specs.Operations.{AtWidth, Result, record_of, memory_of, taken, full, turn}
use Rattle.rules.specs.Lists.{State, after}
use Rattle.rules.specs.Calls.{Event, turns, happens, state_after, ending_answer}
use Rattle.rules.specs.Alone.{goes_on, run_alone, alone_turns, turns_of, EndsAlone, AloneStatement}
use Rattle.trie.proofs.Update.{upd, upd_same}
use Rattle.trie.proofs.Weights.{places, visit, errand, errands, frame, stretch}
use Rattle.trie.proofs.Measure.{measure, measure-lt}
use Rattle.trie.proofs.Whole.{Worker}
use Rattle.rules.proofs.Dims.{dims, Width}
use Rattle.rules.proofs.Invariant.{WorldOf, Rowing, goes, ends_new_lem, ends_found, TurnOk, Fine, ends_absent}
use Rattle.rules.proofs.Idle.{acts_busy, busy_of}
use Rattle.rules.proofs.AloneTurn.{TurnIs, carried, filled, turn_is, fine_turned}
use Rattle.rules.proofs.Carried.{opening_done}
use Rattle.rules.proofs.Refused.{refuses-opening}
use Rattle.rules.proofs.Along.{Along}
use Rattle.rules.proofs.Opened.{along_opened}
use Rattle.rules.proofs.Sequence.{run_along}
use Rattle.rules.proofs.Theorem.{opening_yes, opened-width}

module _ (w i : ℕ) where
  -- a turn that ends the call
  ends_now : (n : ℕ) (x : State) → goes_on (turn w x.settings i x.areas).reply.answer ≡ false → ending_answer (turn w x.settings i x.areas).reply.answer ≡ 1 → EndsAlone w (suc n) i x
  unfolding run_alone state_after happens
  ends_now n x g e =
      record {
        before = 0;
        few = omega arith;
        goes = λ k l. absurd (omega arith);
        ends = e;
        run_is = pick_false _ _ _ g;
      }

  -- a turn after which it goes on
  goes_further : (n : ℕ) (x : State) → (turn w x.settings i x.areas).reply.answer ≡ Open → EndsAlone w n i (after (turn w x.settings i x.areas)) → EndsAlone w (suc n) i x
  unfolding run_alone state_after happens goes_on
  goes_further n x o k =
      record {
        before = suc k.before;
        few = let l = k.few in omega arith;
        goes = going;
        ends = k.ends;
        run_is = pick_true _ _ _ (ap goes_on o) ∙ k.run_is;
      }
    where
      going : (j : ℕ) → j < suc k.before → (happens w (turns i) (state_after w (turns_of i j) x)).reply.answer ≡ Open
      going zero l = o
      going (suc j) l = k.goes j (omega arith)

  module _ (s₀ : Settings) (here : i < s₀.workers) where
    -- from every state of the invariant in which the worker has a call open and less than n before it
    abbrev Ends : ℕ → Type 0
    Ends n = (x : State) (W : WorldOf w s₀) (ws : ℕ → Worker) (F : Fine w s₀ x W ws) → question7 (record_of x.areas i) ≡ false → measure (level_count w s₀) W (ws i).act < n → EndsAlone w n i x

    alone-ends : (n : ℕ) → Ends n
    unfolding taken full goes_on ending_answer
    alone-ends zero x W ws F busy h = absurd (omega arith)
    alone-ends (suc n) x W ws F busy h = by (alone-ends n) (turn_is F i here busy)
      where
        r : Result
        r = turn w x.settings i x.areas

        on : Ends n → (K : TurnOk w s₀ W ws i (act w (views x.settings i) x.settings (record_of x.areas i) (memory_of x.areas))) → r ≡ taken (act w (views x.settings i) x.settings (record_of x.areas i) (memory_of x.areas)) i x.areas.workers → {v : Answer} → r.reply.answer ≡ v → Rowing W K.world (ws i) K.worker v → EndsAlone w (suc n) i x
        on f K e a (goes E b z p q) =
            let F' = fine_turned F i here busy K e in
            let M = rw (upd_same ws i K.worker) at (F'.records i here) in
            let l = (K.falls z).less in
            let s : (upd ws i K.worker i).act ≡ K.worker.act = ap (λ (c : Worker). c.act) (upd_same ws i K.worker) in
            goes_further n x a (f _ _ _ F' (acts_busy M z) (rw s (omega arith)))
        on f K e a (ends_new_lem c p u g) = ends_now n x (ap goes_on a) (ap ending_answer a)
        on f K e a (ends_found p q u g) = ends_now n x (ap goes_on a) (ap ending_answer a)
        on f K e a (ends_absent p u g) = ends_now n x (ap goes_on a) (ap ending_answer a)

        by : Ends n → TurnIs F i here busy → EndsAlone w (suc n) i x
        by f (carried e K) = on f K e (ap (λ (u : Result). u.reply.answer) e) K.rowing
        by f (filled e q) = let a : r.reply.answer ≡ Full = ap (λ (u : Result). u.reply.answer) e in ends_now n x (ap goes_on a) (ap ending_answer a)

-- one turn more
last_turn : (w i k : ℕ) (x : State) → state_after w (turns_of i (suc k)) x ≡ after (happens w (turns i) (state_after w (turns_of i k) x))
unfolding state_after
last_turn w i zero x = refl
last_turn w i (suc k) x = last_turn w i k (after (happens w (turns i) x))

-- what such a run leaves is what its turns leave, so that a sequence may go on from there
pub run-state : {w n i : ℕ} {x : State} (e : EndsAlone w n i x) → after (run_alone w n i x) ≡ state_after w (turns_of i (suc e.before)) x
run-state {w} {n} {i} {x} e = ap after e.run_is ∙ sym (last_turn w i e.before x)

-- the number of turns is the theory's bound
pub turns_are : (w : ℕ) (s : Settings) → alone_turns w s ≡ stretch (dims w s.limit) * suc (level_count w s)
unfolding alone_turns stretch frame errands errand visit places
turns_are w s = rw (add-one (level_count w s), add-one (depths w), add-one s.limit) refl

-- from every state of the invariant, within that number
pub ends_from : {w : ℕ} {s₀ : Settings} {x : State} {W : WorldOf w s₀} {ws : ℕ → Worker} (F : Fine w s₀ x W ws) (i : ℕ) → i < s₀.workers → question7 (record_of x.areas i) ≡ false → EndsAlone w (alone_turns w s₀) i x
ends_from {w} {s₀} F i h q = rw (turns_are w s₀) (alone-ends w i s₀ h _ _ _ _ F q (measure-lt F.inv.structure (level_count w s₀) (F.inv.each i).acts))

-- from a state that holds what an opening leaves
alone_of : {w : ℕ} {s₀ : Settings} {x : State} → Along w s₀ x 0 [] [] → (es : List Event) (i : ℕ) → i < s₀.workers → question8 (record_of (state_after w es x).areas i) ≡ true → EndsAlone w (alone_turns w s₀) i (state_after w es x)
alone_of {x = x} a es i h q = ends_from (run_along es x 0 [] [] a).along.fine i h (busy_of _ q)

-- over every width whose digits fit the pixel numbers
pub alone : (w : ℕ) → Width w → (s : Settings) → AloneStatement w s
alone w width s a z =
    let y = (refuses-opening w s a).numbered.carried.0 z in
    rw (opening_done w s a z) (alone_of (along_opened width s a (opening_yes w s a y).0 (opening_yes w s a y).1))

-- document 02's tables, each at the width that its settings give
pub alone-all : AtWidth AloneStatement
alone-all s a z = alone s.width (opened-width s.width s a z) s a z
