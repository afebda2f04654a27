-- A list of turns in the code's parts is the list that the documents define: the limit that counts down tells the turns done, the counts its own exchanges.
-- Relies on that questions 1 to 3 stay answered yes, and on the laws of the entries reached.
use Prim.Native.Nat.{ℕ, zero, suc, ◌+◌, ◌-◌}
use mathlib.Core.Path.{◌≡◌, refl, sym, ap, ◌∙◌}
use mathlib.Core.Logic.{◌≢◌}
use mathlib.Core.Bool.{true, false, not}
use mathlib.Core.List.{List, [], ◌∷◌}
use native.Mathlib.Nat.{zero-add}
use native.Mathlib.Decide.{ℕ_discrete}
use native.Mathlib.Omega.{arith}
use lib.Dec.{eqb, ltb}
use borrow.Author.Tests.{eq-eqb, ne_eqb}
use Rattle.words.specs.Choice.{pick, both, every}
use Rattle.words.proofs.Choice.{pick-both, pick_true, pick_false, both_left, both_right, both_false_left}
use Rattle.settings.specs.declared.Settings.{Settings}
use Rattle.areas.specs.Memory.{Areas}
use Rattle.rules.specs.Asked.{question4, question4_all}
use Rattle.settings.specs.Sizes.{question1, question3}
use Rattle.rules.specs.Operations.{Result, question2_of}
use Rattle.record.specs.declared.Exchange.{Exchange}
use Rattle.rules.specs.Lists.{State, state, after, Visit, visit, turn_at, visits, end_state, met_six, counts, turns_done, list_number, turns_result}
use Rattle.rules.specs.Calls.{turns, happens}
use Rattle.rules.specs.Sequences.{turns_at}
use Rattle.rules.specs.Exchanges.{exchange_at, done_in, failed_in, total, successes, failures, report}
use Rattle.rules.proofs.OneTurn.{six-leaves, eight-leaves}
use Rattle.rules.proofs.Visits.{six_uncounted}
use Rattle.rules.proofs.Three.{Three, three_stays, below_workers}
use Rattle.rules.proofs.Exchanges.{none_done, none_failed}
use Rattle.rules.proofs.Entries.{open_8, eight_uncounted, open_counted, no_six, is_six, visits-six, visits-eight, visits_other}
use Rattle.lists.specs.Cut.{Run, run, ran_by, ran_entry, ran_list, ran_report}

-- a list that has met 6, or whose limit is used up, goes no further
pub stopped : (w : ℕ) (l : List ℕ) (u : Run) → u.left ≡ 0 → ran_list w l u ≡ u
unfolding ran_list ran_entry
stopped w [] u z = refl
stopped w (i ∷ l) u z = ap (ran_list w l) (pick_true _ _ _ (eq-eqb _ _ z)) ∙ stopped w l u z

entry_same : (w : ℕ) (u : Run) (i : ℕ) → u.number ≢ 0 → ran_entry w u i ≡ u
unfolding ran_entry
entry_same w u i z = pick-both (λ (v : Run). v ≡ u) (eqb u.left 0) (λ e. refl) (λ e. pick_false _ _ _ (ne_eqb _ _ z))

pub refused_on : (w : ℕ) (l : List ℕ) (u : Run) → u.number ≢ 0 → ran_list w l u ≡ u
unfolding ran_list
refused_on w [] u z = refl
refused_on w (i ∷ l) u z = ap (ran_list w l) (entry_same w u i z) ∙ refused_on w l u z

-- what the code has at the list's end, against the entries reached from where it began
pub record Agrees (w : ℕ) (b : Run) (vs : List Visit) (u : Run) : Type 0 where
  pub number_is : list_number w vs ≡ u.number
  pub state_is : end_state w b.state' vs ≡ u.state'
  pub left_is : turns_done w vs + u.left ≡ b.left
  pub done_is : b.done + successes w (turns_at vs) b.state' ≡ u.done
  pub failed_is : b.failed + failures w (turns_at vs) b.state' ≡ u.failed

-- that the list's end agrees, begun with these counts
abbrev Ends : ℕ → List ℕ → ℕ → State → ℕ → ℕ → Type 0
Ends w l n x d f = Agrees w (run 0 x n d f) (visits w l n x) (ran_list w l (run 0 x n d f))

-- an entry of the list that is reached
module _ (w : ℕ) (i : ℕ) (x : State) where
  abbrev v : Visit
  v = visit i x

  abbrev its : Result
  its = turn_at w v

  abbrev made : Exchange
  made = exchange_at w (turns i) x

  -- what the code makes of it, by its number: 6, 8, or another
  module _ (n d f : ℕ) where
    abbrev found : Run
    found = run 0 x (suc n) d f

    reached : ran_entry w found i ≡ ran_by found made its
    unfolding ran_entry
    reached = pick_false _ _ _ (ne_eqb (suc n) 0 (λ z. omega arith)) ∙ pick_true _ _ _ (eq-eqb 0 0 refl)

    entry_six : its.reply.number ≡ 6 → ran_entry w found i ≡ run 6 x (suc n) d f
    unfolding ran_by
    entry_six e = reached ∙ pick_true _ _ _ (eq-eqb _ _ e)

    entry_eight : its.reply.number ≡ 8 → ran_entry w found i ≡ found
    unfolding ran_by
    entry_eight e = reached ∙ pick_false _ _ _ (ne_eqb its.reply.number 6 (λ z. omega arith)) ∙ pick_true _ _ _ (eq-eqb _ _ e)

    entry_other : its.reply.number ≢ 6 → its.reply.number ≢ 8 → ran_entry w found i ≡ run 0 (after its) n (d + done_in made) (f + failed_in made)
    unfolding ran_by
    entry_other h g =
        reached ∙ pick_false _ _ _ (ne_eqb _ 6 h) ∙ pick_false _ _ _ (ne_eqb _ 8 g)
        ∙ ap (λ (k : ℕ). run 0 (after its) k (d + done_in made) (f + failed_in made)) (omega arith)

  -- one entry more in front, which met no 6 and counts c
  agrees_more :
      (j k c d f : ℕ) {d' f' : ℕ} {vs : List Visit} {u : Run}
      → j ≡ c + k → d' ≡ d + done_in made → f' ≡ f + failed_in made → met_six w v ≡ false → ◌≡◌ {A = ℕ} (pick (counts w v) 1 0) c
      → Agrees w (run 0 (after its) k d' f') vs u → Agrees w (run 0 x j d f) (v ∷ vs) u
  unfolding list_number end_state turns_done every both turns_at total happens
  agrees_more j k c d f {vs = vs} p q r z e a =
      let l = a.left_is in
      let g = a.done_is in
      let h = a.failed_is in
      record {
        number_is = ap (λ b. pick (both (not b) (every (λ y. not (met_six w y)) vs)) 0 6) z ∙ a.number_is;
        state_is = a.state_is;
        left_is = omega arith;
        done_is = omega arith;
        failed_is = omega arith;
      }

  -- an entry that met 6 alone
  six-alone : {n d f : ℕ} → its.reply.number ≡ 6 → Agrees w (run 0 x (suc n) d f) (v ∷ []) (run 6 x (suc n) d f)
  unfolding list_number end_state turns_done every turns_at total
  six-alone e =
      let six = is_six w x i e in
      let z : ◌≡◌ {A = ℕ} (pick (counts w v) 1 0) 0 = pick_false _ _ _ (six_uncounted w v six) in
      let d = none_done w i x (λ y. omega arith) in
      let f = none_failed w i x (λ y. omega arith) in
      record {
        number_is = pick_false _ _ _ (both_false_left _ (ap not six));
        state_is = six-leaves w x.settings i x.areas e;
        left_is = omega arith;
        done_is = omega arith;
        failed_is = omega arith;
      }

agrees_none : (w n d f : ℕ) (x : State) → Ends w [] n x d f
unfolding visits ran_list list_number end_state turns_done every pick turns_at total
agrees_none w n d f x = record { number_is = refl; state_is = refl; left_is = omega arith; done_is = omega arith; failed_is = omega arith }

agrees_zero : (w i d f : ℕ) (l : List ℕ) (x : State) → Ends w (i ∷ l) 0 x d f
unfolding visits list_number end_state turns_done every pick turns_at total
agrees_zero w i d f l x =
    rw (stopped w (i ∷ l) (run 0 x 0 d f) refl) (record { number_is = refl; state_is = refl; left_is = omega arith; done_is = omega arith; failed_is = omega arith })

ran-step : (w i : ℕ) (l : List ℕ) (u v : Run) → ran_entry w u i ≡ v → ran_list w (i ∷ l) u ≡ ran_list w l v
unfolding ran_list
ran-step w i l u v e = ap (ran_list w l) e

agrees_step : (w : ℕ) {workers : ℕ} (i n d f : ℕ) (l : List ℕ) (x : State) → Three w workers x → question4 x.settings i ≡ true → Ends w l (suc n) x d f → Ends w l n (after (its w i x)) (d + done_in (made w i x)) (f + failed_in (made w i x)) → Ends w (i ∷ l) (suc n) x d f
agrees_step w i n d f l x y q skipped done = by (ℕ_discrete (its w i x).reply.number 6) (ℕ_discrete (its w i x).reply.number 8)
  where
    by : Dec ((its w i x).reply.number ≡ 6) → Dec ((its w i x).reply.number ≡ 8) → Ends w (i ∷ l) (suc n) x d f
    by (yes e) _ =
        rw (visits-six w i n l x e, ran-step w i l (found w i x n d f) (run 6 x (suc n) d f) (entry_six w i x n d f e), refused_on w l (run 6 x (suc n) d f) (λ z. omega arith))
        (six-alone w i x e)
    by (no h) (yes e) =
        let z = none_done w i x (λ y. omega arith) in
        let o = none_failed w i x (λ y. omega arith) in
        rw (visits-eight w i n l x e, ran-step w i l (found w i x n d f) (found w i x n d f) (entry_eight w i x n d f e))
        (agrees_more w i x (suc n) (suc n) 0 d f {d' = d} {f' = f} (omega arith) (omega arith) (omega arith) (no_six w x i h) (pick_false _ _ _ (eight_uncounted w x i e)) (rw (eight-leaves w x.settings i x.areas e) skipped))
    by (no h) (no g) =
        rw (visits_other w i n l x h g, ran-step w i l (found w i x n d f) (run 0 (after (its w i x)) n (d + done_in (made w i x)) (f + failed_in (made w i x))) (entry_other w i x n d f h g))
        (agrees_more w i x (suc n) n 1 d f (omega arith) refl refl (no_six w x i h) (pick_true _ _ _ (open_counted w x i (open_8 w x i y.one y.two y.three q h g) h)) done)

-- the code's end of a list agrees with the entries reached
pub agrees : (w : ℕ) {workers : ℕ} (l : List ℕ) (n d f : ℕ) (x : State) → Three w workers x → every (λ i. ltb i workers) l ≡ true → Ends w l n x d f
unfolding every
agrees w [] n d f x y q = agrees_none w n d f x
agrees w (i ∷ l) zero d f x y q = agrees_zero w i d f l x
agrees w (i ∷ l) (suc n) d f x y q =
    agrees_step w i n d f l x y (below_workers i y (both_left _ _ q))
    (agrees w l (suc n) d f x y (both_right _ _ q))
    (agrees w l n (d + done_in (made w i x)) (f + failed_in (made w i x)) (after (its w i x)) (three_stays w x i y) (both_right _ _ q))

-- a list of turns is what the code's parts give, once questions 1 to 4 are answered yes
module _ (w : ℕ) (s : Settings) (l : List ℕ) (limit : ℕ) (a : Areas) where
  abbrev entries : List Visit
  entries = visits w l limit (state s a)

  pub list_cut : question1 s ≡ true → question2_of w s a ≡ true → question3 w s ≡ true → question4_all s l ≡ true
      → ran_report limit (ran_list w l (run 0 (state s a) limit 0 0)) ≡ report (turns_result w (state s a) entries) (successes w (turns_at entries) (state s a)) (failures w (turns_at entries) (state s a))
  unfolding ran_report turns_result question4_all question4
  list_cut y₁ y₂ y₃ y₄ =
      let e = agrees w l limit 0 0 (state s a) (record { workers_is = refl; one = y₁; two = y₂; three = y₃ }) y₄ in
      let d = e.left_is in
      let k : limit - (ran_list w l (run 0 (state s a) limit 0 0)).left ≡ turns_done w entries = omega arith in
      rw (k, ← e.number_is, ← e.state_is, sym e.done_is ∙ zero-add _, sym e.failed_is ∙ zero-add _) refl
