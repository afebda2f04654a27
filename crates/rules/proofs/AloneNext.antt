-- One call alone after another: an idle worker may start, and the run of its call leaves a state that a sequence reaches.
-- Relies on the questions that are answered yes, and on that a call alone ends.
use Prim.Native.Nat.{ℕ, suc, ◌<◌}
use mathlib.Core.Path.{◌≡◌, refl, sym, ◌∙◌}
use mathlib.Core.Bool.{Bool, true}
use mathlib.Core.List.{List, [], ◌∷◌, ◌++◌}
use Rattle.words.specs.Choice.{every}
use Rattle.words.proofs.Choice.{both_true}
use Rattle.settings.specs.declared.Settings.{Settings}
use Rattle.rules.specs.Asked.{question5, question6_record, question7, question17}
use Rattle.rules.specs.Operations.{AtWidth, record_of, start_questions, start}
use Rattle.rules.specs.Lists.{State, after}
use Rattle.rules.specs.Calls.{Event, starts, happens, state_after}
use Rattle.rules.specs.Refusals.{AllYes}
use Rattle.rules.specs.Alone.{run_alone, alone_turns, turns_of}
use Rattle.rules.specs.AloneAnswers.{StartsStatement, ReachesStatement}
use Rattle.trie.proofs.Update.{upd_same}
use Rattle.trie.proofs.Whole.{Worker}
use Rattle.rules.proofs.Dims.{Width}
use Rattle.rules.proofs.Invariant.{WorldOf, Fine, at, views_same}
use Rattle.rules.proofs.FineQuestions.{yes_1, yes_2, yes_3, yes_4, worker_of_lem}
use Rattle.rules.proofs.Fitting.{fits_ok}
use Rattle.rules.proofs.Idle.{acts_busy}
use Rattle.rules.proofs.Turned.{still_searching}
use Rattle.rules.proofs.Carried.{opening_done, start_done}
use Rattle.rules.proofs.Refused.{refuses-opening, refuses-start}
use Rattle.rules.proofs.Starting.{start_yes, starter, fine_started}
use Rattle.rules.proofs.Along.{Along}
use Rattle.rules.proofs.Opened.{along_opened}
use Rattle.rules.proofs.Sequence.{after-append, run_along}
use Rattle.rules.proofs.Theorem.{opening_yes, opened-width}
use Rattle.rules.proofs.Alone.{ends_from, run-state}

module _ {w : ℕ} {s₀ : Settings} {x : State} {W : WorldOf w s₀} {ws : ℕ → Worker} (F : Fine w s₀ x W ws) (looks : Bool) (i row column : ℕ) where
  right_17 : question17 s₀ looks i ≡ true → question17 x.settings looks i ≡ true
  unfolding question17
  right_17 v = rw (views_same i F.table.same) v

  start-all_yes : i < s₀.workers → question17 s₀ looks i ≡ true → question5 row column ≡ true → question7 (record_of x.areas i) ≡ true → AllYes (start_questions w x.settings looks i row column x.areas)
  unfolding start_questions every question6_record
  start-all_yes h v q r =
      both_true (yes_1 F) (both_true (yes_2 F) (both_true (yes_3 F) (both_true (yes_4 F i h) (both_true q (both_true (right_17 v) (both_true (fits_ok (at F i h)) (both_true r refl)))))))

  pub carried : i < s₀.workers → question17 s₀ looks i ≡ true → question5 row column ≡ true → question7 (record_of x.areas i) ≡ true → (start w x.settings looks i row column x.areas).reply.number ≡ 0
  carried h v q r = (refuses-start w x.settings looks i row column x.areas).numbered.carried.1 (start-all_yes h v q r)

  -- the run from the start on, as turns
  ran : (start w x.settings looks i row column x.areas).reply.number ≡ 0 → (k : ℕ) × (state_after w (turns_of i k) (after (start w x.settings looks i row column x.areas)) ≡ after (run_alone w (alone_turns w s₀) i (after (start w x.settings looks i row column x.areas))))
  ran z =
      let y = start_yes w x looks i row column ((refuses-start w x.settings looks i row column x.areas).numbered.carried.0 z) in
      let h = worker_of_lem F y.below in
      let G = fine_started F i row column h y.inside in
      let M = rw (upd_same ws i (starter F i row column h y.inside)) at (G.records i h) in
      rw (start_done w x.settings looks i row column x.areas z) (let e = ends_from G i h (acts_busy M still_searching) in (suc e.before, sym (run-state e)))

-- the events of a call after those before it
events_of_lem : (w : ℕ) (es : List Event) (looks : Bool) (i row column k : ℕ) (x : State) → state_after w (es ++ starts looks i row column ∷ turns_of i k) x ≡ state_after w (turns_of i k) (after (start w (state_after w es x).settings looks i row column (state_after w es x).areas))
unfolding state_after happens
events_of_lem w es looks i row column k x = after-append w es (starts looks i row column ∷ turns_of i k) x

pub reaches_of : {w : ℕ} {s₀ : Settings} {x : State} → Along w s₀ x 0 [] [] → (es : List Event) (looks : Bool) (i row column : ℕ) → (start w (state_after w es x).settings looks i row column (state_after w es x).areas).reply.number ≡ 0 → (k : ℕ) × (state_after w (es ++ starts looks i row column ∷ turns_of i k) x ≡ after (run_alone w (alone_turns w s₀) i (after (start w (state_after w es x).settings looks i row column (state_after w es x).areas))))
reaches_of {w} {s₀} {x} a es looks i row column z =
    let (k, e) = ran (run_along es x 0 [] [] a).along.fine looks i row column z in
    (k, events_of_lem w es looks i row column k x ∙ e)

-- over every width whose digits fit the pixel numbers
pub starts_carried : (w : ℕ) → Width w → (s : Settings) → StartsStatement w s
starts_carried w width s a z =
    let y = (refuses-opening w s a).numbered.carried.0 z in
    let b = along_opened width s a (opening_yes w s a y).0 (opening_yes w s a y).1 in
    rw (opening_done w s a z) (λ es looks i row column. carried (run_along es _ 0 [] [] b).along.fine looks i row column)

pub reaches : (w : ℕ) → Width w → (s : Settings) → ReachesStatement w s
reaches w width s a z =
    let y = (refuses-opening w s a).numbered.carried.0 z in
    rw (opening_done w s a z) (reaches_of (along_opened width s a (opening_yes w s a y).0 (opening_yes w s a y).1))

-- document 02's tables, each at the width that its settings give
pub starts_carried-all : AtWidth StartsStatement
starts_carried-all s a z = starts_carried s.width (opened-width s.width s a z) s a z

pub reaches_all : AtWidth ReachesStatement
reaches_all s a z = reaches s.width (opened-width s.width s a z) s a z
