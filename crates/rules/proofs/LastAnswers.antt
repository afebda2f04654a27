-- Along any sequence of starts and turns a worker's record tells what the history tells: no answer, an open call, or the answer of its newest ended call.
-- Relies on what holds along a sequence, on that a turn's record tells its answer, and on the laws of a stored record.
use Rattle.rules.proofs.Roles.{turn_role}
use Prim.Native.Nat.{ℕ, ◌+◌, ◌*◌, ◌≤◌, ◌<◌}
use mathlib.Core.Path.{◌≡◌, refl, sym, ap, subst, ◌∙◌}
use mathlib.Core.Logic.{◌≢◌}
use mathlib.Core.Bool.{Bool, true, false}
use mathlib.Core.List.{List, [], ◌∷◌}
use native.Mathlib.Decide.{ℕ_discrete}
use native.Mathlib.Omega.{arith}
use lib.ListN.{length}
use borrow.Author.Tests.{eq-eqb, ne_eqb}
use Rattle.words.specs.Choice.{pick, every}
use Rattle.words.proofs.Choice.{pick-both, pick_true, pick_false, both_left, both_right, both_true}
use Rattle.settings.specs.Sizes.{question1, worker_words, views}
use Rattle.settings.specs.declared.Settings.{Settings}
use Rattle.record.specs.declared.Answer.{Answer}
use Rattle.record.specs.declared.Answer.TheVariants.{Nothing, Full, Open}
use Rattle.record.specs.declared.Head.{Head}
use Rattle.record.specs.declared.Reply.{Reply}
use Rattle.record.specs.Kinds.{kind_no, answer_of}
use Rattle.record.specs.Layout.{Record, record', head_from, head_at, worker_place, load, store}
use Rattle.record.proofs.Apart.{cells_same, place_next, room as word_room}
use Rattle.record.proofs.Records.{WellFormed, idle, head_stored, store_other}
use Rattle.rules.specs.Heads.{started, ended}
use Rattle.rules.specs.Steps.{Step}
use Rattle.rules.specs.Acts.{act}
use Rattle.rules.specs.Asked.{question4, question6_record, question7, question8, question9}
use Rattle.rules.specs.Operations.{AtWidth, Result, result_of, reply, record_of, memory_of, question2_of, opening_questions, started_areas, start, turn_questions, taken, full, full_record, turn, last_questions, last_of, last_answer}
use Rattle.rules.specs.Lists.{State, after}
use Rattle.rules.specs.Calls.{Event, starts, turns, happens, history, state_after, Call, Opened}
use Rattle.rules.specs.Refusals.{AllYes}
use Rattle.rules.specs.LastAnswers.{end_told, told_by, told, ReadsTold, LastAnswers}
use Rattle.trie.proofs.Update.{upd_same}
use Rattle.rules.proofs.Dims.{Width}
use Rattle.rules.proofs.Questions.{unless_carried, all_yes}
use Rattle.rules.proofs.Carried.{opening_done, start_done}
use Rattle.rules.proofs.OneTurn.{done_number, nine_is_full, turn-refused, refuses-turn}
use Rattle.rules.proofs.Refused.{refuses-opening, refuses-start}
use Rattle.rules.proofs.Invariant.{at}
use Rattle.rules.proofs.Idle.{busy_of}
use Rattle.rules.proofs.FineQuestions.{yes_1, yes_2, yes_3, yes_4}
use Rattle.rules.proofs.Fitting.{no_moves, well_formed, fits_ok}
use Rattle.rules.proofs.Asking.{turn_ok}
use Rattle.rules.proofs.Along.{Along, below}
use Rattle.rules.proofs.Opened.{opened_record, along_opened}
use Rattle.rules.proofs.Sequence.{event_along, run_along}
use Rattle.rules.proofs.Tells.{Said, says_open, says_new, says_found, Tells, act_tells, says_absent}
use Rattle.rules.proofs.Theorem.{opened-width}

-- the last answer after an event, by cases
module _ (i j : ℕ) (r : Reply) (b : Answer) where
  told-start : (looks : Bool) (row column : ℕ) → j ≡ i → r.number ≡ 0 → told_by i (starts looks j row column) r b ≡ Open
  unfolding told_by
  told-start looks row column e z = pick_true _ _ _ (eq-eqb _ _ e) ∙ pick_true _ _ _ (eq-eqb _ _ z)

  told-refused : (looks : Bool) (row column : ℕ) → r.number ≢ 0 → told_by i (starts looks j row column) r b ≡ b
  unfolding told_by
  told-refused looks row column z = pick-both (λ (c : Answer). c ≡ b) _ (λ e. pick_false _ _ _ (ne_eqb _ _ z)) (λ e. refl)

  told_other_start : (looks : Bool) (row column : ℕ) → j ≢ i → told_by i (starts looks j row column) r b ≡ b
  unfolding told_by
  told_other_start looks row column d = pick_false _ _ _ (ne_eqb _ _ d)

  told_other_turn : j ≢ i → told_by i (turns j) r b ≡ b
  unfolding told_by
  told_other_turn d = pick_false _ _ _ (ne_eqb _ _ d)

  told-turn : j ≡ i → told_by i (turns j) r b ≡ end_told r.answer b
  unfolding told_by
  told-turn e = pick_true _ _ _ (eq-eqb _ _ e)

  told_nothing : r.answer ≡ Nothing → told_by i (turns j) r b ≡ b
  unfolding told_by end_told
  told_nothing e = pick-both (λ (c : Answer). c ≡ b) _ (λ d. rw (e, end_told) refl) (λ d. refl)

-- a record that is stored: its own head is there again, the head of another worker stays
module _ (w : ℕ) (r : Record) (i j : ℕ) (l : List ℕ) where
  pub own_head : j ≡ i → worker_place i + 10 ≤ length l → (load (store r j l) i).head ≡ r.head
  unfolding load
  own_head e h = rw e (head_stored w r i l h)

  pub other_head : WellFormed r → j ≢ i → (load (store r j l) i).head ≡ (load l i).head
  unfolding load head_at worker_place
  other_head f d =
      let b = word_room in
      ap head_from (cells_same (store r j l) l (worker_words * i) 9 (λ k g. store_other w r j i l f (λ e. d (sym e)) k (omega arith)))

-- what heads tell
started_tells : (p : ℕ) (h : Head) → last_of (started p h) ≡ Open
unfolding last_of started kind_no pick
started_tells p h = refl

full_tells : (h : Head) → last_of (full_record h).head ≡ Full
unfolding last_of full_record ended kind_no answer_of pick
full_tells h = refl

pub idle_tells : last_of idle.head ≡ Nothing
unfolding last_of kind_no answer_of pick
idle_tells = refl

pub busy_tells : (r : Record) → question7 r ≡ false → last_of r.head ≡ Open
unfolding last_of question7
busy_tells r q = pick_false _ _ _ q

-- a turn that is carried out: its answer is told, "open" being so already
end-told : {v : Answer} (b : Answer) → Said v → b ≡ Open → v ≡ end_told v b
unfolding end_told
end-told b says_open e = sym e
end-told b (says_new n) e = refl
end-told b (says_found n) e = refl
end-told b says_absent e = refl

-- a record without Moves
pub alone : (h : Head) → WellFormed (record' h [])
alone h = no_moves (record' h []) refl

pub full_formed : (h : Head) → WellFormed (full_record h)
unfolding full_record
full_formed h = alone (ended 3 0 h.held_node h)

-- the yes of a turn's questions that are used
pub record TurnYes (w : ℕ) (x : State) (j : ℕ) : Type 0 where
  pub below : question4 x.settings j ≡ true
  pub open8 : question8 (record_of x.areas j) ≡ true
  pub left9 : question9 x.settings (record_of x.areas j) ≡ true

pub turn_yes : (w : ℕ) (x : State) (j : ℕ) → AllYes (turn_questions w x.settings j x.areas) → TurnYes w x j
unfolding turn_questions every
turn_yes w x j y =
    let y₂ = both_right _ _ y in
    let y₃ = both_right _ _ y₂ in
    let y₄ = both_right _ _ y₃ in
    let y₆ = both_right _ _ y₄ in
    let y₈ = both_right _ _ y₆ in
    let y₉ = both_right _ _ y₈ in
    record { below = both_left _ _ y₄; open8 = both_left _ _ y₈; left9 = both_left _ _ y₉ }

module _ {w : ℕ} {s₀ : Settings} {x : State} {k : ℕ} {os : List Opened} {cs : List Call} (a : Along w s₀ x k os cs) (i : ℕ) (here : i < s₀.workers) where
  -- what worker i's record tells
  abbrev last : State → Answer
  last y = last_of (record_of y.areas i).head

  -- after an event it tells what the event's reply tells
  abbrev ToldAfter : Event → Result → Type 0
  ToldAfter e r = last (after r) ≡ told_by i e r.reply (last x)

  pub place_room : worker_place i + 10 ≤ length x.areas.workers
  unfolding worker_place
  place_room = let n = place_next here in let g = a.fine.room in let b = word_room in omega arith

  -- a start
  module _ (looks : Bool) (j row column : ℕ) where
    abbrev begun : Result
    begun = start w x.settings looks j row column x.areas

    start_done_told : Dec (j ≡ i) → ToldAfter (starts looks j row column) (result_of (reply 0 Open 0 x.settings) (started_areas j row column x.areas))
    unfolding started_areas
    start_done_told (yes e) = ap last_of (own_head w _ i j x.areas.workers e place_room) ∙ (started_tells _ _ ∙ sym (told-start i j _ _ looks row column e refl))
    start_done_told (no d) = ap last_of (other_head w _ i j x.areas.workers (alone _) d) ∙ sym (told_other_start i j _ _ looks row column d)

    start-told : ToldAfter (starts looks j row column) begun
    start-told = by (ℕ_discrete begun.reply.number 0)
      where
        by : Dec (begun.reply.number ≡ 0) → ToldAfter (starts looks j row column) begun
        by (yes z) = subst (ToldAfter (starts looks j row column)) (sym (start_done w x.settings looks j row column x.areas z)) (start_done_told (ℕ_discrete j i))
        by (no z) = subst (ToldAfter (starts looks j row column)) (sym ((refuses-start w x.settings looks j row column x.areas).unchanged z).0) (sym (told-refused i j _ _ looks row column z))

  -- a turn
  module _ (j : ℕ) where
    abbrev turned : Result
    turned = turn w x.settings j x.areas

    abbrev stepped : Step
    stepped = act w (views x.settings j) x.settings (record_of x.areas j) (memory_of x.areas)

    full-told : Dec (j ≡ i) → ToldAfter (turns j) (full x.settings j x.areas)
    unfolding full end_told
    full-told (yes e) = ap last_of (own_head w _ i j x.areas.workers e place_room) ∙ (full_tells _ ∙ sym (told-turn i j _ _ e))
    full-told (no d) = ap last_of (other_head w _ i j x.areas.workers (full_formed _) d) ∙ sym (told_other_turn i j _ _ d)

    -- the record after a turn of the table's worker has room in its words
    pub formed : TurnYes w x j → WellFormed stepped.record'
    formed y =
        let h = below a y.below in
        let K = turn_ok (at a.fine j h) (busy_of (record_of x.areas j) y.open8) y.left9 in
        well_formed (record { table = K.table; inv = K.inv; levels = K.levels; here = h; matches = rw (upd_same a.workers j K.worker) K.matches; role = turn_role a.fine j h (busy_of (record_of x.areas j) y.open8) })

    -- before a turn that is carried out its worker's call is open
    was_open : TurnYes w x j → j ≡ i → last x ≡ Open
    was_open y e = subst (λ n. last_of (record_of x.areas n).head ≡ Open) e (busy_tells (record_of x.areas j) (busy_of (record_of x.areas j) y.open8))

    taken-told : TurnYes w x j → Dec (j ≡ i) → ToldAfter (turns j) (taken stepped j x.areas.workers)
    unfolding taken
    taken-told y (yes e) =
        let k : Tells (views x.settings j) stepped = act_tells w (views x.settings j) x.settings (record_of x.areas j) (memory_of x.areas) y.open8 in
        ap last_of (own_head w stepped.record' i j x.areas.workers e place_room)
        ∙ (k.answer_is ∙ (end-told (last x) k.said (was_open y e) ∙ sym (told-turn i j _ _ e)))
    taken-told y (no d) = ap last_of (other_head w stepped.record' i j x.areas.workers (formed y) d) ∙ sym (told_other_turn i j _ _ d)

    turn-told : ToldAfter (turns j) turned
    turn-told = by (ℕ_discrete turned.reply.number 0) (ℕ_discrete turned.reply.number 9)
      where
        by : Dec (turned.reply.number ≡ 0) → Dec (turned.reply.number ≡ 9) → ToldAfter (turns j) turned
        by (yes z) d =
            subst (ToldAfter (turns j)) (sym (done_number w x.settings j x.areas z))
            (taken-told (turn_yes w x j ((refuses-turn w x.settings j x.areas).numbered.carried.0 z)) (ℕ_discrete j i))
        by (no z) (yes y) = subst (ToldAfter (turns j)) (sym (nine_is_full w x.settings j x.areas y)) (full-told (ℕ_discrete j i))
        by (no z) (no y) = subst (ToldAfter (turns j)) (sym (turn-refused w x.settings j x.areas z y)) (sym (told_nothing i j _ _ refl))

  event_told : (e : Event) → ToldAfter e (happens w e x)
  unfolding happens
  event_told (starts looks j row column) = start-told looks j row column
  event_told (turns j) = turn-told j

-- any events more
pub sequence_told : {w : ℕ} {s₀ : Settings} (es : List Event) (x : State) {k : ℕ} {os : List Opened} {cs : List Call} → Along w s₀ x k os cs → (i : ℕ) → i < s₀.workers → last_of (record_of (state_after w es x).areas i).head ≡ told i (history w es x) (last_of (record_of x.areas i).head)
unfolding state_after history told
sequence_told [] x a i h = refl
sequence_told {w} (e ∷ es) x a i h =
    sequence_told es (after (happens w e x)) (event_along a e) i h
    ∙ ap (told i (history w es (after (happens w e x)))) (event_told a i h e)

-- the questions of a last answer are answered yes
module _ {w : ℕ} {s₀ : Settings} {x : State} {k : ℕ} {os : List Opened} {cs : List Call} (a : Along w s₀ x k os cs) (i : ℕ) (here : i < s₀.workers) where
  last_yes : AllYes (last_questions w x.settings i x.areas)
  unfolding last_questions every question6_record
  last_yes = let F = a.fine in both_true (yes_1 F) (both_true (yes_2 F) (both_true (yes_3 F) (both_true (yes_4 F i here) (both_true (fits_ok (at F i here)) refl))))

  -- so it is given, as the record tells it
  last-given : last_answer w x.settings i x.areas ≡ result_of (reply 0 (last_of (record_of x.areas i).head) 0 x.settings) x.areas
  unfolding last_answer
  last-given = unless_carried x.settings x.areas _ _ (all_yes _ last_yes)

-- from a state that holds what an opening leaves
reads-told : {w : ℕ} {s₀ : Settings} {x : State} → Along w s₀ x 0 [] [] → (i : ℕ) → i < s₀.workers → last_of (record_of x.areas i).head ≡ Nothing → (es : List Event) → ReadsTold w x es i
reads-told {w} {s₀} {x} a i h n es =
    let g = last-given (run_along es x 0 [] [] a).along i h in
    (ap (λ r. r.reply.number) g, ap (λ r. r.reply.answer) g ∙ (sequence_told es x a i h ∙ ap (told i (history w es x)) n))

-- over every width whose digits fit the pixel numbers
pub last_answers : (w : ℕ) → Width w → (s : Settings) → LastAnswers w s
unfolding opening_questions every
last_answers w width s a z es i h =
    let y = (refuses-opening w s a).numbered.carried.0 z in
    let y₁ : question1 s ≡ true = both_left _ _ y in
    let y₂ : question2_of w s a ≡ true = both_left _ _ (both_right _ _ y) in
    rw (opening_done w s a z)
    (reads-told (along_opened width s a y₁ y₂) i h (ap (λ (r : Record). last_of r.head) (opened_record w s a i h y₂) ∙ idle_tells) es)

-- document 02's tables, each at the width that its settings give
pub last_answers_all : AtWidth LastAnswers
last_answers_all s a z = last_answers s.width (opened-width s.width s a z) s a z
