-- Demand 3 of all public operations: they leave what the starts and turns since the newest opening leave, and none gives 6.
-- Relies on demand 3 of starts and turns, on demand 1, and on the laws of a list of turns.
use Rattle.settings.specs.Sizes.{views}
use Prim.Native.Nat.{ℕ, zero, suc}
use mathlib.Core.Path.{◌≡◌, refl, sym, ap, subst, ◌∙◌}
use mathlib.Core.Logic.{◌≢◌}
use mathlib.Core.Bool.{Bool, true, false, not}
use mathlib.Core.List.{List, [], ◌∷◌, ◌++◌, append-nil}
use native.Mathlib.Omega.{arith}
use lib.Dec.{eqb}
use borrow.Author.Tests.{eqb-true, eqb-false, ne_eqb}
use Rattle.words.specs.Choice.{pick, both, every, first_no}
use Rattle.words.proofs.Choice.{pick-both, both_true}
use Rattle.settings.specs.Sizes.{fresh}
use Rattle.settings.specs.declared.Settings.{Settings}
use Rattle.areas.specs.Memory.{Areas}
use Rattle.rules.specs.Opening.{opened_settings}
use Rattle.rules.specs.Asked.{question5, question17}
use Rattle.rules.specs.Operations.{Result, unless_refused, opening, opening_questions, start, start_questions, turn, last_answer, last_questions}
use Rattle.rules.specs.Lists as many
use Rattle.rules.specs.Lists.{State, after, visit, turn_at, left_after, visits, end_state, met_six, turns_result, list_questions}
use Rattle.rules.specs.Calls.{Event, happens, state_after}
use Rattle.rules.specs.Calls as event
use Rattle.rules.specs.Refusals.{here}
use Rattle.rules.specs.Demands.{Demand3}
use Rattle.rules.specs.Sequences.{Operation, opens, starts, turns, lists, asks, performs, leaves, left_by, turns_at, list_events, events_of, Since, since, since_all, OperationsMeet, OperationsStatement}
use Rattle.rules.proofs.Dims.{Width}
use Rattle.rules.proofs.Questions.{Without, gives-first_no, never_first, first-later, first_yes, last_no, unless_number, unless_refused_lem}
use Rattle.rules.proofs.Visits.{NoSix, six_in}
use Rattle.rules.proofs.ManyTurns.{list_carried, refuses_list}
use Rattle.rules.proofs.Carried.{opening_done}
use Rattle.rules.proofs.Refused.{refuses-opening}
use Rattle.rules.proofs.Sequence.{after-append}
use Rattle.rules.proofs.Theorem.{demand3, opened-width}

-- the turns at the entries reached leave the state after these
after-visits : (w : ℕ) (l : List ℕ) (n : ℕ) (x : State) → state_after w (turns_at (visits w l n x)) x ≡ end_state w x (visits w l n x)
unfolding state_after turns_at visits end_state happens
after-visits w [] n x = refl
after-visits w (i ∷ l) zero x = refl
after-visits w (i ∷ l) (suc n) x =
    after-visits w l (left_after (turn_at w (visit i x)).reply.number n) (after (turn_at w (visit i x)))

-- without a start or turn the state stays
after_none : (w : ℕ) (x : State) → state_after w [] x ≡ x
unfolding state_after
after_none w x = refl

module _ (w : ℕ) (l : List ℕ) (n : ℕ) (x : State) where
  list_done : after (turns_result w x (visits w l n x)) ≡ end_state w x (visits w l n x)
  unfolding turns_result
  list_done = refl

  list_refused : first_no (list_questions w x.settings l x.areas) ≢ 0 → after (many.turns w x.settings l n x.areas) ≡ x
  unfolding many.turns
  list_refused h = ap after (unless_refused_lem x.settings x.areas _ _ h)

  -- a list of turns leaves what the turns at the entries reached leave, and a refused one what it found
  list_leaves : x.settings.width ≡ w → state_after w (events_of (lists l n) x) x ≡ leaves (lists l n) x
  unfolding events_of list_events leaves performs
  list_leaves k =
      subst (λ (v : ℕ). state_after w (pick (eqb (first_no (list_questions v x.settings l x.areas)) 0) (turns_at (visits v l n x)) []) x ≡ after (many.turns v x.settings l n x.areas)) (sym k)
      (pick-both (λ es. state_after w es x ≡ after (many.turns w x.settings l n x.areas)) _
      (λ e. after-visits w l n x ∙ sym list_done ∙ sym (ap after (list_carried w x.settings l n x.areas (eqb-true _ _ e))))
      (λ e. after_none w x ∙ sym (list_refused (eqb-false _ _ e))))

-- a last answer leaves what it found
last-leaves : (w : ℕ) (i : ℕ) (x : State) → after (last_answer w x.settings i x.areas) ≡ x
unfolding last_answer unless_refused
last-leaves w i x = pick-both (λ (r : Result). after r ≡ x) _ (λ e. refl) (λ e. refl)

-- one start or turn
after_one : (w : ℕ) (e : Event) (x : State) → state_after w (e ∷ []) x ≡ after (happens w e x)
unfolding state_after
after_one w e x = refl

-- the state x came of a carried out opening at the width w by the starts and turns noted in h
pub record Comes (w : ℕ) (h : Since) (x : State) : Type 0 where
  pub settings : Settings
  pub areas : Areas
  pub width_is : settings.width ≡ w
  pub carried : (opening w settings areas).reply.number ≡ 0
  pub began : h.began ≡ after (opening w settings areas)
  pub ends : state_after w h.events h.began ≡ x

-- the width is one of the four
pub comes_width : {w : ℕ} {h : Since} {x : State} → Comes w h x → Width w
comes_width {w} c = subst Width c.width_is (opened-width w c.settings c.areas c.carried)

-- demand 3 of any events after the opening
demand3_at : {w : ℕ} {h : Since} {x : State} → Comes w h x → (es : List Event) → Demand3 w h.began es
demand3_at {w} c es = rw c.began (demand3 w (comes_width c) c.settings c.areas c.carried es)

-- the settings that an opening gives have the width that it got
opened_keeps : (w : ℕ) (s : Settings) (a : Areas) → (opening w s a).reply.number ≡ 0 → (after (opening w s a)).settings.width ≡ s.width
unfolding opened_settings fresh
opened_keeps w s a z = rw (opening_done w s a z) refl

pub began_width : {w : ℕ} {h : Since} {x : State} → Comes w h x → h.began.settings.width ≡ w
began_width {w} c = ap (λ (y : State). y.settings.width) c.began ∙ opened_keeps w c.settings c.areas c.carried ∙ c.width_is

-- the state has the width that the opening brought
pub here-width : {w : ℕ} {h : Since} {x : State} → Comes w h x → x.settings.width ≡ w
here-width {w} {h} c =
    ap (λ (y : State). y.settings.width) (sym c.ends)
    ∙ (demand3_at c h.events).width-stays h.events [] (sym (append-nil h.events))
    ∙ began_width c

-- events that lead to the state y
comes_more : {w : ℕ} {h : Since} {x y : State} → Comes w h x → (es : List Event) → state_after w es x ≡ y → Comes w (record { began = h.began; events = h.events ++ es }) y
comes_more {w} {h} c es e =
    record {
      settings = c.settings;
      areas = c.areas;
      width_is = c.width_is;
      carried = c.carried;
      began = c.began;
      ends = after-append w h.events es h.began ∙ ap (state_after w es) c.ends ∙ e;
    }

-- at some width
abbrev pub ComesAt : Since → State → Type 0
ComesAt h x = (w : ℕ) × Comes w h x

-- the events are at the width that the opening brought, and lead to the state
pub same_width : {h : Since} {x : State} → ComesAt h x → h.began.settings.width ≡ x.settings.width
same_width (w, c) = began_width c ∙ sym (here-width c)

pub leads : {h : Since} {x : State} → ComesAt h x → state_after h.began.settings.width h.events h.began ≡ x
leads {h} {x} (w, c) = subst (λ (v : ℕ). state_after v h.events h.began ≡ x) (sym (began_width c)) c.ends

-- from an opening on
pub comes_opened : (s : Settings) (a : Areas) → (opening s.width s a).reply.number ≡ 0 → ComesAt (record { began = after (opening s.width s a); events = [] }) (after (opening s.width s a))
comes_opened s a z =
    (s.width, record { settings = s; areas = a; width_is = refl; carried = z; began = refl; ends = after_none s.width (after (opening s.width s a)) })

-- two choices by one test
pick_two : {A B : Type 0} (P : A → B → Type 0) (b : Bool) {x y : A} {u v : B} → (b ≡ true → P x u) → (b ≡ false → P y v) → P (pick b x y) (pick b u v)
unfolding pick
pick_two P true f g = f refl
pick_two P false f g = g refl

-- an opening that was carried out is the newest, a refused one is not noted
comes_opening : {h : Since} {x : State} → ComesAt h x → (s : Settings) → ComesAt (since (opens s) x h) (leaves (opens s) x)
unfolding since leaves
comes_opening {x = x} c s =
    pick_two ComesAt _
    (λ e. comes_opened s x.areas (eqb-true _ _ e))
    (λ e. c)

-- one operation more
pub comes_on : {h : Since} {x : State} → ComesAt h x → (o : Operation) → ComesAt (since o x h) (leaves o x)
unfolding since leaves performs happens events_of
comes_on c (opens s) = comes_opening c s
comes_on {x = x} (w, c) (starts looks i row column) = (w, comes_more c _ (subst (λ (v : ℕ). state_after w (event.starts looks i row column ∷ []) x ≡ after (start v x.settings looks i row column x.areas)) (sym (here-width c)) (after_one w (event.starts looks i row column) x)))
comes_on {x = x} (w, c) (turns i) = (w, comes_more c _ (subst (λ (v : ℕ). state_after w (event.turns i ∷ []) x ≡ after (turn v x.settings i x.areas)) (sym (here-width c)) (after_one w (event.turns i) x)))
comes_on {x = x} (w, c) (lists l n) = (w, comes_more c _ (list_leaves w l n x (here-width c)))
comes_on {x = x} c (asks i) = rw (last-leaves x.settings.width i x) c

-- any operations more
pub comes_all : (os : List Operation) {h : Since} {x : State} → ComesAt h x → ComesAt (since_all os x h) (left_by os x)
unfolding since_all left_by
comes_all [] c = c
comes_all (o ∷ os) c = comes_all os (comes_on c o)

-- the questions of an opening have the numbers 1 and 2
opening-asks : (w : ℕ) (s : Settings) (a : Areas) → Without 6 (opening_questions w s a)
unfolding opening_questions every both
opening-asks w s a = refl

opening-not_6 : (w : ℕ) (s : Settings) (a : Areas) → (opening w s a).reply.number ≢ 6
opening-not_6 w s a e = never_first (opening-asks w s a) (((refuses-opening w s a).numbered.refusal 6 (λ z. omega arith)).0 e)

-- of a worker the right sort of call may be started
sort_fits : (s : Settings) (i : ℕ) → question17 s (views s i) i ≡ true
unfolding question17 pick
sort_fits s i = by (views s i)
  where
    by : (b : Bool) → pick b b (not b) ≡ true
    by true = refl
    by false = refl

-- where a last answer finds a record that does not fit, so does a start
last-start : (w : ℕ) (s : Settings) (i : ℕ) (a : Areas) → (last_answer w s i a).reply.number ≡ 6 → (start w s (views s i) i 0 0 a).reply.number ≡ 6
unfolding last_answer last_questions start start_questions question5 both
last-start w s i a e =
    let (y₁, e₁) = first-later 1 _ _ (λ z. omega arith) (sym (unless_number s a _ _ refl) ∙ e) in
    let (y₂, e₂) = first-later 2 _ _ (λ z. omega arith) e₁ in
    let (y₃, e₃) = first-later 3 _ _ (λ z. omega arith) e₂ in
    let (y₄, e₄) = first-later 4 _ _ (λ z. omega arith) e₃ in
    let n = last_no 6 _ (λ z. omega arith) e₄ in
    unless_number s a _ _ refl
    ∙ first_yes 1 _ y₁
    ∙ first_yes 2 _ y₂
    ∙ first_yes 3 _ y₃
    ∙ first_yes 4 _ y₄
    ∙ first_yes 5 _ refl
    ∙ first_yes 17 _ (sort_fits s i)
    ∙ gives-first_no (here refl n)

module _ {w : ℕ} where
  -- the next start or turn does not give 6
  event_not_6 : {h : Since} {x : State} → Comes w h x → (e : Event) → (happens w e x).reply.number ≢ 6
  event_not_6 {h} c e = rw c.ends at ((demand3_at c (h.events ++ e ∷ [])).each h.events e [] refl).never_6

  -- no entry of a list meets 6
  no_six : (l : List ℕ) (n : ℕ) {h : Since} {x : State} → Comes w h x → NoSix w (visits w l n x)
  unfolding visits every met_six happens
  no_six [] n c = refl
  no_six (i ∷ l) zero c = refl
  no_six (i ∷ l) (suc n) {x = x} c =
      both_true (ap not (ne_eqb _ _ (event_not_6 c (event.turns i))))
      (no_six l _ (comes_more c (event.turns i ∷ []) (after_one w (event.turns i) x)))

  list_not_6 : (l : List ℕ) (n : ℕ) {h : Since} {x : State} → Comes w h x → (many.turns w x.settings l n x.areas).reply.number ≢ 6
  list_not_6 l n {x = x} c e =
      let m = ((refuses_list w x.settings l n x.areas).six.0 e).1 in
      let q : true ≡ false = sym (no_six l n c) ∙ ap (every (λ v. not (met_six w v))) m.reached ∙ six_in w m.before m.last [] m.six in
      let y : ◌≡◌ {A = ℕ} 0 1 = cc in
      omega arith

  -- a last answer that gives 6 finds a record that does not fit: a start would give 6 also
  last-not_6 : (i : ℕ) {h : Since} {x : State} → Comes w h x → (last_answer w x.settings i x.areas).reply.number ≢ 6
  unfolding happens
  last-not_6 i {x = x} c e = event_not_6 c (event.starts (views x.settings i) i 0 0) (last-start w x.settings i x.areas e)

-- no operation gives 6
performs-not_6 : (o : Operation) {h : Since} {x : State} → ComesAt h x → (performs o x).reply.number ≢ 6
unfolding performs happens
performs-not_6 (opens s) {x = x} c = opening-not_6 s.width s x.areas
performs-not_6 (starts looks i row column) {x = x} (w, c) = subst (λ (v : ℕ). (start v x.settings looks i row column x.areas).reply.number ≢ 6) (sym (here-width c)) (event_not_6 c (event.starts looks i row column))
performs-not_6 (turns i) {x = x} (w, c) = subst (λ (v : ℕ). (turn v x.settings i x.areas).reply.number ≢ 6) (sym (here-width c)) (event_not_6 c (event.turns i))
performs-not_6 (lists l n) {x = x} (w, c) = subst (λ (v : ℕ). (many.turns v x.settings l n x.areas).reply.number ≢ 6) (sym (here-width c)) (list_not_6 l n c)
performs-not_6 (asks i) {x = x} (w, c) = subst (λ (v : ℕ). (last_answer v x.settings i x.areas).reply.number ≢ 6) (sym (here-width c)) (last-not_6 i c)

-- from a state that came of a carried out opening
meets : {x : State} → ComesAt (record { began = x; events = [] }) x → (os : List Operation) → OperationsMeet x os
meets c os =
    let (w, d) = comes_all os c in
    record {
      ends = leads (comes_all os c);
      demand3 = rw (began_width d) (demand3_at d _);
      never_6 = λ before o rest e. performs-not_6 o (comes_all before c);
    }

-- demand 3 of all operations, at every width that question 1 lets pass
pub operations : OperationsStatement
operations s a z os = meets (comes_opened s a z) os
