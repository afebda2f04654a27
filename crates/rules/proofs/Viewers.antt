-- A viewer's turn answers "open", "found" or "absent" and changes its own record alone; along a sequence that holds nothing; "absent" is given to viewers alone.
-- Relies on what a turn was asked, on the kinds of a viewer's call, on what the record tells and on the roles along a sequence.
use Prim.Native.Nat.{ℕ, ◌<◌}
use mathlib.Core.Path.{◌≡◌, refl, sym, ap, subst, ◌∙◌}
use mathlib.Core.Logic.{◌≢◌}
use mathlib.Core.Bool.{Bool, true, false, not}
use mathlib.Core.List.{List, []}
use native.Mathlib.Decide.{ℕ_discrete}
use native.Mathlib.Omega.{arith}
use lib.Dec.{eqb}
use Rattle.words.proofs.Choice.{pick-both, pick_false, both_left}
use Rattle.settings.specs.Sizes.{views}
use Rattle.settings.specs.declared.Settings.{Settings}
use Rattle.areas.specs.Memory.{Areas, Memory, is_node}
use Rattle.record.specs.declared.Answer.TheVariants.{Nothing, Full, Absent}
use Rattle.record.specs.declared.Head.{Head}
use Rattle.record.specs.declared.Kind.{Kind}
use Rattle.record.specs.declared.Move.{Move}
use Rattle.record.specs.Layout.{Record}
use Rattle.record.specs.Fits.{fits, fits_by}
use Rattle.rules.specs.Asked.{question6, question7, question8}
use Rattle.rules.specs.Steps.{Step}
use Rattle.rules.specs.Searching as searching
use Rattle.rules.specs.Acts.{act, act_by}
use Rattle.rules.specs.Operations.{AtWidth, Result, record_of, memory_of, taken, full, turn}
use Rattle.rules.specs.Lists.{State}
use Rattle.rules.specs.Calls.{Event, state_after}
use Rattle.rules.specs.Viewers.{ToViewer, OnlyLooks, ViewersLook, AbsentToViewers, HoldsNothing}
use Rattle.rules.specs.Viewers as viewers
use Rattle.rules.proofs.Questions.{last_no}
use Rattle.rules.proofs.OneTurn.{turn-number, done_number, nine_is_full, turn-refused}
use Rattle.rules.proofs.TurnAsked.{TurnAsked, turn-asked}
use Rattle.rules.proofs.Ending.{none_left}
use Rattle.rules.proofs.Roles.{Viewing, at_look, at_read, at_tail, at_follow, viewing_kind, of_viewer_lem, takes-not}
use Rattle.rules.proofs.Striking.{viewer_still}
use Rattle.rules.proofs.Tells.{act_tells}
use Rattle.rules.proofs.Dims.{Width}
use Rattle.rules.proofs.Carried.{opening_done}
use Rattle.rules.proofs.Refused.{refuses-opening}
use Rattle.rules.proofs.Invariant.{HoldsNone}
use Rattle.rules.proofs.Along.{Along}
use Rattle.rules.proofs.Opened.{along_opened}
use Rattle.rules.proofs.Sequence.{run_along}
use Rattle.rules.proofs.Theorem.{opening_yes, opened-width}

-- the answer of a viewer's turn
module _ (w : ℕ) (s : Settings) (h : Head) (m : Memory) where
  abbrev Says : Step → Type 0
  Says t = ToViewer t.answer

  viewed_says : (h' : Head) → Says (searching.viewed true s h' m)
  unfolding searching.viewed
  viewed_says h' = pick-both Says _ (λ e. viewers.absent) (λ e. viewers.stays_open)

  met_says : (c g word : ℕ) → Says (searching.met s h c g word m)
  unfolding searching.met searching.met_node
  met_says c g word = pick-both Says (is_node word) (λ e. pick-both Says (eqb _ h.pixel) (λ q. viewers.found _) (λ q. viewers.stays_open)) (λ e. viewers.stays_open)

  viewer_says : {k : Kind} (ms : List Move) → Viewing k → Says (act_by k w true s h ms m)
  unfolding act_by searching.look searching.tail searching.read searching.read_word searching.follow searching.follow_word
  viewer_says ms at_look = viewed_says _
  viewer_says ms at_read = met_says _ _ _
  viewer_says ms at_tail = viewed_says _
  viewer_says ms at_follow = met_says _ _ _

-- a viewer's record that fits is at one of a viewer's kinds
viewing_of : (w : ℕ) (s : Settings) (r : Record) (m : Memory) → question6 w true s r m ≡ true → question7 r ≡ false → Viewing r.head.kind
unfolding question6 question7 fits fits_by
viewing_of w s r m y b = viewing_kind r.head.kind (of_viewer_lem _ (both_left _ _ (sym (pick_false _ _ _ b) ∙ both_left _ _ y)))

module _ (w : ℕ) (s : Settings) (i : ℕ) (a : Areas) (view : views s i ≡ true) where
  at_kind : {n : ℕ} → TurnAsked w s i a n → Viewing (record_of a i).head.kind
  at_kind y = viewing_of w s (record_of a i) (memory_of a) (subst (λ (v : Bool). question6 w v s (record_of a i) (memory_of a) ≡ true) view y.six) y.busy

  done : (turn w s i a).reply.number ≡ 0 → OnlyLooks s a (taken (act w true s (record_of a i) (memory_of a)) i a.workers)
  unfolding taken act
  done z =
      let v = at_kind (turn-asked w s i a (λ k l u e. omega arith) (sym (turn-number w s i a) ∙ z)) in
      let t = viewer_still w s (record_of a i).head (memory_of a) (record_of a i).moves v in
      record {
        answers = viewer_says w s (record_of a i).head (memory_of a) (record_of a i).moves v;
        settings_stay = t.settings_is;
        nodes_stay = ap (λ (m : Memory). m.nodes) t.memory_is;
        levels_stay = ap (λ (m : Memory). m.levels) t.memory_is;
      }

  pub never_nine : (turn w s i a).reply.number ≢ 9
  never_nine z =
      let y = turn-asked w s i a (λ k l u e. omega arith) (sym (turn-number w s i a) ∙ z) in
      takes-not (at_kind y) (none_left s (record_of a i) (last_no 9 _ (λ e. omega arith) y.nine)).taking

  looks_only : OnlyLooks s a (turn w s i a)
  looks_only = by (ℕ_discrete (turn w s i a).reply.number 0)
    where
      by : Dec ((turn w s i a).reply.number ≡ 0) → OnlyLooks s a (turn w s i a)
      by (yes z) = subst (OnlyLooks s a) (sym (done_number w s i a z ∙ ap (λ (v : Bool). taken (act w v s (record_of a i) (memory_of a)) i a.workers) view)) (done z)
      by (no z) = subst (OnlyLooks s a) (sym (turn-refused w s i a z never_nine)) (record { answers = viewers.refused; settings_stay = refl; nodes_stay = refl; levels_stay = refl })

pub viewers_look : (w : ℕ) → ViewersLook w
viewers_look w s i a v = looks_only w s i a v

module _ (w : ℕ) (s : Settings) (i : ℕ) (a : Areas) where
  said_absent : (turn w s i a).reply.answer ≡ Absent → views s i ≡ true
  unfolding taken full question8
  said_absent e = by (ℕ_discrete (turn w s i a).reply.number 0) (ℕ_discrete (turn w s i a).reply.number 9)
    where
      told : {r : Result} → turn w s i a ≡ r → r.reply.answer ≡ Absent
      told q = ap (λ (r : Result). r.reply.answer) (sym q) ∙ e

      by : Dec ((turn w s i a).reply.number ≡ 0) → Dec ((turn w s i a).reply.number ≡ 9) → views s i ≡ true
      by (yes z) d =
          let y = turn-asked w s i a (λ k l u e. omega arith) (sym (turn-number w s i a) ∙ z) in
          (act_tells w (views s i) s (record_of a i) (memory_of a) (ap not y.busy)).viewer (told (done_number w s i a z))
      by (no z) (yes n) = let q : Full ≡ Absent = told (nine_is_full w s i a n) in let u : ◌≡◌ {A = ℕ} 0 1 = cc in absurd (omega arith)
      by (no z) (no n) = let q : Nothing ≡ Absent = told (turn-refused w s i a z n) in let u : ◌≡◌ {A = ℕ} 0 1 = cc in absurd (omega arith)

pub absent_to_viewers : (w : ℕ) → AbsentToViewers w
absent_to_viewers w s i a e = said_absent w s i a e

-- from a state that holds what an opening leaves
holds_none_of : {w : ℕ} {s₀ : Settings} {x : State} → Along w s₀ x 0 [] [] → (es : List Event) (i : ℕ) → i < s₀.workers → views s₀ i ≡ true → HoldsNone (record_of (state_after w es x).areas i).head
holds_none_of {x = x} a es i h v = ((run_along es x 0 [] [] a).along.fine.roles i h).holds_none v

-- over every width whose digits fit the pixel numbers
pub hold_nothing : (w : ℕ) → Width w → (s : Settings) → HoldsNothing w s
hold_nothing w width s a z =
    let y = (refuses-opening w s a).numbered.carried.0 z in
    rw (opening_done w s a z) (holds_none_of (along_opened width s a (opening_yes w s a y).0 (opening_yes w s a y).1))

-- document 02's tables, each at the width that its settings give
pub hold_nothing_all : AtWidth HoldsNothing
hold_nothing_all s a z = hold_nothing s.width (opened-width s.width s a z) s a z
