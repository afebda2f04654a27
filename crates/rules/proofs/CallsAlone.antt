-- Calls of one worker, each alone, answer as a list of pixels does.
-- Relies on one call alone, on that the next may follow, and on the list over one call.
use Prim.Native.Nat.{ℕ, ◌<◌}
use mathlib.Core.Path.{◌≡◌, refl, ap, ap₂, ◌∙◌}
use mathlib.Core.Bool.{true, false}
use mathlib.Core.List.{List, [], ◌∷◌, ◌++◌}
use native.Mathlib.Omega.{arith}
use Rattle.words.specs.Digits.{pixel_number}
use Rattle.settings.specs.Sizes.{fresh, views}
use Rattle.settings.specs.declared.Settings.{Settings}
use Rattle.record.specs.Kinds.{kind_no}
use Rattle.record.specs.Layout.{Record}
use Rattle.record.proofs.Records.{idle}
use Rattle.rules.specs.Opening.{opened_settings}
use Rattle.rules.specs.Asked.{question5, question7}
use Rattle.rules.specs.Operations.{AtWidth, record_of}
use Rattle.rules.specs.Lists.{State, after}
use Rattle.rules.specs.Calls.{Event, starts, state_after}
use Rattle.rules.specs.Alone.{alone_turns, turns_of}
use Rattle.rules.specs.AloneAnswers.{NoSpare}
use Rattle.rules.specs.CallsAlone.{Place, flat_answer, flat_next, flat_answers, flat_last, call_alone, answers_alone, last_alone, ShowsList, AllInside, ListLike, CallsStatement}
use Rattle.rules.proofs.Dims.{Width}
use Rattle.rules.proofs.Carried.{opening_done}
use Rattle.rules.proofs.Refused.{refuses-opening}
use Rattle.rules.proofs.Along.{Along}
use Rattle.rules.proofs.Opened.{opened_record, along_opened}
use Rattle.rules.proofs.Sequence.{run_along}
use Rattle.rules.proofs.Theorem.{opening_yes, opened-width}
use Rattle.rules.proofs.AloneAnswers.{one_shown, none-shown, answers_of, right_false}
use Rattle.rules.proofs.AloneNext.{carried, reaches_of}
use Rattle.rules.proofs.Flat.{flat_call}

-- from a state x₀ that holds what an opening leaves
module _ {w : ℕ} {s₀ : Settings} {x₀ : State} (a : Along w s₀ x₀ 0 [] []) (i : ℕ) (here : i < s₀.workers) (placing : views s₀ i ≡ false) where
  -- the state after the events: the worker is idle and holds nothing, and the table shows the list
  record Ready (es : List Event) (l : List ℕ) : Type 0 where
    idle : question7 (record_of (state_after w es x₀).areas i) ≡ true
    no_spare : NoSpare (state_after w es x₀) i
    table : ShowsList w (state_after w es x₀) l

  -- after one call
  record Called (p : Place) (es : List Event) (l : List ℕ) : Type 0 where
    events : List Event
    led : state_after w events x₀ ≡ after (call_alone w (alone_turns w s₀) i p (state_after w es x₀))
    answer_is : (call_alone w (alone_turns w s₀) i p (state_after w es x₀)).reply.answer ≡ flat_answer s₀.nodes l (pixel_number p.0 p.1)
    ready : Ready events (flat_next s₀.nodes l (pixel_number p.0 p.1))

  one_call : (p : Place) → question5 p.0 p.1 ≡ true → (es : List Event) (l : List ℕ) → Ready es l → Called p es l
  unfolding call_alone
  one_call p q es l k =
      let b = (run_along es x₀ 0 [] [] a).along in
      let F = b.fine in
      let z = carried F false i p.0 p.1 here (right_false s₀ i placing) q k.idle in
      let (n, e) = reaches_of a es false i p.0 p.1 z in
      let c = answers_of b i p.0 p.1 z k.no_spare in
      let (v, t) = flat_call (pixel_number p.0 p.1) (call_alone w (alone_turns w s₀) i p (state_after w es x₀)) k.table s₀.nodes F.table.same.nodes_is (λ m n g h. one_shown F b.top g h) c.answers in
      record {
        events = es ++ starts false i p.0 p.1 ∷ turns_of i n;
        led = e;
        answer_is = v;
        ready = record { idle = rw e c.idle; no_spare = rw e c.no_spare; table = rw e t };
      }

  -- all of them
  calls : (ps : List Place) → AllInside ps → (es : List Event) (l : List ℕ) → Ready es l → (answers_alone w (alone_turns w s₀) i ps (state_after w es x₀) ≡ flat_answers s₀.nodes l ps) × ShowsList w (last_alone w (alone_turns w s₀) i ps (state_after w es x₀)) (flat_last s₀.nodes l ps)
  unfolding AllInside answers_alone last_alone flat_answers flat_last
  calls [] u es l k = (refl, k.table)
  calls (p ∷ ps) (q, u) es l k =
      let c = one_call p q es l k in
      let (v, t) = rw c.led at (calls ps u c.events (flat_next s₀.nodes l (pixel_number p.0 p.1)) c.ready) in
      (ap₂ (λ x xs. x ∷ xs) c.answer_is v, t)

  -- nothing is placed
  list_like : x₀.settings.nodes_taken ≡ 0 → question7 (record_of x₀.areas i) ≡ true → NoSpare x₀ i → (ps : List Place) → AllInside ps → ListLike w s₀ x₀ i ps
  unfolding state_after
  list_like z q n ps u =
      let t : ShowsList w x₀ [] = record { count = z; shows = λ p m. (λ h. absurd (none-shown a.fine a.top z p m h), λ h. absurd (omega (arith, h.0))) } in
      let (v, l) = calls ps u [] [] (record { idle = q; no_spare = n; table = t }) in
      record { answers = v; table = l }

idle_7 : question7 idle ≡ true
unfolding question7 kind_no
idle_7 = refl

-- over every width whose digits fit the pixel numbers
pub calls_alone : (w : ℕ) → Width w → (s : Settings) → CallsStatement w s
unfolding opened_settings fresh
calls_alone w width s a z i h v ps u =
    let y = (refuses-opening w s a).numbered.carried.0 z in
    let q = opening_yes w s a y in
    let r = opened_record w s a i h q.1 in
    rw (opening_done w s a z) (list_like (along_opened width s a q.0 q.1) i h v refl (ap question7 r ∙ idle_7) (ap (λ (r : Record). r.head.held_node) r) ps u)

-- document 02's tables, each at the width that its settings give
pub calls-alone-all : AtWidth CallsStatement
calls-alone-all s a z = calls_alone s.width (opened-width s.width s a z) s a z
