-- Listings among starts and turns, proved: each pixel comes exactly once or not at all, rising, by where the place is when it can first be reached.
-- Relies on rules for what stays along a sequence.
use Prim.Native.Nat.{ℕ, ◌+◌, ◌≤◌, ◌<◌}
use mathlib.Core.Path.{◌≡◌, refl, sym, ap, subst, ◌∙◌}
use mathlib.Core.Logic.{◌≢◌, ◌⊎◌, inl, inr}
use mathlib.Core.Bool.{Bool, true, false}
use mathlib.Core.List.{List, [], ◌∷◌, ◌++◌, append_assoc}
use native.Mathlib.Decide.{ℕ_discrete}
use native.Mathlib.Omega.{arith}
use native.Mathlib.Nat.{zero-add}
use borrow.Author.Tests.{eqb-true, eqb-false, eq-eqb, ne_eqb}
use Rattle.words.specs.Choice.{pick, both, first_no}
use Rattle.words.specs.Digits.{max_pixel}
use Rattle.words.proofs.Choice.{pick_true, pick_false, true_false}
use Rattle.settings.specs.declared.Settings.{Settings}
use Rattle.areas.specs.Memory.{Areas}
use Rattle.rules.specs.Operations.{AtWidth, opening, memory_of}
use Rattle.rules.specs.Lists.{State, after}
use Rattle.rules.specs.Calls.{Event, happens, state_after}
use Rattle.rules.specs.Demands.{Row}
use Rattle.rules.specs.Refusals.{Iff}
use Rattle.rules.specs.Consequences.{Shown}
use Rattle.rules.proofs.Consequences.{follows}
use Rattle.rules.proofs.Dims.{Width}
use Rattle.rules.proofs.Sequence.{after-append}
use Rattle.rules.proofs.Theorem.{opened-width}
use Rattle.rules.proofs.Staying.{moment, stays}
use Rattle.reach.specs.Reachable.{Dangling}
use Rattle.reach.specs.Reading.{questions_of}
use Rattle.std.specs.Prelude.{None, Some, Ok}
use Rattle.listing.specs.Next.{Given, Moved, end_place, moved, Smallest, NoneAbove, Next, refused, no_place, dangling, given, ended}
use Rattle.settings.specs.Refusals.{outcome_no}
use Rattle.settings.proofs.Refusals.{refusal_positive}
use Rattle.reach.proofs.Moments.{answered_at, none-dangles_at}
use Rattle.listing.specs.Sequence.{Step, event, next, events_in, state_at, place_after, is_pixel, times, Ends, Shows, Places, ListingMeets, ListingStatement, InBook, PlacedStatement}

-- the two answers of a "next" that is not refused
data Own (w : ℕ) (x : State) (place : ℕ) : Moved → Type 0 where
  gives : {p : ℕ} → Smallest w (memory_of x.areas) place p → Own w x place (moved (Ok (Some p)) (p + 1))
  ends : place ≤ end_place → NoneAbove w (memory_of x.areas) place → Own w x place (moved (Ok None) end_place)

own_next :
    {w : ℕ} {x : State} {place : ℕ} {m : Moved} → Next w x.settings (memory_of x.areas) place m
    → first_no (questions_of w x.settings (memory_of x.areas)) ≡ 0 → ¬ (Dangling w x.settings (memory_of x.areas)) → place ≤ end_place → Own w x place m
own_next (refused {r} e) z d l = absurd (refusal_positive r (sym e ∙ z))
own_next (no_place e h) z d l = absurd (omega arith)
own_next (dangling e h f) z d l = absurd (d f)
own_next (given e h S) z d l = gives S
own_next (ended e h f n) z d l = ends h n

module _ {w : ℕ} {x : State} {place : ℕ} where
  own_number : {m : Moved} → Own w x place m → outcome_no m.given ≡ 0
  own_number (gives S) = refl
  own_number (ends l n) = refl

  -- the place does not fall, and stays at most "end"
  own_place : {m : Moved} → Own w x place m → (place ≤ m.place) × (m.place ≤ end_place)
  own_place (gives S) = let a = S.above in let b = S.reachable.is_pixel_number in (omega arith, omega arith)
  own_place (ends l n) = (l, omega arith)

  -- the pixel given is the smallest, and the place after it is the pixel's
  own_pixel : {p : ℕ} {m : Moved} → Own w x place m → is_pixel p m.given ≡ true → Smallest w (memory_of x.areas) place p × (m.place ≡ p + 1)
  unfolding is_pixel
  own_pixel {p} (gives {p = q} S) e = let d : q ≡ p = eqb-true q p e in (rw d at S, ap (λ n. n + 1) d)
  own_pixel (ends l n) e = absurd (true_false (sym e))

  -- a pixel that can be reached, lies above the place and is not given still lies above it
  own_other : {p : ℕ} {m : Moved} → Own w x place m → is_pixel p m.given ≡ false → Shows w x p → place ≤ p → m.place ≤ p
  unfolding is_pixel
  own_other {p} (gives {p = q} S) e R l = let a : q ≤ p = S.least p R l in let d : q ≢ p = eqb-false q p e in omega arith
  own_other {p} (ends h n) e R l = absurd (n p R l)

  -- "end" and its place go together
  own_end : {m : Moved} → Own w x place m → m.given ≡ Ok None → m.place ≡ end_place
  own_end (gives S) e = let y : ◌≡◌ {A = ℕ} 0 1 = cc in absurd (omega arith)
  own_end (ends l n) e = refl

  at_end : {m : Moved} → Own w x place m → end_place ≤ place → m.given ≡ Ok None
  at_end (gives S) h = let a = S.above in let b = S.reachable.is_pixel_number in absurd (omega arith)
  at_end (ends l n) h = refl

given_pixel : {p : ℕ} {g : Given} → g ≡ Ok (Some p) → is_pixel p g ≡ true
unfolding is_pixel
given_pixel {p} e = ap (is_pixel p) e ∙ eq-eqb p p refl

-- the steps from a state on as listing k meets them at a place: what can be reached stays so, and no "next" of its own is refused
data Told (w k : ℕ) : State → ℕ → List Step → Type 0 where
  none : {x : State} {place : ℕ} → Told w k x place []
  happened :
      {x : State} {place : ℕ} {e : Event} {rest : List Step}
      → ((p : ℕ) → Shows w x p → Shows w (after (happens w e x)) p) → Told w k (after (happens w e x)) place rest → Told w k x place (event e ∷ rest)
  other : {x : State} {place j : ℕ} {m : Moved} {rest : List Step} → j ≢ k → Told w k x place rest → Told w k x place (next j m ∷ rest)
  own : {x : State} {place j : ℕ} {m : Moved} {rest : List Step} → j ≡ k → Own w x place m → Told w k x m.place rest → Told w k x place (next j m ∷ rest)

-- what one "next" does to the place and to the count
module _ {k j : ℕ} (m : Moved) (rest : List Step) where
  place_other : (place : ℕ) → j ≢ k → place_after k place (next j m ∷ rest) ≡ place_after k place rest
  unfolding place_after
  place_other place h = ap (λ z. place_after k z rest) (pick_false _ _ _ (ne_eqb _ _ h))

  place_own : (place : ℕ) → j ≡ k → place_after k place (next j m ∷ rest) ≡ place_after k m.place rest
  unfolding place_after
  place_own place e = ap (λ z. place_after k z rest) (pick_true _ _ _ (eq-eqb _ _ e))

  times_other : (p : ℕ) → j ≢ k → times k p (next j m ∷ rest) ≡ times k p rest
  unfolding times both pick
  times_other p h = simp (ne_eqb _ _ h, zero-add)

  times_own : (p : ℕ) {b : Bool} → j ≡ k → is_pixel p m.given ≡ b → times k p (next j m ∷ rest) ≡ pick b 1 0 + times k p rest
  unfolding times both
  times_own p e q = simp (eq-eqb _ _ e, q)

-- and what two parts do
place-append : (k : ℕ) (before : List Step) (place : ℕ) (rest : List Step) → place_after k place (before ++ rest) ≡ place_after k (place_after k place before) rest
unfolding place_after
place-append k [] place rest = refl
place-append k (event e ∷ before) place rest = place-append k before place rest
place-append k (next j m ∷ before) place rest = place-append k before _ rest

times-append : (k p : ℕ) (before rest : List Step) → times k p (before ++ rest) ≡ times k p before + times k p rest
unfolding times
times-append k p [] rest = omega arith
times-append k p (event e ∷ before) rest = times-append k p before rest
times-append k p (next j m ∷ before) rest = omega (arith, times-append k p before rest)

-- a pixel that comes lay above the place at first, lies below it at the end, and can be reached then
abbrev Came : ℕ → ℕ → State → ℕ → List Step → ℕ → Type 0
Came w k x place steps p = (times k p steps ≡ 0) ⊎ ((place ≤ p) × (p < place_after k place steps) × Shows w (state_at w x steps) p)

module _ {w k : ℕ} where
  -- the place does not fall
  grows : {x : State} {place : ℕ} {steps : List Step} → Told w k x place steps → place ≤ place_after k place steps
  unfolding place_after
  grows none = omega arith
  grows (happened f T) = grows T
  grows {place = place} (other {m = m} {rest = rest} h T) = rw (place_other m rest place h) (grows T)
  grows {place = place} (own {m = m} {rest = rest} e o T) = let (a, b) = own_place o in let c = grows T in rw (place_own m rest place e) (omega arith)

  -- what can be reached can be reached at the end
  to_end : {x : State} {place p : ℕ} {steps : List Step} → Told w k x place steps → Shows w x p → Shows w (state_at w x steps) p
  unfolding events_in state_after
  to_end none R = R
  to_end (happened f T) R = to_end T (f _ R)
  to_end (other h T) R = to_end T R
  to_end (own e o T) R = to_end T R

  came : {x : State} {place : ℕ} {steps : List Step} → Told w k x place steps → (p : ℕ) → Came w k x place steps p
  unfolding times place_after events_in state_after pick
  came none p = inl refl
  came (happened f T) p = came T p
  came {place = place} (other {m = m} {rest = rest} h T) p = rw (times_other m rest p h, place_other m rest place h) (came T p)
  came {x} {place} (own {j = j} {m = m} {rest = rest} e o T) p = by (is_pixel p m.given) refl (came T p)
    where
      by : (b : Bool) → is_pixel p m.given ≡ b → Came w k x m.place rest p → Came w k x place (next j m ∷ rest) p
      by true q c = let (S, l) = own_pixel o q in let g = grows T in inr (S.above, rw (place_own m rest place e) (omega arith), to_end T S.reachable)
      by false q (inl z) = inl (times_own m rest p e q ∙ ap (λ n. 0 + n) z)
      by false q (inr (l, u, R)) = let (a, b) = own_place o in inr (omega arith, rw (place_own m rest place e) u, R)

  -- a pixel that can be reached and is passed by the place comes once
  comes : {x : State} {place : ℕ} {steps : List Step} → Told w k x place steps → (p : ℕ) → Shows w x p → place ≤ p → p < place_after k place steps → times k p steps ≡ 1
  unfolding times place_after pick
  comes none p R l u = absurd (omega arith)
  comes (happened f T) p R l u = comes T p (f p R) l u
  comes {place = place} (other {m = m} {rest = rest} h T) p R l u = times_other m rest p h ∙ comes T p R l (rw (place_other m rest place h) at u)
  comes {x} {place} (own {j = j} {m = m} {rest = rest} e o T) p R l u = by (is_pixel p m.given) refl (came T p) (λ h. comes T p R h (rw (place_own m rest place e) at u))
    where
      by : (b : Bool) → is_pixel p m.given ≡ b → Came w k x m.place rest p → (m.place ≤ p → times k p rest ≡ 1) → times k p (next j m ∷ rest) ≡ 1
      by true q (inl z) f = times_own m rest p e q ∙ ap (λ n. 1 + n) z
      by true q (inr (h, g, S)) f = let v = (own_pixel o q).1 in absurd (omega arith)
      by false q c f = times_own m rest p e q ∙ ap (λ n. 0 + n) (f (own_other o q R l))

  -- the same after an event that places it
  comes_placed :
      {x : State} {place : ℕ} {e : Event} {rest : List Step} → Told w k x place (event e ∷ rest) → (p : ℕ) → Shows w (state_after w (e ∷ []) x) p
      → place ≤ p → p < place_after k place (event e ∷ rest) → times k p (event e ∷ rest) ≡ 1
  unfolding times place_after state_after
  comes_placed (happened f T) p R l u = comes T p R l u

  -- a part, and what follows it
  cut : (before : List Step) {x : State} {place : ℕ} (rest : List Step) → Told w k x place (before ++ rest) → Told w k x place before × Told w k (state_at w x before) (place_after k place before) rest
  unfolding place_after events_in state_after
  cut [] rest T = (none, T)
  cut (event e ∷ before) rest (happened f T) = let (A, B) = cut before rest T in (happened f A, B)
  cut (next j m ∷ before) {place = place} rest (other h T) = let (A, B) = cut before rest T in (other h A, rw (place_other m before place h) B)
  cut (next j m ∷ before) {place = place} rest (own e o T) = let (A, B) = cut before rest T in (own e o A, rw (place_own m before place e) B)

  -- a "next" of its own
  first_own : {x : State} {place : ℕ} {m : Moved} {rest : List Step} → Told w k x place (next k m ∷ rest) → Own w x place m × Told w k x m.place rest
  first_own (other h T) = absurd (h refl)
  first_own (own e o T) = (o, T)

  module _ {x : State} {steps : List Step} (T : Told w k x 0 steps) where
    parts : (before rest : List Step) → steps ≡ before ++ rest → Told w k x 0 before × Told w k (state_at w x before) (place_after k 0 before) rest
    parts before rest q = cut before rest (rw q at T)

    own_at : (before : List Step) (m : Moved) (rest : List Step) → steps ≡ before ++ next k m ∷ rest → Own w (state_at w x before) (place_after k 0 before) m × Told w k (state_at w x before) m.place rest
    own_at before m rest q = first_own (parts before (next k m ∷ rest) q).1

    -- a later "next" finds a place that is not below the one that the earlier left
    two_at :
        (before : List Step) (m : Moved) (between : List Step) (m' : Moved) (rest : List Step) → steps ≡ before ++ next k m ∷ between ++ next k m' ∷ rest
        → Own w (state_at w x before) (place_after k 0 before) m × (m.place ≤ place_after k m.place between) × Own w (state_at w (state_at w x before) between) (place_after k m.place between) m'
    two_at before m between m' rest q =
        let (o, A) = own_at before m (between ++ next k m' ∷ rest) (q ∙ append_assoc before (next k m ∷ between) (next k m' ∷ rest)) in
        let (B, C) = cut between (next k m' ∷ rest) A in
        (o, grows B, (first_own C).0)

    -- a listing that came to its "end" is past every pixel
    passes-all : Ends k steps → end_place ≤ place_after k 0 steps
    passes-all E =
        let (o, A) = own_at E.before E.last E.rest E.cut in
        let d : E.last.place ≡ end_place = own_end o E.is_end in
        let g : E.last.place ≤ place_after k E.last.place E.rest = grows A in
        rw (E.cut, place-append k E.before 0 (next k E.last ∷ E.rest), place_own E.last E.rest (place_after k 0 E.before) refl) (omega arith)

    -- a pixel above the place after a part did not come in it
    comes_in_all :
        (before rest : List Step) → steps ≡ before ++ rest → Ends k steps → (p : ℕ) → place_after k 0 before ≤ p → p ≤ max_pixel
        → (Told w k (state_at w x before) (place_after k 0 before) rest → p < place_after k (place_after k 0 before) rest → times k p rest ≡ 1) → times k p steps ≡ 1
    comes_in_all before rest q E p l h f =
        let (A, B) = parts before rest q in
        let g : end_place ≤ place_after k 0 steps = passes-all E in
        let u : p < place_after k 0 steps = omega arith in
        by (came A p) (f B (rw (q, place-append k before 0 rest) at u))
      where
        by : Came w k x 0 before p → times k p rest ≡ 1 → times k p steps ≡ 1
        by (inl z) o = rw (q, times-append k p before rest) (omega arith)
        by (inr (a, u, R)) o = absurd (omega arith)

    -- a pixel that lies below the place when it is placed did not come and does not come
    none_comes :
        (before : List Step) (e : Event) (rest : List Step) → steps ≡ before ++ event e ∷ rest → (p : ℕ) → Places w (state_at w x before) e p
        → ¬ (place_after k 0 before ≤ p) → times k p steps ≡ 0
    none_comes before e rest q p P h = let (A, B) = parts before (event e ∷ rest) q in by (came A p) (came B p)
      where
        by : Came w k x 0 before p → Came w k (state_at w x before) (place_after k 0 before) (event e ∷ rest) p → times k p steps ≡ 0
        by (inl y) (inl z) = rw (q, times-append k p before (event e ∷ rest)) (omega arith)
        by (inl y) (inr (l, u, R)) = absurd (h l)
        by (inr (l, u, R)) c = absurd (P.not_before R)

    meets : ListingMeets w x k steps
    meets =
        record {
          carried = λ before m rest q. own_number (own_at before m rest q).0;
          moves_on = λ before m rest q. let o = (own_at before m rest q).0 in (λ p e. (own_pixel o (given_pixel e)).1, own_end o);
          once = λ before rest q z E p R. let l : place_after k 0 before ≤ p = omega arith in comes_in_all before rest q E p l R.is_pixel_number (λ B u. comes B p R l u);
          rising = λ before m between m' rest q p p' e e'.
              let (o, g, o') = two_at before m between m' rest q in
              let d : m.place ≡ p + 1 = (own_pixel o (given_pixel e)).1 in
              let a = (own_pixel o' (given_pixel e')).0.above in
              omega arith;
          meanwhile = λ before e rest q E p P l. comes_in_all before (event e ∷ rest) q E p l P.after_it.is_pixel_number (λ B u. comes_placed B p P.after_it l u);
          passed = none_comes;
          over = λ before m between m' rest q e.
              let (o, g, o') = two_at before m between m' rest q in
              let d : m.place ≡ end_place = own_end o e in
              at_end o' (omega arith);
          only_shown = λ before m rest q p e. (own_pixel (own_at before m rest q).0 (given_pixel e)).0.reachable;
        }

module _ {w : ℕ} (width : Width w) (s : Settings) (a : Areas) (z : (opening w s a).reply.number ≡ 0) where
  -- a state of the sequence
  record On (y : State) : Type 0 where
    events : List Event
    is : y ≡ moment w s a events

  later : {y : State} (e : Event) → On y → On (after (happens w e y))
  unfolding state_after
  later e o = record { events = o.events ++ e ∷ []; is = ap (λ x. after (happens w e x)) o.is ∙ sym (after-append w o.events (e ∷ []) (after (opening w s a))) }

  -- there questions 1 to 3 are answered yes, every reference names something taken, and what can be reached stays so
  asked_yes : {y : State} → On y → first_no (questions_of w y.settings (memory_of y.areas)) ≡ 0
  asked_yes o = rw o.is (answered_at width s a z o.events)

  none-dangles : {y : State} → On y → ¬ (Dangling w y.settings (memory_of y.areas))
  none-dangles o = rw o.is (none-dangles_at width s a z o.events)

  shows_later : {y : State} (e : Event) → On y → (p : ℕ) → Shows w y p → Shows w (after (happens w e y)) p
  unfolding later
  shows_later {y} e o p R =
      let h : Shown w y p R.node = record { reached = R.reached; pixel_is = R.holds } in
      let t = stays width s a z o.events (e ∷ []) p R.node (rw o.is at h) in
      subst (λ x. Shows w x p) (sym (later e o).is) (record { node = R.node; reached = t.reached; holds = t.pixel_is; is_pixel_number = R.is_pixel_number })

  module _ (k : ℕ) where
    -- every "next" of listing k gives what Next says, from a state and a place on
    abbrev Asked : State → ℕ → List Step → Type 0
    Asked y place steps =
        (before : List Step) (m : Moved) (rest : List Step) → steps ≡ before ++ next k m ∷ rest
        → Next w (state_at w y before).settings (memory_of (state_at w y before).areas) (place_after k place before) m

    told : {y : State} {place : ℕ} (steps : List Step) → On y → place ≤ end_place → Asked y place steps → Told w k y place steps
    unfolding place_after events_in state_after
    told [] o h A = none
    told {y = y} (event e ∷ rest) o h A = happened (shows_later e o) (told {y = after (happens w e y)} rest (later e o) h (λ before m more q. A (event e ∷ before) m more (ap (λ l. event e ∷ l) q)))
    told {y} {place} (next j m ∷ rest) o h A = by (ℕ_discrete j k) (λ pl i B. told rest o i B)
      where
        by : Dec (j ≡ k) → ((pl : ℕ) → pl ≤ end_place → Asked y pl rest → Told w k y pl rest) → Told w k y place (next j m ∷ rest)
        by (yes e) f =
            let O = own_next (A [] m rest (ap (λ i. next i m ∷ rest) e)) (asked_yes o) (none-dangles o) h in
            own e O (f m.place (own_place O).1 (λ before m' more q. rw (place_own m before place e) at (A (next j m ∷ before) m' more (ap (λ l. next j m ∷ l) q))))
        by (no d) f = other d (f place h (λ before m' more q. rw (place_other m before place d) at (A (next j m ∷ before) m' more (ap (λ l. next j m ∷ l) q))))

-- over every width whose digits fit the pixel numbers
listings_at : (w : ℕ) → Width w → (s : Settings) → ListingStatement w s
unfolding state_after
listings_at w width s a z steps A k = meets (told width s a z k steps (record { events = []; is = refl }) (omega arith) (λ before m rest q. A before k m rest q))

-- document 02's tables, each at the width that its settings give
pub listings : AtWidth ListingStatement
listings s a z = listings_at s.width (opened-width s.width s a z) s a z

-- a pixel can be reached exactly if it stands in the book of a row
pub book_shows : {w : ℕ} {x : State} {es : List Event} (R : Row w x es) (p : ℕ) → Iff (Shows w (state_after w es x) p) (InBook R.book p)
book_shows R p = (
  λ h. (h.node, (follows R).shown-placed p h.node (record { reached = h.reached; pixel_is = h.holds })),
  λ (n, h).
      let (r, q) = R.reached.in_memory p n h in
      record { node = n; reached = r; holds = q; is_pixel_number = rw q at (R.reached.in_book n r).1 },
)

pub placed : PlacedStatement
placed w x es e before then p =
    let (to, from) = book_shows before p in
    let (to', from') = book_shows then p in (
      λ P. (λ b. P.not_before (from b), to' (rw (after-append w es (e ∷ []) x) P.after_it)),
      λ (n, b). record { not_before = λ h. n (to h); after_it = rw (after-append w es (e ∷ []) x) at (from' b) },
    )
