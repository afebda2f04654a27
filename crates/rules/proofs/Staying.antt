-- At every moment of a sequence: what is reached is taken, questions 1 to 3 of an operation that reads nodes and levels are answered yes, and a pixel that is shown stays shown by its node.
-- Relies on demand 3 and what follows from it, and on what holds along a sequence.
use Prim.Native.Nat.{ℕ, suc, ◌*◌}
use mathlib.Core.Path.{◌≡◌}
use mathlib.Core.Logic.{◌⊎◌, inl, inr}
use mathlib.Core.Bool.{true}
use mathlib.Core.List.Memᴰ
use mathlib.Core.List.Permᴰ
use mathlib.Core.List.{List, [], ◌∷◌, ◌++◌, Memᴰ}
use lib.Dec.{leb}
use lib.ListN.{length}
use Rattle.words.proofs.Choice.{both_left, both_right}
use Rattle.settings.specs.Sizes.{node_words, level_words, level_count, question1, question2, question3}
use Rattle.settings.specs.declared.Settings.{Settings}
use Rattle.areas.specs.Memory.{Areas, ref_taken}
use Rattle.rules.specs.Operations.{opening, memory_of}
use Rattle.rules.specs.Lists.{State, after}
use Rattle.rules.specs.Reached.{Reached}
use Rattle.rules.specs.Calls.{Event, happens, history, state_after, Call, Opened, opens, ends, calls, calls_from}
use Rattle.rules.specs.Demands.{Row}
use Rattle.rules.specs.Consequences.{Shown}
use Rattle.rules.proofs.Dims.{Width}
use Rattle.rules.proofs.Carried.{opening_done}
use Rattle.rules.proofs.Refused.{refuses-opening}
use Rattle.rules.proofs.FineQuestions.{yes_1, yes_2, yes_3}
use Rattle.rules.proofs.Reach.{reached_taken}
use Rattle.rules.proofs.Along.{Along}
use Rattle.rules.proofs.Opened.{along_opened}
use Rattle.rules.proofs.Sequence.{AtEnd, run_along}
use Rattle.rules.proofs.Theorem.{opening_yes, demand3}
use Rattle.rules.proofs.Consequences.{follows, new_in, perm_mem}

-- a call that ended stays an ended call of the longer sequence
calls_stay :
    (w : ℕ) (es more : List Event) (x : State) (k : ℕ) (os : List Opened) {c : Call}
    → Memᴰ c (calls_from k os (history w es x)) → Memᴰ c (calls_from k os (history w (es ++ more) x))
unfolding history calls_from
calls_stay w [] more x k os i = absurd (Memᴰ.not-nil i)
calls_stay w (e ∷ es) more x k os {c} i = by (calls_stay w es more x' (suc k) os') (Memᴰ.append_cases first i)
  where
    first : List Call
    first = ends e k (happens w e x).reply os

    os' : List Opened
    os' = opens e k (happens w e x).reply os

    x' : State
    x' = after (happens w e x)

    rest : List Event → List Call
    rest fs = calls_from (suc k) os' (history w fs x')

    by : (Memᴰ c (rest es) → Memᴰ c (rest (es ++ more))) → Memᴰ c first ⊎ Memᴰ c (rest es) → Memᴰ c (first ++ rest (es ++ more))
    by f (inl j) = Memᴰ.append_left (rest (es ++ more)) j
    by f (inr j) = Memᴰ.append_right first (f j)

-- a pixel that is shown was placed by a "new", which stands in the longer sequence's row too
shown-stays : {w : ℕ} {x : State} (es more : List Event) → Row w x es → Row w x (es ++ more) → (p n : ℕ) → Shown w (state_after w es x) p n → Shown w (state_after w (es ++ more) x) p n
unfolding calls
shown-stays {w} {x} es more R R' p n s =
    let (c, i, q, a) = new_in p n R.reads ((follows R).shown-placed p n s) in
    let j = (follows R').in_row c (calls_stay w es more x 0 [] (perm_mem (Permᴰ.symm R.all-calls) i)) in
    rw q at ((follows R').said c n j (inl a)).1

-- the state after a part of a sequence from an opening
abbrev pub moment : ℕ → Settings → Areas → List Event → State
moment w s a es = state_after w es (after (opening w s a))

module _ {w : ℕ} (width : Width w) (s : Settings) (a : Areas) (z : (opening w s a).reply.number ≡ 0) where
  opened_along : Along w s (after (opening w s a)) 0 [] []
  opened_along =
      let (y₁, y₂) = opening_yes w s a ((refuses-opening w s a).numbered.carried.0 z) in
      rw (opening_done w s a z) (along_opened width s a y₁ y₂)

  at_moment : (es : List Event) → AtEnd w s (moment w s a es) ([] ++ calls_from 0 [] (history w es (after (opening w s a))))
  at_moment es = run_along es _ 0 [] [] opened_along

  -- what is reached is taken
  pub taken_at : (es : List Event) {r : ℕ} → Reached w (memory_of (moment w s a es).areas) r → ref_taken (moment w s a es).settings r ≡ true
  taken_at es R = let A = (at_moment es).along in reached_taken A.fine.table A.fine.inv.structure A.top R

  -- questions 1 and 3
  pub yes_1_at : (es : List Event) → question1 (moment w s a es).settings ≡ true
  yes_1_at es = yes_1 (at_moment es).along.fine

  pub yes_3_at : (es : List Event) → question3 w (moment w s a es).settings ≡ true
  yes_3_at es = yes_3 (at_moment es).along.fine

  -- nodes and levels have their words
  pub rooms_at :
      (es : List Event)
      → (leb (node_words * (moment w s a es).settings.nodes) (length (moment w s a es).areas.nodes) ≡ true)
      × (leb (level_words w * level_count w (moment w s a es).settings) (length (moment w s a es).areas.levels) ≡ true)
  unfolding question2
  rooms_at es = let q = yes_2 (at_moment es).along.fine in (both_left _ _ q, both_left _ _ (both_right _ _ q))

  -- a pixel that is shown stays shown by its node
  pub stays : (es more : List Event) (p n : ℕ) → Shown w (moment w s a es) p n → Shown w (moment w s a (es ++ more)) p n
  stays es more = shown-stays es more (demand3 w width s a z es).row (demand3 w width s a z (es ++ more)).row
