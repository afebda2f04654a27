-- "the excess untouched": every operation, over settings and memory of any content, leaves the words past those that question 2 asks for.
-- Relies on the law of an operation that asks first, and on what a turn's kinds write where its questions are answered yes.
use Prim.Native.Nat.{ℕ, zero, suc, ◌≤◌, ◌<◌}
use mathlib.Core.Path.{◌≡◌, ◌∙◌}
use mathlib.Core.Bool.{Bool, true, false}
use mathlib.Core.List.{List, [], ◌∷◌}
use native.Mathlib.Omega.{arith}
use borrow.Author.Tests.{ltb-true, eqb-true}
use Rattle.words.specs.Choice.{first_no}
use Rattle.words.proofs.Choice.{pick-both, both_left, both_right}
use Rattle.settings.specs.Sizes.{max_moves, most_moves, level_count, question1, views}
use Rattle.settings.specs.declared.Settings.{Settings}
use Rattle.settings.proofs.Laws.{ranges}
use Rattle.areas.specs.Memory.{Areas}
use Rattle.record.specs.Layout.{Record, load, moves_at}
use Rattle.record.specs.Fits.{fits}
use Rattle.record.proofs.Pieces.{first_sized}
use Rattle.rules.specs.Opening.{opened_areas}
use Rattle.rules.specs.Acts.{act}
use Rattle.rules.specs.Asked.{question4, question6, question7, question9}
use Rattle.rules.specs.Operations.{AtWidth, Result, unless_refused, memory_of, record_of, with_record, opening, start_questions, started_areas, start, turn_questions, taken, full_record, full, turn, last_answer}
use Rattle.rules.specs.Lists.{State, state, after, visits, end_state, turns_result, list_questions, turns}
use Rattle.rules.specs.Excess.{Untouched, ExcessStays}
use Rattle.rules.proofs.Questions.{first-later}
use Rattle.rules.proofs.TurnAsked.{TurnAsked, turn-asked}
use Rattle.rules.proofs.Dims.{width_of}
use Rattle.rules.proofs.Invariant.{SameSizes}
use Rattle.rules.proofs.ExcessWords.{same_refl, same_then, same_fill, same_level}
use Rattle.rules.proofs.ExcessRecords.{FitWords, same_store, fit_none, fit_few, few_moves}
use Rattle.rules.proofs.ExcessActs.{Leaves, sizes_same, kind_leaves}

untouched_refl : (w : ℕ) (s : Settings) (a : Areas) → Untouched w s a a
untouched_refl w s a = record { nodes = same_refl _ _; levels = same_refl _ _; workers = same_refl _ _ }

untouched_then : {w : ℕ} {s : Settings} {a a' a'' : Areas} → Untouched w s a a' → Untouched w s a' a'' → Untouched w s a a''
untouched_then p q =
    record {
      nodes = same_then p.nodes q.nodes;
      levels = same_then p.levels q.levels;
      workers = same_then p.workers q.workers;
    }

-- what is excess depends on the sizes alone
untouched_sizes : (w : ℕ) {s s' : Settings} {a a' : Areas} → SameSizes s s' → Untouched w s' a a' → Untouched w s a a'
unfolding level_count
untouched_sizes w z u =
    record {
      nodes = rw z.nodes_is at u.nodes;
      levels = rw (z.nodes_is, z.limit_is, z.workers_is) at u.levels;
      workers = rw z.workers_is at u.workers;
    }

-- an operation that asks first
unless_untouched : {w : ℕ} {s : Settings} {a : Areas} (n : ℕ) (done : Result) → (n ≡ 0 → Untouched w s a done.areas) → Untouched w s a (unless_refused n s a done).areas
unfolding unless_refused
unless_untouched {w} {s} {a} n done f = pick-both (λ (r : Result). Untouched w s a r.areas) _ (λ e. f (eqb-true n 0 e)) (λ e. untouched_refl w s a)

-- another record of a worker below workers
with_record_lem : (w : ℕ) (s : Settings) (i : ℕ) (r : Record) (a : Areas) → FitWords r.moves → question4 s i ≡ true → Untouched w s a (with_record i r a)
unfolding question4
with_record_lem w s i r a f q = record { nodes = same_refl _ _; levels = same_refl _ _; workers = same_store w r i a.workers f (ltb-true _ _ q) }

module _ (w : ℕ) (s : Settings) where
  opening_untouched : (a : Areas) → Untouched w s a (opening w s a).areas
  unfolding opening opened_areas level_count
  opening_untouched a =
      unless_untouched _ _ (λ z. record { nodes = same_refl _ _; levels = same_level w a.levels 0 _ _ some_level; workers = same_fill a.workers 0 _ 0 (omega arith) })
    where
      some_level : 0 < level_count w s
      some_level = omega arith

  last_untouched : (i : ℕ) (a : Areas) → Untouched w s a (last_answer w s i a).areas
  unfolding last_answer
  last_untouched i a = unless_untouched _ _ (λ z. untouched_refl w s a)

  start_untouched : (looks : Bool) (i row column : ℕ) (a : Areas) → Untouched w s a (start w s looks i row column a).areas
  unfolding start start_questions started_areas
  start_untouched looks i row column a = unless_untouched _ _ (λ z. with_record_lem w s i _ a (fit_none) (below z))
    where
      below : first_no (start_questions w s looks i row column a) ≡ 0 → question4 s i ≡ true
      below z =
          let (y₁, e₁) = first-later 1 _ _ (λ y. omega arith) z in
          let (y₂, e₂) = first-later 2 _ _ (λ y. omega arith) e₁ in
          let (y₃, e₃) = first-later 3 _ _ (λ y. omega arith) e₂ in
          (first-later 4 _ _ (λ y. omega arith) e₃).0

  -- the Moves of a record that fits, of a worker with a call open
  loaded : max_moves w ≤ most_moves → (l : List ℕ) (i : ℕ) → fits w (views s i) s (load l i) ≡ true → question7 (load l i) ≡ false → FitWords (load l i).moves
  unfolding fits question7 load
  loaded k l i e b = fit_few w k (load l i).moves (first_sized l i (moves_at l i)) (few_moves w (views s i) s _ (load l i) b e)

  -- a turn whose questions are all answered yes
  pub act-leaves : max_moves w ≤ most_moves → (i : ℕ) (a : Areas) → TurnAsked w s i a 0 → Leaves w s (memory_of a) (act w (views s i) s (record_of a i) (memory_of a))
  unfolding act question6 question9
  act-leaves k i a y =
      let r : Record = record_of a i in
      kind_leaves w k s y.three (views s i) r.head (memory_of a) r.head.kind r.moves (loaded k a.workers i (both_left _ _ y.six) y.busy) (both_right _ _ y.six) (first-later 9 _ _ (λ z. omega arith) y.nine).0

  -- a turn leaves the excess and the sizes
  record Turned (a : Areas) (r : Result) : Type 0 where
    pub areas : Untouched w s a r.areas
    pub sizes : SameSizes s r.reply.settings

  -- the Moves' room is needed only where question 1 is answered yes
  turn_untouched : (question1 s ≡ true → max_moves w ≤ most_moves) → (i : ℕ) (a : Areas) → Turned a (turn w s i a)
  unfolding turn unless_refused full full_record taken
  turn_untouched few i a =
      pick-both (Turned a) _
      (λ e. is_full (eqb-true _ _ e))
      (λ e. pick-both (Turned a) _ (λ z. is_taken (eqb-true _ _ z)) (λ z. record { areas = untouched_refl w s a; sizes = sizes_same s }))
    where
      is_full : first_no (turn_questions w s i a) ≡ 9 → Turned a (full s i a)
      is_full e =
          let y = turn-asked w s i a (λ k l h z. omega arith) e in
          record { areas = with_record_lem w s i _ a (fit_none) y.four; sizes = sizes_same s }

      is_taken : first_no (turn_questions w s i a) ≡ 0 → Turned a (taken (act w (views s i) s (record_of a i) (memory_of a)) i a.workers)
      is_taken e =
          let y = turn-asked w s i a (λ k l h z. omega arith) e in
          let t = act-leaves (few y.one) i a y in
          record {
            areas = record { nodes = t.memory.nodes; levels = t.memory.levels; workers = (with_record_lem w s i _ a t.moves y.four).workers };
            sizes = t.sizes;
          }

-- sizes that stay twice stay
sizes_then : {s s' s'' : Settings} → SameSizes s s' → SameSizes s' s'' → SameSizes s s''
sizes_then p q = record { width_is = q.width_is ∙ p.width_is; workers_is = q.workers_is ∙ p.workers_is; limit_is = q.limit_is ∙ p.limit_is; nodes_is = q.nodes_is ∙ p.nodes_is; viewers_is = q.viewers_is ∙ p.viewers_is }

-- the entries of a list that are reached
end_untouched : (w : ℕ) → max_moves w ≤ most_moves → (s : Settings) (l : List ℕ) (n : ℕ) (x : State) → SameSizes s x.settings → Untouched w s x.areas (end_state w x (visits w l n x)).areas
unfolding end_state visits
end_untouched w few s [] n x z = untouched_refl w s x.areas
end_untouched w few s (i ∷ l) zero x z = untouched_refl w s x.areas
end_untouched w few s (i ∷ l) (suc n) x z =
    let t = turn_untouched w x.settings (λ q. few) i x.areas in
    untouched_then (untouched_sizes w z t.areas) (end_untouched w few s l _ (after (turn w x.settings i x.areas)) (sizes_then z t.sizes))

turns_untouched : (w : ℕ) (s : Settings) → (question1 s ≡ true → max_moves w ≤ most_moves) → (l : List ℕ) (limit : ℕ) (a : Areas) → Untouched w s a (turns w s l limit a).areas
unfolding turns turns_result list_questions
turns_untouched w s few l limit a =
    unless_untouched _ _ (λ z. end_untouched w (few (first-later 1 _ _ (λ y. omega arith) z).0) s l limit (state s a) (sizes_same s))

-- the Moves of a width that question 1 lets pass have room
pub moves_fit_lem : (s : Settings) → question1 s ≡ true → max_moves s.width ≤ most_moves
moves_fit_lem s q = (width_of (ranges s q).width).few

pub excess_stays : AtWidth ExcessStays
excess_stays s =
    record {
      of_opening = opening_untouched s.width s;
      of_start = start_untouched s.width s;
      of_turn = λ i a. (turn_untouched s.width s (moves_fit_lem s) i a).areas;
      of_turns = turns_untouched s.width s (moves_fit_lem s);
      of_last = last_untouched s.width s;
    }
