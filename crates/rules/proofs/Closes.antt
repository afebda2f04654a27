-- "full" closes its call and changes nothing else.
-- Relies on what a turn was asked, on the kinds that take a node, and on the laws of load and store.
use Prim.Native.Nat.{ℕ, ◌+◌, ◌-◌, ◌*◌, ◌≤◌, ◌<◌}
use mathlib.Core.Path.{◌≡◌, refl, sym, ap, subst, ◌∙◌}
use mathlib.Core.Logic.{◌≢◌}
use mathlib.Core.Bool.{Bool, true, false}
use mathlib.Core.List.{List}
use native.Mathlib.Omega.{arith}
use lib.Dec.{eqb, leb, ltb}
use lib.ListN.{length, get_or}
use borrow.Author.Tests.{leb-true, leb-false, ltb-true, ltb-false, eqb-true}
use Rattle.words.specs.Blocks.{cells}
use Rattle.words.specs.Choice.{pick}
use Rattle.words.proofs.Blocks.{get_d_cells}
use Rattle.words.proofs.Choice.{pick-both, both_left, both_right}
use Rattle.settings.specs.Sizes.{worker_words, question2, views}
use Rattle.settings.specs.declared.Settings.{Settings}
use Rattle.areas.specs.Memory.{Areas}
use Rattle.record.specs.declared.Answer.TheVariants.{Full}
use Rattle.record.specs.Kinds.{kind_no, answer_of}
use Rattle.record.specs.declared.Head.{Head}
use Rattle.record.specs.Layout.{Record, load, store, store_moves, worker_place, head_at, head_from, head_list, moves_at}
use Rattle.record.specs.Fits.{fits, fits_by}
use Rattle.record.proofs.Apart.{before, after, room, place_next}
use Rattle.record.proofs.Pieces.{length-first, head_outside}
use Rattle.record.proofs.Records.{length-store, store_head_lem, head_stored}
use Rattle.rules.specs.Heads.{ended}
use Rattle.rules.specs.Asked.{question4, question6, question7}
use Rattle.rules.specs.Operations.{Result, record_of, full, full_record, last_of}
use Rattle.rules.specs.Closes.{Closes, FullCloses}
use Rattle.rules.proofs.Questions.{last_no}
use Rattle.rules.proofs.OneTurn.{turn-number, nine_is_full}
use Rattle.rules.proofs.TurnAsked.{TurnAsked, turn-asked}
use Rattle.rules.proofs.KindNumbers.{Takes, takes_low}
use Rattle.rules.proofs.Ending.{takes-number, none_left}

-- a number that is not below c is c, or above it
at_or_above : (P : ℕ → Type 0) (j c : ℕ) → c ≤ j → P c → (c < j → P j) → P j
at_or_above P j c l y n = by (ltb c j) refl
  where
    by : (b : Bool) → ltb c j ≡ b → P j
    by true e = n (ltb-true _ _ e)
    by false e = let u : j ≤ c = ltb-false _ _ e in let q : c ≡ j = omega arith in subst P q y

-- the record of a worker that is to take a node has no Move, where it fits
no_moves : (w : ℕ) (v : Bool) (s : Settings) (r : Record) (k : ℕ) → Takes k → fits_by w v s k r ≡ true → length r.moves ≡ 0
unfolding fits_by
no_moves w v s r k t =
    let l : 0 < k = (takes_low t).0 in
    let u : k < 7 = (takes_low t).1 in
    let Fits : Bool → Type 0 = λ b. b ≡ true → length r.moves ≡ 0 in
    pick-both Fits (eqb k 0)
    (λ e y. let z : k ≡ 0 = eqb-true _ _ e in absurd (omega arith))
    (λ e y. pick-both Fits (leb k 10) (λ f y. eqb-true _ _ (both_right _ _ y)) (λ f y. let z : 10 < k = leb-false _ _ f in absurd (omega arith)) (both_right _ _ y))

module _ (w : ℕ) (s : Settings) (i : ℕ) (a : Areas) where
  -- the worker's words are there
  there : TurnAsked w s i a 9 → worker_words * i + worker_words ≤ length a.workers
  unfolding question2 question4
  there y =
      let n : worker_words * s.workers ≤ length a.workers = leb-true _ _ (both_right _ _ (both_right _ _ y.two)) in
      let b : i < s.workers = ltb-true _ _ y.four in
      let l : worker_words * i + worker_words ≤ worker_words * s.workers = place_next b in
      omega arith

  -- its number of Moves is 0
  moves_none : TurnAsked w s i a 9 → moves_at a.workers i ≡ 0
  unfolding question6 fits load
  moves_none y =
      let r : Record = record_of a i in
      let t = takes-number r.head.kind (none_left s r (last_no 9 _ (λ z. omega arith) y.nine)).taking in
      sym (length-first a.workers i (moves_at a.workers i)) ∙ no_moves w (views s i) s r (kind_no r.head.kind) t (both_left _ _ y.six)

  -- the workers' words after it
  words : List ℕ
  words = store (full_record (record_of a i).head) i a.workers

  -- word j of the head is as it was loaded
  head_word : moves_at a.workers i ≡ 0 → (j : ℕ) → j < 10 → j ≢ 0 → j ≢ 7 → j ≢ 8 → get_or (head_list (full_record (record_of a i).head).head 0) j 0 ≡ get_or a.workers (worker_place i + j) 0
  unfolding head_list full_record ended load head_at head_from moves_at
  head_word e j h n₀ n₇ n₈ =
      let P : ℕ → Type 0 = λ k. get_or (head_list (full_record (record_of a i).head).head 0) k 0 ≡ get_or a.workers (worker_place i + k) 0 in
      let loaded : (k : ℕ) → k < 9 → get_or (cells a.workers (worker_place i) 9) k 0 ≡ get_or a.workers (worker_place i + k) 0 = get_d_cells a.workers (worker_place i) 9 in
      at_or_above P j 1 (omega arith) (loaded 1 (omega arith))
      (λ l₁. at_or_above P j 2 (omega arith) (loaded 2 (omega arith))
      (λ l₂. at_or_above P j 3 (omega arith) (loaded 3 (omega arith))
      (λ l₃. at_or_above P j 4 (omega arith) (loaded 4 (omega arith))
      (λ l₄. at_or_above P j 5 (omega arith) (loaded 5 (omega arith))
      (λ l₅. at_or_above P j 6 (omega arith) (loaded 6 (omega arith))
      (λ l₆. at_or_above P j 9 (omega arith) (sym e) (λ l₉. absurd (omega arith))))))))

  -- and so is it in what is stored
  in_head : TurnAsked w s i a 9 → (j : ℕ) → j < 10 → j ≢ 0 → j ≢ 7 → j ≢ 8 → get_or words (worker_place i + j) 0 ≡ get_or a.workers (worker_place i + j) 0
  unfolding words worker_place full_record
  in_head y j h n₀ n₇ n₈ =
      let t = there y in
      let c = room in
      sym (get_d_cells words (worker_place i) 10 j h)
      ∙ ap (λ (v : List ℕ). get_or v j 0) (store_head_lem w (full_record (record_of a i).head) i a.workers (omega arith))
      ∙ head_word (moves_none y) j h n₀ n₇ n₈

  words_stay : TurnAsked w s i a 9 → (k : ℕ) → k ≢ worker_words * i → k ≢ worker_words * i + 7 → k ≢ worker_words * i + 8 → get_or words k 0 ≡ get_or a.workers k 0
  unfolding words full_record store store_moves worker_place
  words_stay y k n₀ n₇ n₈ = by (ltb k (worker_words * i)) refl (ltb k (worker_words * i + 10)) refl
    where
      by : (b : Bool) → ltb k (worker_words * i) ≡ b → (c : Bool) → ltb k (worker_words * i + 10) ≡ c → get_or words k 0 ≡ get_or a.workers k 0
      by true e c f = head_outside _ 0 i a.workers k (before (ltb-true _ _ e))
      by false e false f = head_outside _ 0 i a.workers k (after (ltb-false _ _ f))
      by false e true f =
          let l : worker_words * i ≤ k = ltb-false _ _ e in
          let u : k < worker_words * i + 10 = ltb-true _ _ f in
          let q : worker_words * i + (k - worker_words * i) ≡ k = omega arith in
          rw q at (in_head y (k - worker_words * i) (omega arith) (λ z. n₀ (omega arith)) (λ z. n₇ (omega arith)) (λ z. n₈ (omega arith)))

  no_node : worker_words * i + 10 ≤ length a.workers → get_or words (worker_words * i + 8) 0 ≡ 0
  unfolding words worker_place full_record ended head_list
  no_node t =
      sym (get_d_cells words (worker_place i) 10 8 (omega arith))
      ∙ ap (λ (v : List ℕ). get_or v 8 0) (store_head_lem w (full_record (record_of a i).head) i a.workers t)

  head_is : worker_words * i + 10 ≤ length a.workers → head_at words i ≡ (full_record (record_of a i).head).head
  unfolding words worker_place
  head_is t = head_stored w (full_record (record_of a i).head) i a.workers t

  idle_of : (h : Head) → h ≡ (full_record (record_of a i).head).head → eqb (kind_no h.kind) 0 ≡ true
  unfolding full_record ended kind_no
  idle_of h e = rw e refl

  told_of : (h : Head) → h ≡ (full_record (record_of a i).head).head → last_of h ≡ Full
  unfolding full_record ended kind_no last_of answer_of pick
  told_of h e = rw e refl

  full-closes_at : TurnAsked w s i a 9 → Closes s i a (full s i a)
  unfolding full words question7 load
  full-closes_at y =
      let t = there y in
      let c = room in
      let q : worker_words * i + 10 ≤ length a.workers = omega arith in
      record {
        settings_stay = refl;
        nodes_stay = refl;
        levels_stay = refl;
        size_stays = length-store w _ i a.workers;
        words_stay = words_stay y;
        idle = idle_of _ (head_is q);
        told = told_of _ (head_is q);
        no_node = no_node q;
      }

pub full-closes : (w : ℕ) → FullCloses w
full-closes w s i a e =
    let y = turn-asked w s i a (λ k l h z. omega arith) (sym (turn-number w s i a) ∙ e) in
    subst (λ (r : Result). Closes s i a r) (sym (nine_is_full w s i a e)) (full-closes_at w s i a y)
