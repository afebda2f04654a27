-- A worker's record is stored in its own words: its Moves have room there, if it fits, also with one Move more, one less, one changed.
-- Relies on record for the words of a record and for what fits.
use Prim.Native.Nat.{ℕ, ◌+◌, ◌*◌, ◌≤◌, ◌<◌}
use mathlib.Core.Path.{◌≡◌, refl, sym, ◌∙◌}
use mathlib.Core.Logic.{◌⊎◌, inl, inr}
use mathlib.Core.Bool.{Bool, true, false}
use mathlib.Core.List.{List, [], ◌∷◌}
use native.Mathlib.Omega.{arith}
use lib.Dec.{eqb, leb}
use lib.ListN.{get_or, length, length-set}
use borrow.Author.Tests.{leb-true, eqb-true}
use Rattle.words.proofs.Choice.{pick-both, pick_false, both_right, true_false}
use Rattle.settings.specs.Sizes.{head_words, move_words, max_moves, most_moves, worker_words}
use Rattle.settings.specs.declared.Settings.{Settings}
use Rattle.record.specs.declared.Move.{Move}
use Rattle.record.specs.Layout.{Record, new_move, worker_place, store_head, store}
use Rattle.record.specs.Fits.{moving_fits, fits_by, role_fits}
use Rattle.record.proofs.Apart.{before, after, place_next, room}
use Rattle.record.proofs.Pieces.{AllSized, new_sized, moves_outside, head_outside}
use Rattle.record.proofs.Records.{length-store}
use Rattle.rules.specs.Heads.{remember, forget}
use Rattle.rules.specs.Acts.{inner, outer}
use Rattle.rules.specs.Excess.{SameFrom}

-- Moves that a worker's words have room for
pub record FitWords (ms : List Move) : Type 0 where
  pub sized : AllSized ms
  pub room : head_words + move_words * length ms ≤ worker_words

-- what lies outside of the worker's words stays
pub store-others : (w : ℕ) (r : Record) (i : ℕ) (l : List ℕ) → FitWords r.moves → (k : ℕ) → (k < worker_words * i) ⊎ (worker_words * i + worker_words ≤ k) → get_or (store r i l) k 0 ≡ get_or l k 0
unfolding store worker_place
store-others w r i l f k (inl h) =
    moves_outside w i r.moves (store_head r.head (length r.moves) i l) k f.sized (before (omega arith))
    ∙ head_outside r.head (length r.moves) i l k (before h)
store-others w r i l f k (inr h) =
    let c : head_words + move_words * length r.moves ≤ worker_words = f.room in
    moves_outside w i r.moves (store_head r.head (length r.moves) i l) k f.sized (after (omega arith))
    ∙ head_outside r.head (length r.moves) i l k (after (omega arith))

-- the record of one of the first n workers
pub same_store : (w : ℕ) {n : ℕ} (r : Record) (i : ℕ) (l : List ℕ) → FitWords r.moves → i < n → SameFrom (worker_words * n) l (store r i l)
same_store w {n} r i l f h =
    let t = place_next h in record { size = length-store w r i l; words = λ k g. store-others w r i l f k (inr (omega arith)) }

-- no Move
pub fit_none : FitWords []
fit_none = record { sized = tt; room = let r = room in omega arith }

-- as many as may be one inside another
pub fit_few : (w : ℕ) → max_moves w ≤ most_moves → (ms : List Move) → AllSized ms → length ms ≤ max_moves w → FitWords ms
fit_few w k ms z l = record { sized = z; room = let r = room in omega arith }

-- a record that fits, of a worker that is not idle, has few enough
pub few_moves : (w : ℕ) (v : Bool) (s : Settings) (k : ℕ) (r : Record) → eqb k 0 ≡ false → fits_by w v s k r ≡ true → length r.moves ≤ max_moves w
unfolding fits_by moving_fits
few_moves w v s k r z e =
    pick-both (λ b. b ≡ true → length r.moves ≤ max_moves w) (leb k 10)
    (λ t y. let n : length r.moves ≡ 0 = eqb-true _ _ (both_right _ _ y) in omega arith)
    (λ t. pick-both (λ b. b ≡ true → length r.moves ≤ max_moves w) (leb k 22) (λ u y. moving (both_right _ _ y)) (λ u y. absurd (true_false (sym y))))
    (both_right (role_fits v k) _ (sym (pick_false _ _ _ z) ∙ e))
  where
    moving : moving_fits w s k r.moves ≡ true → length r.moves ≤ max_moves w
    moving = pick-both (λ b. b ≡ true → length r.moves ≤ max_moves w) (leb (length r.moves) (max_moves w)) (λ t y. leb-true _ _ t) (λ t y. absurd (true_false (sym y)))

module _ (w : ℕ) where
  pub one_move : (home child : ℕ) → FitWords (new_move home child ∷ [])
  one_move home child = record { sized = (new_sized home child, tt); room = omega arith }

  -- the innermost Move and those around it
  pub whole : (ms : List Move) → FitWords ms → FitWords (inner ms ∷ outer ms)
  unfolding inner outer
  whole [] f = one_move 0 0
  whole (v ∷ os) f = f

  pub around : (ms : List Move) → FitWords ms → FitWords (outer ms)
  unfolding outer
  around [] f = f
  around (v ∷ os) f = record { sized = f.sized.1; room = let r = f.room in omega arith }

  -- one Move more
  pub pushed : max_moves w ≤ most_moves → (ms : List Move) (home child : ℕ) → FitWords ms → length ms < max_moves w → FitWords (new_move home child ∷ inner ms ∷ outer ms)
  unfolding inner outer
  pushed k [] home child f l = record { sized = (new_sized home child, (new_sized 0 0, tt)); room = omega arith }
  pushed k (v ∷ os) home child f l = record { sized = (new_sized home child, f.sized); room = let r = room in omega arith }

  -- the innermost Move with as many words
  changed : {v v' : Move} {os : List Move} → length v'.nodes ≡ length v.nodes → FitWords (v ∷ os) → FitWords (v' ∷ os)
  changed e f = record { sized = (e ∙ f.sized.0, f.sized.1); room = f.room }

  pub remembered : {v : Move} {os : List Move} (i : ℕ) → FitWords (v ∷ os) → FitWords (remember i v ∷ os)
  unfolding remember
  remembered {v} i = changed (length-set v.nodes v.count i)

  pub forgotten : {v : Move} {os : List Move} → FitWords (v ∷ os) → FitWords (forget v ∷ os)
  unfolding forget
  forgotten = changed refl
