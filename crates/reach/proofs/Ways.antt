-- The ways through the functions of the search, one law for each: from what the calls give to what the function ensures.
-- Relies on Things for references, on Exact for what holds of a search.
use mathlib.Core.Path.{◌≡◌, refl, ap, ◌∙◌}
use mathlib.Core.Bool.{Bool, true, false}
use mathlib.Core.List.{List, []}
use Prim.Native.Nat.{ℕ, zero, suc, ◌+◌, ◌*◌, ◌-◌, ◌≤◌, ◌<◌}
use native.Mathlib.Omega.{arith}
use native.Mathlib.Numerals.{add-one}
use native.Mathlib.Nat.{zero-add, suc-add}
use mir.Syntax.{w32}
use mir.Val as val
use lib.Dec.{eqb}
use lib.ListN.{length, get_or, replicate}
use borrow.Author.Tests.{ltb-true, le-ltb, lt-ltb}
use Rattle.words.proofs.Choice.{pick-both, pick_true, both_false_left}
use Rattle.words.specs.Choice.{pick, both}
use Rattle.words.specs.Digits.{base}
use Rattle.settings.specs.declared.Settings.{Settings}
use Rattle.settings.specs.Sizes.{max_nodes, level_words}
use Rattle.areas.specs.Memory.{memory, none, entry_at, level_taken, ref_taken}
use Rattle.reach.specs.Cut.{Search, Room, searched, thing_of, met, met_entries, met_level, met_previous, expanded, goes_on, round, rounds, unsearched}
use Rattle.reach.specs.Marked.{Marked, Fits, things}
use Rattle.reach.proofs.Marks.{ones-le, ones_room}
use Rattle.reach.proofs.Things.{thing_below}
use Rattle.reach.proofs.Exact.{rounds_done, tells_reached}

-- the thing of a taken reference has a mark
pub thing_fits : {s : Settings} (r : ℕ) → ref_taken s r ≡ true → Fits s things → thing_of r < things
thing_fits r e F = thing_below F r e

-- and so is that of a taken level, and a word holds it
module _ {s : Settings} (g : ℕ) (e : level_taken s g ≡ true) (F : Fits s things) where
  pub level_fits : max_nodes + g < things
  unfolding level_taken
  level_fits = let l : g < s.levels_taken = ltb-true _ _ e in omega (arith, F.levels)

  pub level_word : val.Fits w32 (max_nodes + g)
  level_word = let l = level_fits in record { fits = omega arith }

-- a thing that is not marked finds room in the queue
pub room_left : (marks queue : List ℕ) (t : ℕ) → Room marks queue → t < things → get_or marks t 0 ≡ 0 → length queue < things
room_left marks queue t R h z =
    let l : t < length marks = let e = R.all in omega arith in
    let a = ones_room marks t l z in
    let b = R.all in
    let c = R.counted in
    omega arith

-- the queue holds no more than all things
pub within_things : (marks queue : List ℕ) {k : ℕ} → Room marks queue → k < length queue → k + 1 ≤ things
within_things marks queue R h = let a = ones-le marks in let b = R.all in let c = R.counted in omega arith

-- once a reference named nothing taken, the search stays as it is
module _ (s : Settings) (x : Search) (d : x.dangling ≡ true) where
  met_stays : (r : ℕ) → met s x r ≡ x
  unfolding met
  met_stays r = pick_true _ _ _ d

  pub previous_stays : (p : ℕ) → met_previous s x p ≡ x
  unfolding met_previous met_level
  previous_stays p = pick-both (λ y. y ≡ x) (eqb p none) (λ _. refl) (λ _. pick_true _ _ _ d)

-- the entries of a level are met
module _ (w : ℕ) (s : Settings) (levels : List ℕ) (g : ℕ) (x : Search) where
  entries_stay : (n k : ℕ) → (met_entries w s levels g x n).dangling ≡ true → met_entries w s levels g x (k + n) ≡ met_entries w s levels g x n
  unfolding met_entries
  entries_stay n zero d = rw zero-add refl
  entries_stay n (suc k) d =
      let i = entries_stay n k d in
      rw suc-add (met_stays s (met_entries w s levels g x (k + n)) (ap (λ (y : Search). y.dangling) i ∙ d) (entry_at w levels g (k + n)) ∙ i)

  -- one entry more: the word at its place
  module _ (e : ℕ) {marks queue : List ℕ} {r first : ℕ} (a : r ≡ get_or levels (first + e) 0) (b : first ≡ level_words w * g + 2) (c : met_entries w s levels g x e ≡ searched marks queue false) where
    pub entries_more : {y : Search} → met s (searched marks queue false) r ≡ y → met_entries w s levels g x (e + 1) ≡ y
    unfolding met_entries entry_at
    entries_more h = rw (add-one, c, ← b, ← a) h

    pub entries_dangle : {m q : List ℕ} → e < base w → met s (searched marks queue false) r ≡ searched m q true → met_entries w s levels g x (base w) ≡ searched m q true
    entries_dangle l h =
        let i = entries_more h in
        let k : base w - (e + 1) + (e + 1) ≡ base w = omega arith in
        rw (← k) (entries_stay (e + 1) (base w - (e + 1)) (ap (λ (y : Search). y.dangling) i) ∙ i)

both_false_right : (a : Bool) → both a false ≡ false
unfolding both
both_false_right true = refl
both_false_right false = refl

-- the root is met, and what the things of the queue refer to, one after the other
module _ (w : ℕ) (s : Settings) (nodes levels : List ℕ) (n : ℕ) where
  pub rounds_none : {m q : List ℕ} {y : Search} → met s (searched m q false) 0 ≡ y → m ≡ replicate n 0 → q ≡ [] → rounds w s (memory nodes levels) n 0 ≡ y
  unfolding rounds unsearched
  rounds_none a b c = rw (← b, ← c) a

  module _ (k : ℕ) {m q : List ℕ} where
    pub rounds_more : {t : ℕ} {y : Search} → rounds w s (memory nodes levels) n k ≡ searched m q false → expanded w s (memory nodes levels) (searched m q false) t ≡ y → t ≡ get_or q k 0 → k < length q → rounds w s (memory nodes levels) n (k + 1) ≡ y
    unfolding rounds round goes_on both pick
    rounds_more c a b l = rw (add-one, c) (simp (lt-ltb _ _ l, ← b) a)

    -- the search ends
    pub rounds_dangle : Fits s n → rounds w s (memory nodes levels) n k ≡ searched m q true → Marked w s (memory nodes levels) true m
    unfolding goes_on both
    rounds_dangle F c = tells_reached F (searched m q true) k (rw c at (rounds_done {w = w} {m = memory nodes levels} F k)) (both_false_right _)

    pub rounds_over : Fits s n → rounds w s (memory nodes levels) n k ≡ searched m q false → length q ≤ k → Marked w s (memory nodes levels) false m
    unfolding goes_on both
    rounds_over F c l = tells_reached F (searched m q false) k (rw c at (rounds_done {w = w} {m = memory nodes levels} F k)) (both_false_left _ (le-ltb _ _ l))
