-- Questions 1 to 4 in the code's cut: the ways through it, what a yes to all says, and the questions that follow them.
-- Relies on settings for questions 1 to 3.
use mathlib.Core.Path.{◌≡◌, refl, sym, ◌∙◌}
use mathlib.Core.Bool.{Bool, true, false}
use mathlib.Core.List.{List, [], ◌∷◌}
use Prim.Native.Nat.{ℕ, ◌≤◌}
use lib.Dec.{eqb, ltb}
use borrow.Author.Tests.{ne_eqb, eqb-true, eqb-false}
use Rattle.words.specs.Choice.{pick, Question, asks, first_no}
use Rattle.words.specs.Digits.{DigitWidth}
use Rattle.settings.specs.declared.Settings.{Settings}
use Rattle.settings.specs.Sizes.{max_limit}
use Rattle.settings.specs.Cut.{first_three}
use Rattle.settings.proofs.Laws.{ranges, three_yes}
use Rattle.rules.specs.Asked.{question4}
use Rattle.table.specs.Cut.{first_four}

-- a number, and another that counts where the first is 0: where the whole is 0 both are
pub both_zero : (f x : ℕ) → pick (eqb f 0) x f ≡ 0 → (f ≡ 0) × (x ≡ 0)
unfolding pick
both_zero f x e = go (eqb f 0) refl
  where
    go : (b : Bool) → eqb f 0 ≡ b → (f ≡ 0) × (x ≡ 0)
    go true t = (eqb-true _ _ t, simp t at e)
    go false t = let z : f ≡ 0 = simp t at e in absurd (eqb-false _ _ t z)

-- the ways through questions 1 to 4
module _ (w : ℕ) (s : Settings) (i n g k : ℕ) where
  -- a yes to all four: the width is one of the four, the chain limit is in range
  pub four_wide : {q : ℕ} → q ≡ first_four w s i n g k → q ≡ 0 → DigitWidth s.width
  unfolding first_four
  four_wide a e =
      let z = both_zero (first_three w s n g k) _ (sym a ∙ e) in
      (ranges s (three_yes w s n g k z.0).0).width

  pub four_limit : {q : ℕ} → q ≡ first_four w s i n g k → q ≡ 0 → s.limit ≤ max_limit
  unfolding first_four
  four_limit a e =
      let z = both_zero (first_three w s n g k) _ (sym a ∙ e) in
      (ranges s (three_yes w s n g k z.0).0).limit.high

-- the first no of questions that follow the first four
pub after_four :
    (a b c d : Bool) (l : List Question)
    → let t = first_no (asks 1 a ∷ asks 2 b ∷ asks 3 c ∷ []) in
    let f = pick (eqb t 0) (pick d 0 4) t in
    first_no (asks 1 a ∷ asks 2 b ∷ asks 3 c ∷ asks 4 d ∷ l) ≡ pick (eqb f 0) (first_no l) f
unfolding first_no pick
after_four false b c d l = refl
after_four true false c d l = refl
after_four true true false d l = refl
after_four true true true false l = refl
after_four true true true true l = refl
