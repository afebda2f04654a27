-- Going back by previous words, one word at a time, over any width; and what the way says of question 6 and of the level to go on at.
-- Relies on rules for the way.
use mathlib.Core.Path.{◌≡◌, refl, sym, ap, ◌∙◌}
use mathlib.Core.Bool.{Bool, true, false}
use mathlib.Core.List.{List}
use Prim.Native.Nat.{ℕ, zero, suc, ◌-◌, ◌≤◌, ◌<◌}
use native.Mathlib.Omega.{arith}
use borrow.Author.Tests.{eq-eqb, ne_eqb, lt-ltb, le-ltb}
use Rattle.std.specs.Prelude.{Some, None, is_some}
use Rattle.words.specs.Choice.{pick, both}
use Rattle.words.specs.Digits.{depths}
use Rattle.areas.specs.Memory.{is_node, named, previous_at}
use Rattle.rules.specs.Steps.{child_of, back_meets}
use Rattle.rules.specs.Asked.{goes_back}
use Rattle.steps.specs.Cut.{walk_within, back_cut}

-- n previous words may still be read from level a on
module _ (w taken : ℕ) (levels : List ℕ) (g : ℕ) where
  pub walk_met : (n a : ℕ) → 0 < n → previous_at w levels a ≡ g → walk_within w taken levels n g a ≡ Some a
  unfolding walk_within back_meets child_of pick
  walk_met zero a h e = absurd (omega arith)
  walk_met (suc n) a h e = simp (eq-eqb _ _ e)

  pub walk_lost : (n a : ℕ) → 0 < n → (previous_at w levels a ≡ g → ⊥) → taken ≤ previous_at w levels a → walk_within w taken levels n g a ≡ None
  unfolding walk_within back_meets pick both
  walk_lost zero a h e t = absurd (omega arith)
  walk_lost (suc n) a h e t = simp (ne_eqb _ _ e, le-ltb _ _ t)

  pub walk_on :
      (n a : ℕ) → 0 < n → (previous_at w levels a ≡ g → ⊥) → previous_at w levels a < taken
      → walk_within w taken levels n g a ≡ walk_within w taken levels (n - 1) g (previous_at w levels a)
  unfolding walk_within back_meets child_of pick both
  walk_on zero a h e t = absurd (omega arith)
  walk_on (suc n) a h e t = let m : suc n - 1 ≡ n = omega arith in simp (ne_eqb _ _ e, lt-ltb _ _ t, m)

  pub walk_none : (n a : ℕ) → n ≡ 0 → walk_within w taken levels n g a ≡ None
  unfolding walk_within back_meets pick
  walk_none n a e = simp e

-- what is asked and done with a word that was met
module _ (w taken level word : ℕ) (levels : List ℕ) where
  meets_is : is_some (back_cut w taken level word levels) ≡ goes_back w taken level word levels
  unfolding back_cut walk_within goes_back pick
  meets_is = by (is_node word) (back_meets w taken levels (depths w - 1) level (named word))
    where
      by : (q r : Bool) → is_some (pick q (Some 0) (pick r (Some (child_of w levels (depths w - 1) level (named word))) None)) ≡ pick q true r
      by true r = refl
      by false true = refl
      by false false = refl

  pub meets_some : {c : ℕ} → Some c ≡ back_cut w taken level word levels → goes_back w taken level word levels ≡ true
  meets_some e = sym meets_is ∙ sym (ap is_some e)

  pub meets_none : None ≡ back_cut w taken level word levels → goes_back w taken level word levels ≡ false
  meets_none e = sym meets_is ∙ sym (ap is_some e)

  pub child_is : {c : ℕ} → Some c ≡ back_cut w taken level word levels → is_node word ≡ false → c ≡ child_of w levels (depths w - 1) level (named word)
  unfolding back_cut walk_within pick
  child_is {c} e f = by (back_meets w taken levels (depths w - 1) level (named word)) (simp f at e)
    where
      by : (r : Bool) → Some c ≡ pick r (Some (child_of w levels (depths w - 1) level (named word))) None → c ≡ child_of w levels (depths w - 1) level (named word)
      by true e = cc
      by false e = cc
