-- The refusals' numbers: none is 0, and no two have the same.
-- Relies on nothing.
use mathlib.Core.Path.{◌≡◌, refl, sym, ap, ◌∙◌}
use mathlib.Core.List.{List, [], ◌∷◌}
use Prim.Native.Nat.{ℕ}
use lib.ListN.{get_or}
use native.Mathlib.Omega.{arith}
use Rattle.settings.specs.declared.Refusal.{Refusal}
use Rattle.settings.specs.declared.Refusal.TheVariants.{Settings, Area, Counts, Worker, Pixel, Memory, Busy, Idle, Full, Line, Place, Sort}
use Rattle.settings.specs.Refusals.{refusal_no}

-- 0 tells that nothing refuses
pub refusal_positive : (r : Refusal) → refusal_no r ≡ 0 → ⊥
refusal_positive Settings e = omega arith
refusal_positive Area e = omega arith
refusal_positive Counts e = omega arith
refusal_positive Worker e = omega arith
refusal_positive Pixel e = omega arith
refusal_positive Memory e = omega arith
refusal_positive Busy e = omega arith
refusal_positive Idle e = omega arith
refusal_positive Full e = omega arith
refusal_positive Line e = omega arith
refusal_positive Place e = omega arith
refusal_positive Sort e = omega arith

-- by number; the numbers between are none's
refusals : List Refusal
refusals = Sort ∷ Settings ∷ Area ∷ Counts ∷ Worker ∷ Pixel ∷ Memory ∷ Busy ∷ Idle ∷ Full ∷ Line ∷ Place ∷ Sort ∷ Sort ∷ Sort ∷ Sort ∷ Sort ∷ Sort ∷ []

numbered : (r : Refusal) → get_or refusals (refusal_no r) Sort ≡ r
unfolding refusals
numbered Settings = refl
numbered Area = refl
numbered Counts = refl
numbered Worker = refl
numbered Pixel = refl
numbered Memory = refl
numbered Busy = refl
numbered Idle = refl
numbered Full = refl
numbered Line = refl
numbered Place = refl
numbered Sort = refl

-- a number is one refusal's
pub same_refusal : (r r' : Refusal) → refusal_no r ≡ refusal_no r' → r ≡ r'
same_refusal r r' e = sym (numbered r) ∙ (ap (λ (n : ℕ). get_or refusals n Sort) e ∙ numbered r')
