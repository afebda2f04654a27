-- A "next" has exactly one answer: settings, memory and place of any content fix what is given.
-- Relies on Ways for the answer by what was seen, on reach for a search that has ended.
use Prim.Native.Nat.{ℕ, ◌+◌, ◌≤◌, ◌<◌}
use mathlib.Core.Path.{◌≡◌, refl, sym, ap, ◌∙◌}
use mathlib.Core.Bool.{Bool, true, false}
use native.Mathlib.Decide.{ℕ_discrete}
use native.Mathlib.Omega.{arith}
use lib.Dec.{leb}
use Rattle.std.specs.Prelude.{Option, None, Some, Ok, Err}
use lib.ListN.{length}
use borrow.Author.Tests.{leb-true, leb-false}
use Rattle.words.specs.Choice.{first_no}
use Rattle.settings.specs.declared.Settings.{Settings}
use Rattle.settings.specs.declared.Refusal.TheVariants.{Memory as Dangles, Place}
use Rattle.areas.specs.Memory.{Memory}
use Rattle.reach.specs.Reading.{questions_of}
use Rattle.reach.proofs.Reading.{asked_refusal}
use Rattle.settings.proofs.Refusals.{same_refusal, refusal_positive}
use Rattle.reach.proofs.Whole.{Whole, whole}
use Rattle.listing.specs.Cut.{least_of, SeenFrom}
use Rattle.listing.specs.Next.{Moved, end_place, moved, Smallest, Next, refused, no_place, dangling, given, ended, OneAnswer}
use Rattle.listing.proofs.Least.{seen}
use Rattle.listing.proofs.Ways.{next_given, next_ended}

smallest_one : {w : ℕ} {m : Memory} {place p q : ℕ} → Smallest w m place p → Smallest w m place q → p ≡ q
smallest_one {p = p} {q = q} S T =
    let a : p ≤ q = S.least q T.reachable T.above in
    let b : q ≤ p = T.least p S.reachable S.above in
    omega arith

-- a place below a pixel is not past "end"
pub in_range : {w : ℕ} {m : Memory} {place p : ℕ} → Smallest w m place p → ¬ (end_place < place)
in_range S l = let a = S.above in let b = S.reachable.is_pixel_number in omega arith

same_answer : (w : ℕ) (s : Settings) (m : Memory) (place : ℕ) (r r' : Moved) → Next w s m place r → Next w s m place r' → r ≡ r'
same_answer w s m place _ _ (refused e) (refused e') = ap (λ r. moved (Err r) place) (same_refusal _ _ (sym e ∙ e'))
same_answer w s m place _ _ (refused {r} e) (no_place z l) = absurd (refusal_positive r (sym e ∙ z))
same_answer w s m place _ _ (refused {r} e) (dangling z l d) = absurd (refusal_positive r (sym e ∙ z))
same_answer w s m place _ _ (refused {r} e) (given z d S) = absurd (refusal_positive r (sym e ∙ z))
same_answer w s m place _ _ (refused {r} e) (ended z l d n) = absurd (refusal_positive r (sym e ∙ z))
same_answer w s m place _ _ (no_place z l) (refused {r} e) = absurd (refusal_positive r (sym e ∙ z))
same_answer w s m place _ _ (no_place z l) (no_place z' l') = refl
same_answer w s m place _ _ (no_place z l) (dangling z' l' d) = absurd (omega arith)
same_answer w s m place _ _ (no_place z l) (given z' d S) = absurd (in_range S l)
same_answer w s m place _ _ (no_place z l) (ended z' l' d n) = absurd (omega arith)
same_answer w s m place _ _ (dangling z l d) (refused {r} e) = absurd (refusal_positive r (sym e ∙ z))
same_answer w s m place _ _ (dangling z l d) (no_place z' l') = absurd (omega arith)
same_answer w s m place _ _ (dangling z l d) (dangling z' l' d') = refl
same_answer w s m place _ _ (dangling z l d) (given z' d' S) = absurd (d' d)
same_answer w s m place _ _ (dangling z l d) (ended z' l' d' n) = absurd (d' d)
same_answer w s m place _ _ (given z d S) (refused {r} e) = absurd (refusal_positive r (sym e ∙ z))
same_answer w s m place _ _ (given z d S) (no_place z' l') = absurd (in_range S l')
same_answer w s m place _ _ (given z d S) (dangling z' l' d') = absurd (d d')
same_answer w s m place _ _ (given z d S) (given z' d' T) = ap (λ p. moved (Ok (Some p)) (p + 1)) (smallest_one S T)
same_answer w s m place _ _ (given z d S) (ended z' l' d' n) = absurd (n _ S.reachable S.above)
same_answer w s m place _ _ (ended z l d n) (refused {r} e) = absurd (refusal_positive r (sym e ∙ z))
same_answer w s m place _ _ (ended z l d n) (no_place z' l') = absurd (omega arith)
same_answer w s m place _ _ (ended z l d n) (dangling z' l' d') = absurd (d d')
same_answer w s m place _ _ (ended z l d n) (given z' d' S) = absurd (n _ S.reachable S.above)
same_answer w s m place _ _ (ended z l d n) (ended z' l' d' n') = refl

-- the search carried on to its end
module _ (s : Settings) (m : Memory) (place : ℕ) (z : first_no (questions_of s.width s m) ≡ 0) (l : place ≤ end_place) where
  answered : (o : Option ℕ) → SeenFrom s.width s m place (Ok o) → (r : Moved) × Next s.width s m place r
  answered (Some p) S = (moved (Ok (Some p)) (p + 1), next_given s m.nodes m.levels (sym z) place l p S)
  answered None S = (moved (Ok None) end_place, next_ended s m.nodes m.levels (sym z) place l S)

  searched : (W : Whole s m) (b : Bool) → W.dangling ≡ b → (r : Moved) × Next s.width s m place r
  searched W true e = (moved (Err Dangles) place, dangling z l (W.tells.only_then e))
  searched W false e = answered (least_of m.nodes W.marks place s.nodes_taken) (seen place (rw e at W.tells) W.room)

-- so there is an answer
some_answer : (s : Settings) (m : Memory) (place : ℕ) → (r : Moved) × Next s.width s m place r
some_answer s m place = by (ℕ_discrete q 0) (leb place end_place) refl
  where
    q : ℕ
    q = first_no (questions_of s.width s m)

    by : Dec (q ≡ 0) → (b : Bool) → leb place end_place ≡ b → (r : Moved) × Next s.width s m place r
    by (no h) b e = let (r, k) = asked_refusal s.width s (length m.nodes) (length m.levels) h in (moved (Err r) place, refused k)
    by (yes z) false e = (moved (Err Place) place, no_place z (leb-false _ _ e))
    by (yes z) true e = let W = whole s m z in searched s m place z (leb-true _ _ e) W W.dangling refl

pub one_answer : OneAnswer
one_answer s m place = let (r, n) = some_answer s m place in (r, n, λ r' n'. same_answer s.width s m place r' r n' n)
