-- A turn in the code's parts is the turn that document 01 defines.
-- Relies on rules and table for the questions, on record for the number of a kind.
use Prim.Native.Nat.{ℕ}
use mathlib.Core.Path.{◌≡◌, refl, sym, ap, ◌∙◌}
use mathlib.Core.Bool.{Bool, true, false, not}
use mathlib.Core.List.{[], ◌∷◌}
use native.Mathlib.Omega.{arith}
use lib.Dec.{eqb}
use lib.ListN.{length}
use borrow.Author.Tests.{eqb-true}
use Rattle.words.specs.Choice.{pick, both, asks, first_no}
use Rattle.settings.specs.Sizes.{question1, question3, views}
use Rattle.settings.specs.Cut.{first_three}
use Rattle.settings.specs.declared.Settings.{Settings}
use Rattle.areas.specs.Memory.{Areas, Memory}
use Rattle.record.specs.declared.Kind.{Kind}
use Rattle.record.specs.declared.Kind.TheVariants.{Idle}
use Rattle.record.specs.Kinds.{kind_no, kind_of}
use Rattle.record.proofs.Numbers.{kind_back}
use Rattle.record.specs.Layout.{Record}
use Rattle.record.specs.Fits.{fits}
use Rattle.rules.specs.Acts.{act}
use Rattle.rules.specs.Asked.{reads_by, question4, question6, question7, question8, question9}
use Rattle.rules.specs.Operations.{refused, unless_refused, question2_of, record_of, memory_of, taken, full, full_record, turn, turn_questions}
use Rattle.steps.specs.Tried.{unless_six, unless_nine}
use Rattle.table.specs.Cut.{first_four}
use Rattle.turns.specs.Cut.{tried_of, finished, turn_as, turn_here}

idle_kind : (k : Kind) → kind_no k ≡ 0 → k ≡ Idle
unfolding kind_no
idle_kind k z = sym (kind_back k) ∙ ap kind_of z ∙ kind_back Idle

reads-idle : (w : ℕ) (s : Settings) (r : Record) (m : Memory) → reads_by Idle w s r.head r.moves m ≡ true
unfolding reads_by
reads-idle w s r m = refl

-- an idle record is asked nothing but that it fits
idle-reads : (w : ℕ) (s : Settings) (r : Record) (m : Memory) → question7 r ≡ true → reads_by r.head.kind w s r.head r.moves m ≡ true
unfolding question7
idle-reads w s r m q = by r.head.kind (eqb-true _ _ q)
  where
    by : (k : Kind) → kind_no k ≡ 0 → reads_by k w s r.head r.moves m ≡ true
    by k z = ap (λ x. reads_by x w s r.head r.moves m) (idle_kind k z) ∙ reads-idle w s r m

-- the answers of the questions, one by one
cut : (q₁ q₂ q₃ q₄ fit idle reads left : Bool) (w : ℕ) (s : Settings) (i : ℕ) (a : Areas) → (idle ≡ true → reads ≡ true)
    → let t = first_no (asks 1 q₁ ∷ asks 2 q₂ ∷ asks 3 q₃ ∷ []) in
    let f = pick (eqb t 0) (pick q₄ 0 4) t in
    let n = first_no (asks 1 q₁ ∷ asks 2 q₂ ∷ asks 3 q₃ ∷ asks 4 q₄ ∷ asks 6 (both fit reads) ∷ asks 8 (not idle) ∷ asks 9 left ∷ []) in
    let r = record_of a i in
    let u = unless_six reads s r.head r.moves (memory_of a) (unless_nine left s r.head (memory_of a) (act w (views s i) s r (memory_of a))) in
    pick (eqb f 0) (pick fit (pick idle (refused 8 s a) (finished u i s a)) (refused 6 s a)) (refused f s a)
    ≡ pick (eqb n 9) (full s i a) (unless_refused n s a (taken (act w (views s i) s r (memory_of a)) i a.workers))
unfolding first_no pick both unless_six unless_nine finished unless_refused taken full full_record
cut false q₂ q₃ q₄ fit idle reads left w s i a h = refl
cut true false q₃ q₄ fit idle reads left w s i a h = refl
cut true true false q₄ fit idle reads left w s i a h = refl
cut true true true false fit idle reads left w s i a h = refl
cut true true true true false idle reads left w s i a h = refl
cut true true true true true true true left w s i a h = refl
cut true true true true true true false left w s i a h = let z : false ≡ true = h refl in let y : ◌≡◌ {A = ℕ} 0 1 = cc in absurd (omega arith)
cut true true true true true false false left w s i a h = refl
cut true true true true true false true true w s i a h = refl
cut true true true true true false true false w s i a h = refl

-- a turn is what the code's parts give
pub turn_cut : (w : ℕ) (s : Settings) (i : ℕ) (a : Areas)
    → pick (eqb (first_four w s i (length a.nodes) (length a.levels) (length a.workers)) 0) (turn_here w s i a) (refused (first_four w s i (length a.nodes) (length a.levels) (length a.workers)) s a)
    ≡ turn w s i a
unfolding turn turn_questions turn_as tried_of act first_four first_three question6 question8
turn_cut w s i a =
    cut (question1 s) (question2_of w s a) (question3 w s) (question4 s i) (fits w (views s i) s (record_of a i)) (question7 (record_of a i))
    (reads_by (record_of a i).head.kind w s (record_of a i).head (record_of a i).moves (memory_of a)) (question9 s (record_of a i)) w s i a
    (idle-reads w s (record_of a i) (memory_of a))
