-- There is one flagged count, at most nodes taken: settings and memory of any content fix it.
-- Relies on reach for a search that is carried to its end, on trie for lists without a repetition.
use Prim.Native.Nat.{ℕ, ◌≤◌, ◌<◌}
use mathlib.Core.Path.{◌≡◌, refl, sym, ap, ◌∙◌}
use mathlib.Core.Logic.{◌⊎◌, inl, inr}
use mathlib.Core.Bool.{Bool, true, false}
use mathlib.Core.List.Memᴰ
use mathlib.Core.List.{List, [], ◌∷◌, Memᴰ}
use native.Mathlib.Decide.{ℕ_discrete}
use native.Mathlib.Omega.{arith}
use lib.ListN.{length}
use Rattle.words.specs.Choice.{first_no}
use Rattle.settings.specs.declared.Settings.{Settings}
use Rattle.areas.specs.Memory.{Memory, ref_taken}
use Rattle.trie.proofs.Lists.{NoDup, nodup_le, nodup_below}
use Rattle.rules.specs.Reached.{Reached}
use Rattle.reach.specs.Reachable.{Dangling}
use Rattle.reach.specs.Reading.{questions_of}
use Rattle.reach.proofs.Things.{node_taken_lem}
use Rattle.reach.proofs.Whole.{Whole, whole}
use Rattle.counting.specs.Cut.{marked_among}
use Rattle.counting.specs.Count.{Falling, none, one, more, Count, ReachedCount, count, Counted, refused, dangling, counted, OneCount}
use Rattle.counting.proofs.Marking.{marked_six, marked_count}

-- a falling list repeats nothing
falling_tail : {i : ℕ} {l : List ℕ} → Falling (i ∷ l) → Falling l
falling_tail one = none
falling_tail (more h f) = f

falling_below : {i : ℕ} (l : List ℕ) → Falling (i ∷ l) → (j : ℕ) → Memᴰ j l → j < i
falling_below [] f j m = absurd (Memᴰ.not-nil m)
falling_below {i} (k ∷ l) (more h f) j m = by (falling_below l f j) (Memᴰ.cases_cons m)
  where
    by : (Memᴰ j l → j < k) → (j ≡ k) ⊎ Memᴰ j l → j < i
    by g (inl e) = omega arith
    by g (inr t) = let b = g t in omega arith

pub falling_once : (l : List ℕ) → Falling l → NoDup l
falling_once [] f = tt
falling_once (i ∷ l) f = ((λ m. let b = falling_below l f i m in omega arith), falling_once l (falling_tail f))

-- where no reference dangles, one that is reached names something taken
names_taken : {w : ℕ} {s : Settings} {m : Memory} → ¬ (Dangling w s m) → {r : ℕ} → Reached w m r → ref_taken s r ≡ true
names_taken {w} {s} {m} d {r} R = by (ref_taken s r) refl
  where
    by : (b : Bool) → ref_taken s r ≡ b → ref_taken s r ≡ true
    by true e = e
    by false e = absurd (d (record { reference = r; reached = R; names_nothing = e }))

-- no more nodes are counted than taken
pub counted_most : {w : ℕ} {s : Settings} {m : Memory} {r : Count} → Counted w s m r → r.count ≤ s.nodes_taken
counted_most (refused h e) = omega arith
counted_most (dangling z d) = omega arith
counted_most {s = s} (counted z d C) =
    let h = nodup_below C.list s.nodes_taken (falling_once C.list C.once) (λ i k. node_taken_lem s i (names_taken d (C.only i k))) in
    omega (arith, h, C.counts)

-- there is one number of reached nodes
same_number : {w : ℕ} {m : Memory} {c d : ℕ} → ReachedCount w m c → ReachedCount w m d → c ≡ d
same_number C D =
    let a : length C.list ≤ length D.list = nodup_le C.list D.list (falling_once C.list C.once) (λ i h. D.all i (C.only i h)) in
    let b : length D.list ≤ length C.list = nodup_le D.list C.list (falling_once D.list D.once) (λ i h. C.all i (D.only i h)) in
    let p = C.counts in
    let q = D.counts in
    omega arith

same_count : (w : ℕ) (s : Settings) (m : Memory) (r r' : Count) → Counted w s m r → Counted w s m r' → r ≡ r'
same_count w s m _ _ (refused h e) (refused h' e') = ap (λ n. count n 0) (sym e ∙ e')
same_count w s m _ _ (refused h e) (dangling z d) = absurd (h (sym e ∙ z))
same_count w s m _ _ (refused h e) (counted z d C) = absurd (h (sym e ∙ z))
same_count w s m _ _ (dangling z d) (refused h e) = absurd (h (sym e ∙ z))
same_count w s m _ _ (dangling z d) (dangling z' d') = refl
same_count w s m _ _ (dangling z d) (counted z' d' C) = absurd (d' d)
same_count w s m _ _ (counted z d C) (refused h e) = absurd (h (sym e ∙ z))
same_count w s m _ _ (counted z d C) (dangling z' d') = absurd (d d')
same_count w s m _ _ (counted z d C) (counted z' d' D) = ap (λ c. count 0 c) (same_number C D)

some_count : (s : Settings) (m : Memory) → (r : Count) × Counted s.width s m r
some_count s m = by (ℕ_discrete q 0)
  where
    q : ℕ
    q = first_no (questions_of s.width s m)

    told : (z : q ≡ 0) (W : Whole s m) (b : Bool) → W.dangling ≡ b → (r : Count) × Counted s.width s m r
    told z W true e = (count 6 0, marked_six W.tells W.room z e)
    told z W false e = (count 0 (marked_among W.marks s.nodes_taken), marked_count W.tells W.room z e)

    by : Dec (q ≡ 0) → (r : Count) × Counted s.width s m r
    by (no h) = (count q 0, refused h refl)
    by (yes z) = let W = whole s m z in told z W W.dangling refl

pub one_count : OneCount
one_count s m = let (r, n) = some_count s m in (r, n, λ r' n'. same_count s.width s m r' r n' n)
