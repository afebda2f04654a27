-- The number of marked nodes is the number of reached nodes.
-- Relies on reach for what the marks tell.
use mathlib.Core.Path.{◌≡◌, refl, sym, ap, ◌∙◌}
use mathlib.Core.Logic.{◌≢◌, ◌⊎◌, inl, inr}
use mathlib.Core.Bool.{Bool, true, false, not}
use mathlib.Core.List.Memᴰ
use mathlib.Core.List.{List, [], ◌∷◌, Memᴰ}
use Prim.Native.Nat.{ℕ, zero, suc, ◌+◌, ◌≤◌, ◌<◌}
use native.Mathlib.Decide.{ℕ_discrete}
use native.Mathlib.Omega.{arith}
use native.Mathlib.Numerals.{add-one}
use lib.Dec.{ltb}
use lib.ListN.{length, get_or, get_or-eq_default}
use Rattle.std.proofs.Common.{take_all}
use borrow.Author.Tests.{ltb-true, ltb-false, eq-eqb, ne_eqb}
use Rattle.std.specs.Prelude.{nat_eq, count_by}
use Rattle.std.proofs.lemmas.List.Sums.{count_by_more_yes, count_by_more_no}
use Rattle.words.specs.Choice.{first_no}
use Rattle.settings.specs.declared.Settings.{Settings}
use Rattle.areas.specs.Memory.{Memory}
use Rattle.reach.specs.Marked.{Marked, Fits, things}
use Rattle.reach.specs.Reading.{questions_of}
use Rattle.reach.proofs.Exact.{not_dangling, reached_below}
use Rattle.counting.specs.Cut.{marked_among}
use Rattle.counting.specs.Count.{Falling, none, one, more, ReachedCount, count, Counted, dangling, counted}

-- the marked ones among the first k, the last first
record Marks (marks : List ℕ) (k c : ℕ) : Type 0 where
  list : List ℕ
  once : Falling list
  below : (i : ℕ) → Memᴰ i list → i < k
  all : (i : ℕ) → i < k → get_or marks i 0 ≢ 0 → Memᴰ i list
  only : (i : ℕ) → Memᴰ i list → get_or marks i 0 ≢ 0
  counts : length list ≡ c

falling_cons : (k : ℕ) (l : List ℕ) → ((i : ℕ) → Memᴰ i l → i < k) → Falling l → Falling (k ∷ l)
falling_cons k [] b f = one
falling_cons k (j ∷ l) b f = more (b j (Memᴰ.head refl)) f

-- the next mark counts if it is set
abbrev is_set : ℕ → Bool
is_set x = not (nat_eq x 0)

module _ (marks : List ℕ) (k : ℕ) where
  within : get_or marks k 0 ≢ 0 → k < length marks
  within d = by (ltb k (length marks)) refl
    where
      by : (b : Bool) → ltb k (length marks) ≡ b → k < length marks
      by true e = ltb-true _ _ e
      by false e = absurd (d (get_or-eq_default marks 0 (ltb-false _ _ e)))

  one_marked : get_or marks k 0 ≢ 0 → marked_among marks (suc k) ≡ marked_among marks k + 1
  unfolding marked_among
  one_marked d = rw (← add-one k) (count_by_more_yes is_set marks k 0 (within d) (ap not (ne_eqb _ _ d)))

  not_marked : get_or marks k 0 ≡ 0 → marked_among marks (suc k) ≡ marked_among marks k
  unfolding marked_among
  not_marked z = by (ltb k (length marks)) refl
    where
      by : (b : Bool) → ltb k (length marks) ≡ b → marked_among marks (suc k) ≡ marked_among marks k
      by true e = rw (← add-one k) (count_by_more_no is_set marks k 0 (ltb-true _ _ e) (ap not (eq-eqb _ _ z)))
      by false e = let l : length marks ≤ k = ltb-false _ _ e in ap (count_by is_set) (take_all (suc k) marks (omega arith) ∙ sym (take_all k marks l))

marks_of : (marks : List ℕ) (k : ℕ) → Marks marks k (marked_among marks k)
unfolding marked_among
marks_of marks zero =
    record { list = []; once = none; below = λ i h. absurd (Memᴰ.not-nil h); all = λ i h. absurd (omega arith); only = λ i h. absurd (Memᴰ.not-nil h); counts = refl }
marks_of marks (suc k) = by (ℕ_discrete (get_or marks k 0) 0) (marks_of marks k)
  where
    skip : Marks marks k (marked_among marks k) → get_or marks k 0 ≡ 0 → Marks marks (suc k) (marked_among marks k)
    skip L z =
        record {
          list = L.list;
          once = L.once;
          below = λ i h. let b = L.below i h in omega arith;
          all = λ i h d. by i h d (ℕ_discrete i k);
          only = L.only;
          counts = L.counts;
        }
      where
        by : (i : ℕ) → i < suc k → get_or marks i 0 ≢ 0 → Dec (i ≡ k) → Memᴰ i L.list
        by i h d (yes e) = absurd (d (ap (λ (j : ℕ). get_or marks j 0) e ∙ z))
        by i h d (no n) = L.all i (omega arith) d

    take : Marks marks k (marked_among marks k) → get_or marks k 0 ≢ 0 → Marks marks (suc k) (marked_among marks k + 1)
    take L m =
        record {
          list = k ∷ L.list;
          once = falling_cons k L.list L.below L.once;
          below = λ i h. part i h (Memᴰ.cases_cons h);
          all = λ i h d. by i h d (ℕ_discrete i k);
          only = λ i h. mark i (Memᴰ.cases_cons h);
          counts = let c = L.counts in omega arith;
        }
      where
        part : (i : ℕ) → Memᴰ i (k ∷ L.list) → (i ≡ k) ⊎ Memᴰ i L.list → i < suc k
        part i h (inl e) = omega arith
        part i h (inr t) = let b = L.below i t in omega arith

        mark : (i : ℕ) → (i ≡ k) ⊎ Memᴰ i L.list → get_or marks i 0 ≢ 0
        mark i (inl e) = rw e m
        mark i (inr t) = L.only i t

        by : (i : ℕ) → i < suc k → get_or marks i 0 ≢ 0 → Dec (i ≡ k) → Memᴰ i (k ∷ L.list)
        by i h d (yes e) = Memᴰ.head e
        by i h d (no n) = Memᴰ.tail (L.all i (omega arith) d)

    by : Dec (get_or marks k 0 ≡ 0) → Marks marks k (marked_among marks k) → Marks marks (suc k) (marked_among marks (suc k))
    by (yes z) L = rw (not_marked marks k z) (skip L z)
    by (no d) L = rw (one_marked marks k d) (take L d)

-- what a count gives by the search's answer and its marks
module _ {w : ℕ} {s : Settings} {m : Memory} {a : Bool} {marks : List ℕ} (X : Marked w s m a marks) (F : Fits s things) (z : first_no (questions_of w s m) ≡ 0) where
  pub marked_six : a ≡ true → Counted w s m (count 6 0)
  marked_six e = dangling z (X.only_then e)

  pub marked_count : a ≡ false → Counted w s m (count 0 (marked_among marks s.nodes_taken))
  marked_count e = counted z (not_dangling X e) reached
    where
      L : Marks marks s.nodes_taken (marked_among marks s.nodes_taken)
      L = marks_of marks s.nodes_taken

      reached : ReachedCount w m (marked_among marks s.nodes_taken)
      reached =
          record {
            list = L.list;
            once = L.once;
            all = λ i R. L.all i (reached_below X e i R) (X.reached_marked e i R);
            only = λ i h. X.marked_reached i (let b = L.below i h in omega (arith, b, F.nodes)) (L.only i h);
            counts = L.counts;
          }
