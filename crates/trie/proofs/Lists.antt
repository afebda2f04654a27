-- Lists of nodes: membership, no repetition, a list cut at an element.
-- Relies on the language's library alone.
use mathlib.Core.Path.{◌≡◌, refl, sym, ap, ap₂, ◌∙◌}
use mathlib.Core.Logic.{◌≢◌, ◌⊎◌, inl, inr}
use mathlib.Core.List.Memᴰ
use mathlib.Core.List.{List, [], ◌∷◌, ◌++◌, Memᴰ}
use Prim.Native.Nat.{ℕ, zero, suc, ◌≤◌, ◌<◌}
use native.Mathlib.Omega.{arith}
use native.Mathlib.Decide.{ℕ_discrete}
use lib.ListN.{length, length-append, take}

infix 50 ◌∈◌
abbrev pub ◌∈◌ : ℕ → List ℕ → Type 0
◌∈◌ n ns = Memᴰ n ns

-- no element stands twice
abbrev pub NoDup : List ℕ → Type 0
NoDup [] = Unit {0}
NoDup (n ∷ ns) = (¬ (n ∈ ns)) × NoDup ns

pub ∈-last : (ns : List ℕ) (n : ℕ) → n ∈ ns ++ (n ∷ [])
∈-last ns n = Memᴰ.append_right ns (Memᴰ.head refl)

pub no_members : (ns : List ℕ) → ((n : ℕ) → ¬ (n ∈ ns)) → ns ≡ []
no_members [] h = refl
no_members (n ∷ ns) h = absurd (h n (Memᴰ.head refl))

pub nodup_snoc : (ns : List ℕ) (n : ℕ) → NoDup ns → ¬ (n ∈ ns) → NoDup (ns ++ (n ∷ []))
nodup_snoc [] n d h = (Memᴰ.not-nil, tt)
nodup_snoc (x ∷ ns) n d h = (λ m. fresh (Memᴰ.append_cases ns m), nodup_snoc ns n d.1 (λ m. h (Memᴰ.tail m)))
  where
    fresh : (x ∈ ns) ⊎ (x ∈ (n ∷ [])) → ⊥
    fresh (inl m) = d.0 m
    fresh (inr m) = h (Memᴰ.head (sym (Memᴰ.eq_of_singleton m)))

pub nodup_init : (ns : List ℕ) (n : ℕ) → NoDup (ns ++ (n ∷ [])) → NoDup ns × (¬ (n ∈ ns))
nodup_init [] n d = (tt, Memᴰ.not-nil)
nodup_init (x ∷ ns) n d = let r = nodup_init ns n d.1 in ((λ m. d.0 (Memᴰ.append_left (n ∷ []) m), r.0), λ m. step r.1 (Memᴰ.cases_cons m))
  where
    step : ¬ (n ∈ ns) → (n ≡ x) ⊎ (n ∈ ns) → ⊥
    step k (inl e) = d.0 (Memᴰ.cast (sym e) (∈-last ns n))
    step k (inr m) = k m

-- a member cuts its list in two
pub split-mem : {n : ℕ} {ns : List ℕ} → n ∈ ns → (pre : List ℕ) × (post : List ℕ) × (ns ≡ pre ++ n ∷ post)
split-mem (Memᴰ.head {xs = xs} e) = ([], xs, rw e refl)
split-mem (Memᴰ.tail {x = x} i) = let r = split-mem i in (x ∷ r.0, r.1, ap (λ l. x ∷ l) r.2)

-- where the element n of a list stands that is also cut in another way: in the first part, or in the second, and then the first part is before n
pub data Cut (pre : List ℕ) (n : ℕ) (keep left : List ℕ) : Type 0 where
  kept : (rest : List ℕ) → keep ≡ pre ++ n ∷ rest → Cut pre n keep left
  went : n ∈ left → ((m : ℕ) → m ∈ keep → m ∈ pre) → Cut pre n keep left

pub cut_append : (pre : List ℕ) (n : ℕ) (post keep left : List ℕ) → pre ++ n ∷ post ≡ keep ++ left → Cut pre n keep left
cut_append pre n post [] left e = went (rw (← e) (Memᴰ.append_right pre (Memᴰ.head refl))) (λ m i. absurd (Memᴰ.not-nil i))
cut_append [] n post (x ∷ keep) left e = let h : n ≡ x = cc in kept keep (ap (λ a. a ∷ keep) (sym h))
cut_append (y ∷ pre) n post (x ∷ keep) left e =
    let h : x ≡ y = cc in
    let t : pre ++ n ∷ post ≡ keep ++ left = cc in
    by h (cut_append pre n post keep left t)
  where
    by : x ≡ y → Cut pre n keep left → Cut (y ∷ pre) n (x ∷ keep) left
    by h (kept rest q) = kept rest (ap₂ (λ a l. a ∷ l) h q)
    by h (went i f) = went i (λ m j. each m (Memᴰ.cases_cons j))
      where
        each : (m : ℕ) → (m ≡ x) ⊎ (m ∈ keep) → m ∈ (y ∷ pre)
        each m (inl e) = Memᴰ.head (e ∙ h)
        each m (inr i) = Memᴰ.tail (f m i)

pub nodup_append : (xs ys : List ℕ) → NoDup xs → NoDup ys → ((n : ℕ) → n ∈ xs → ¬ (n ∈ ys)) → NoDup (xs ++ ys)
nodup_append [] ys a b h = b
nodup_append (x ∷ xs) ys a b h = (λ i. by (Memᴰ.append_cases xs i), nodup_append xs ys a.1 b (λ n i. h n (Memᴰ.tail i)))
  where
    by : (x ∈ xs) ⊎ (x ∈ ys) → ⊥
    by (inl i) = a.0 i
    by (inr i) = h x (Memᴰ.head refl) i

-- a member that is not the middle element is in one of the sides
∈_sides : {m n : ℕ} (pre post : List ℕ) → m ∈ pre ++ n ∷ post → m ≢ n → m ∈ pre ++ post
∈_sides {m} {n} pre post i q = by (Memᴰ.append_cases pre i)
  where
    right : (m ≡ n) ⊎ (m ∈ post) → m ∈ pre ++ post
    right (inl e) = absurd (q e)
    right (inr j) = Memᴰ.append_right pre j

    by : (m ∈ pre) ⊎ (m ∈ (n ∷ post)) → m ∈ pre ++ post
    by (inl j) = Memᴰ.append_left post j
    by (inr j) = right (Memᴰ.cases_cons j)

-- a list without repetition is no longer than one that holds all its elements
pub nodup_le : (xs ys : List ℕ) → NoDup xs → ((n : ℕ) → n ∈ xs → n ∈ ys) → length xs ≤ length ys
nodup_le [] ys d h = omega arith
nodup_le (x ∷ xs) ys d h =
    let (pre, post, is) = split-mem (h x (Memᴰ.head refl)) in
    let k = nodup_le xs (pre ++ post) d.1 (λ n i. ∈_sides pre post (rw is at (h n (Memᴰ.tail i))) (λ e. d.0 (rw e at i))) in
    rw (is, length-append) (omega (arith, length-append pre post))

below : ℕ → List ℕ
below zero = []
below (suc n) = n ∷ below n

length_below : (n : ℕ) → length (below n) ≡ n
unfolding below
length_below zero = refl
length_below (suc n) = ap suc (length_below n)

∈_below : (n : ℕ) {m : ℕ} → m < n → m ∈ below n
unfolding below
∈_below zero h = absurd (omega arith)
∈_below (suc n) {m} h = by (ℕ_discrete m n) (λ k. ∈_below n k)
  where
    by : Dec (m ≡ n) → (m < n → m ∈ below n) → m ∈ below (suc n)
    by (yes e) f = Memᴰ.head e
    by (no e) f = Memᴰ.tail (f (omega arith))

-- numbers below n without repetition are at most n
pub nodup_below : (xs : List ℕ) (n : ℕ) → NoDup xs → ((m : ℕ) → m ∈ xs → m < n) → length xs ≤ n
nodup_below xs n d h = rw (length_below n) at (nodup_le xs (below n) d (λ m i. ∈_below n (h m i)))

pub ∈-take : (b : ℕ) (ns : List ℕ) {n : ℕ} → n ∈ take b ns → n ∈ ns
∈-take zero ns i = absurd (Memᴰ.not-nil i)
∈-take (suc b) [] i = i
∈-take (suc b) (m ∷ ns) {n} i = by (Memᴰ.cases_cons i) (λ j. ∈-take b ns j)
  where
    by : (n ≡ m) ⊎ (n ∈ take b ns) → (n ∈ take b ns → n ∈ ns) → n ∈ (m ∷ ns)
    by (inl e) f = Memᴰ.head e
    by (inr j) f = Memᴰ.tail (f j)

-- a list that is not empty has a last element
pub snoc_view : (ns : List ℕ) → 0 < length ns → (pre : List ℕ) × (n : ℕ) × (ns ≡ pre ++ (n ∷ []))
snoc_view [] h = absurd (omega arith)
snoc_view (n ∷ []) h = ([], n, refl)
snoc_view (n ∷ m ∷ ns) h = let (pre, l, e) = snoc_view (m ∷ ns) (omega arith) in (n ∷ pre, l, ap (λ t. n ∷ t) e)

pub no_length : (ns : List ℕ) → length ns ≡ 0 → ns ≡ []
no_length [] e = refl
no_length (n ∷ ns) e = absurd (omega arith)
