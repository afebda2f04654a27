-- The four ends of a call, read by the book of the row. The book's pairs are the placed nodes with their pixels.
-- Relies on the row and its book, and on the theory's world.
use mathlib.Core.Path.{◌≡◌, refl, sym, ap, ap₂, ◌∙◌}
use mathlib.Core.Logic.{◌⊎◌, inl, inr}
use mathlib.Core.List.Memᴰ
use mathlib.Core.List.{List, [], ◌∷◌, ◌++◌, append-nil, map, Memᴰ}
use Prim.Native.Nat.{ℕ, suc, ◌≤◌}
use native.Mathlib.Decide.{ℕ_discrete}
use lib.ListN.{take}
use Rattle.trie.proofs.Digits.{Dims}
use Rattle.trie.proofs.Lists.{◌∈◌}
use Rattle.trie.proofs.World.{World, Placed, Other, Partition}
use Rattle.trie.proofs.Search.{Unseen}
use Rattle.trie.proofs.Place.{place, CanPlace}
use Rattle.record.specs.declared.Answer.TheVariants.{New, Found, Full, Absent}
use Rattle.rules.specs.Calls.{Call, Book, HasPixel, Reads}
use Rattle.rules.specs.Calls as calls
use Rattle.rules.proofs.RowBook.{RowOk, Since, row-append, row-full}

unfoldable pub pairs : (ℕ → ℕ) → List ℕ → Book
pairs pixel ns = map (λ n. (pixel n, n)) ns

pairs_one : (f : ℕ → ℕ) (n K : ℕ) → K ≡ f n → pairs f (n ∷ []) ≡ (K, n) ∷ []
unfolding pairs
pairs_one f n K e = ap (λ a. (a, n) ∷ []) (sym e)

pairs-append : (f : ℕ → ℕ) (xs ys : List ℕ) → pairs f (xs ++ ys) ≡ pairs f xs ++ pairs f ys
unfolding pairs
pairs-append f [] ys = refl
pairs-append f (x ∷ xs) ys = ap (λ l. (f x, x) ∷ l) (pairs-append f xs ys)

-- pixels that stayed
pub pairs_stay : (f g : ℕ → ℕ) (ns : List ℕ) → ((n : ℕ) → n ∈ ns → g n ≡ f n) → pairs g ns ≡ pairs f ns
unfolding pairs
pairs_stay f g [] h = refl
pairs_stay f g (n ∷ ns) h = ap₂ (λ a l. (a, n) ∷ l) (h n (Memᴰ.head refl)) (pairs_stay f g ns (λ m i. h m (Memᴰ.tail i)))

pub in_pairs : (f : ℕ → ℕ) (ns : List ℕ) {n : ℕ} → n ∈ ns → Memᴰ {A = ℕ × ℕ} (f n, n) (pairs f ns)
unfolding pairs
in_pairs f ns i = Memᴰ.map (λ n. (f n, n)) i

pub of_pairs : (f : ℕ → ℕ) (ns : List ℕ) {K n : ℕ} → Memᴰ {A = ℕ × ℕ} (K, n) (pairs f ns) → (n ∈ ns) × (f n ≡ K)
unfolding pairs
of_pairs f ns {K} {n} i =
    let (m, j, e) = Memᴰ.of_map (λ n. (f n, n)) ns i in
    let same : m ≡ n = ap (λ p. p.1) e in
    (rw same at j, rw same at (ap (λ p. p.0) e))

has? : (f : ℕ → ℕ) (K : ℕ) (ns : List ℕ) → Dec (HasPixel (pairs f ns) K)
has? f K [] = no (λ h. Memᴰ.not-nil (of_pairs f [] h.1).0)
has? f K (n ∷ ns) = by (ℕ_discrete (f n) K) (has? f K ns)
  where
    more : HasPixel (pairs f ns) K → HasPixel (pairs f (n ∷ ns)) K
    more (m, i) = let (j, e) = of_pairs f ns i in (m, rw e at (in_pairs f (n ∷ ns) (Memᴰ.tail j)))

    by : Dec (f n ≡ K) → Dec (HasPixel (pairs f ns) K) → Dec (HasPixel (pairs f (n ∷ ns)) K)
    by (yes e) d = yes (n, rw e at (in_pairs f (n ∷ ns) (Memᴰ.head refl)))
    by (no e) (yes h) = yes (more h)
    by (no e) (no h) = no (λ (m, i). split m (of_pairs f (n ∷ ns) i))
      where
        at : (m : ℕ) → (m ≡ n) ⊎ (m ∈ ns) → f m ≡ K → ⊥
        at m (inl y) q = e (ap f (sym y) ∙ q)
        at m (inr j) q = h (m, rw q at (in_pairs f ns j))

        split : (m : ℕ) → (m ∈ (n ∷ ns)) × (f m ≡ K) → ⊥
        split m (j, q) = at m (Memᴰ.cases_cons j) q

abbrev pub book_of : {δ : Dims} → World δ → Book
book_of w = pairs w.pixel w.book

module _ {δ : Dims} {w : World δ} (Q : Partition w) where
  -- "new"
  pub ends_new_lem : {H e n : ℕ} (k : CanPlace w H e n) (c : Call) → c.pixel ≡ w.pixel n → c.answer ≡ New n → Reads (book_of w) c (book_of (place w H e n))
  ends_new_lem {H} {e} {n} k c p a =
      calls.new n a
      (λ h. let (i, q) = of_pairs w.pixel w.book h.1 in k.new h.0 (Q.noted-placed h.0 i) (q ∙ p))
      (λ h. k.held (Q.noted-placed n (of_pairs w.pixel w.book h.1).0))
      (pairs-append w.pixel w.book (n ∷ []) ∙ ap (λ l. pairs w.pixel w.book ++ l) (pairs_one w.pixel n c.pixel p))

  -- "found"
  pub ends_found : {R : ℕ} → Placed w R → (c : Call) → c.pixel ≡ w.pixel R → c.answer ≡ Found R → Reads (book_of w) c (book_of w)
  ends_found {R} p c q a = calls.found {b = book_of w} {c = c} R a (rw q (in_pairs w.pixel w.book (Q.noted R p))) refl

  -- "absent": no placed node has the pixel
  pub ends_absent : (c : Call) → ((m : ℕ) → Placed w m → Other w c.pixel m) → c.answer ≡ Absent → Reads (book_of w) c (book_of w)
  ends_absent c u a = calls.absent a (λ h. let (i, q) = of_pairs w.pixel w.book h.1 in u h.0 (Q.noted-placed h.0 i) q) refl

  -- "full": the row has a place for the call, and the book stays
  pub ends-full : {row : List Call} {now b : ℕ} (r : RowOk row (book_of w) now) (f : Call) → f.start ≤ f.end → f.end ≡ now → f.answer ≡ Full → Since row (pairs w.pixel (take b w.book)) f.start → Unseen w f.pixel b → (pre : List Call) × (post : List Call) × (row ≡ pre ++ post) × RowOk (pre ++ f ∷ post) (book_of w) (suc now)
  ends-full {row} {now} {b} r f t e a since u = by (has? w.pixel f.pixel w.book)
    where
      by : Dec (HasPixel (book_of w) f.pixel) → (pre : List Call) × (post : List Call) × (row ≡ pre ++ post) × RowOk (pre ++ f ∷ post) (book_of w) (suc now)
      by (yes h) = row-full r f t e a since (λ y. let (i, q) = of_pairs w.pixel (take b w.book) y.1 in u.unseen y.0 i q) h
      by (no h) = (row, [], sym (append-nil row), row-append r f t e (calls.full a h refl))
