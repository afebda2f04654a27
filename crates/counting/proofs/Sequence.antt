-- At every moment of a sequence the flagged count is the length of the book, the number of calls that ended "new", and the length of what a listing gives.
-- Relies on rules for the row of calls and its book, on listing for one "next", on trie for lists without a repetition.
use Prim.Native.Nat.{ℕ, zero, suc, ◌+◌, ◌≤◌, ◌<◌}
use mathlib.Core.Path.{◌≡◌, refl, sym, ap, ◌∙◌}
use mathlib.Core.Logic.{◌≢◌, ◌⊎◌, inl, inr}
use mathlib.Core.List.Memᴰ
use mathlib.Core.List.{List, [], ◌∷◌, ◌++◌, Memᴰ, Permᴰ}
use native.Mathlib.Decide.{ℕ_discrete}
use native.Mathlib.Omega.{arith}
use lib.ListN.{length, length-append}
use Rattle.std.specs.Prelude.{None, Some, Ok}
use Rattle.words.specs.Choice.{first_no}
use Rattle.settings.specs.declared.Settings.{Settings}
use Rattle.areas.specs.Memory.{Memory}
use Rattle.trie.proofs.Lists.{◌∈◌, NoDup, nodup_snoc, nodup_le}
use Rattle.rules.specs.Operations.{AtWidth, opening, memory_of}
use Rattle.rules.specs.Lists.{State, after}
use Rattle.rules.specs.Calls.{Event, Call, calls, history, state_after, Book, HasPixel, HasNode, Reads, ReadsRow, done, then}
use Rattle.rules.specs.Calls as calls
use Rattle.rules.specs.Demands.{Row}
use Rattle.rules.proofs.Dims.{Width}
use Rattle.rules.proofs.Theorem.{demand3, opened-width}
use Rattle.rules.proofs.Staying.{moment}
use Rattle.rules.proofs.Operated.{Comes, here-width}
use Rattle.reach.specs.Reachable.{Dangling, Reachable}
use Rattle.reach.specs.Reading.{questions_of}
use Rattle.settings.proofs.Refusals.{refusal_positive}
use Rattle.reach.proofs.Moments.{answered_at, none-dangles_at}
use Rattle.listing.specs.Next.{Moved, end_place, moved, Smallest, NoneAbove, Next}
use Rattle.listing.specs.Next as next
use Rattle.listing.proofs.Unique.{one_answer}
use Rattle.listing.proofs.Sequence.{book_shows}
use Rattle.counting.specs.Count.{Count, ReachedCount, Counted, refused, dangling, counted}
use Rattle.counting.specs.Sequence.{new_one, new_calls, GivesFrom, ends, gives, CountStatement}
use Rattle.counting.proofs.Unique.{falling_once}

-- the pixels of a book, or its nodes
column : (ℕ × ℕ → ℕ) → Book → List ℕ
column f [] = []
column f (q ∷ b) = f q ∷ column f b

module _ (f : ℕ × ℕ → ℕ) where
  to_column : (b : Book) {q : ℕ × ℕ} → Memᴰ q b → f q ∈ column f b
  unfolding column
  to_column [] h = absurd (Memᴰ.not-nil h)
  to_column (q ∷ b) (Memᴰ.head e) = Memᴰ.head (ap f e)
  to_column (q ∷ b) (Memᴰ.tail h) = Memᴰ.tail (to_column b h)

  of_column : (b : Book) {k : ℕ} → k ∈ column f b → (q : ℕ × ℕ) × Memᴰ q b × (f q ≡ k)
  unfolding column
  of_column [] h = absurd (Memᴰ.not-nil h)
  of_column (q ∷ b) (Memᴰ.head e) = (q, Memᴰ.head refl, sym e)
  of_column (q ∷ b) (Memᴰ.tail h) = let (r, i, e) = of_column b h in (r, Memᴰ.tail i, e)

  column_snoc : (b : Book) (q : ℕ × ℕ) → column f (b ++ (q ∷ [])) ≡ column f b ++ (f q ∷ [])
  unfolding column
  column_snoc [] q = refl
  column_snoc (r ∷ b) q = ap (λ (l : List ℕ). f r ∷ l) (column_snoc b q)

  column_length : (b : Book) → length (column f b) ≡ length b
  unfolding column
  column_length [] = refl
  column_length (q ∷ b) = ap suc (column_length b)

  -- a row that enters nothing twice
  module _ (fresh : (b : Book) (p n : ℕ) → ¬ (HasPixel b p) → ¬ (HasNode b n) → (q : ℕ × ℕ) → Memᴰ q b → f q ≢ f (p, n)) where
    read_once : {b b' : Book} {c : Call} → Reads b c b' → NoDup (column f b) → NoDup (column f b')
    read_once {b} {c = c} (calls.new n a out free is) d =
        rw (is, column_snoc b (c.pixel, n)) (nodup_snoc (column f b) (f (c.pixel, n)) d (λ h. let (q, i, e) = of_column b h in fresh b c.pixel n out free q i e))
    read_once (calls.found n a i is) d = rw is d
    read_once (calls.full a out is) d = rw is d
    read_once (calls.absent a out is) d = rw is d

    row_once : {b b' : Book} {cs : List Call} → ReadsRow b cs b' → NoDup (column f b) → NoDup (column f b')
    row_once (done e) d = rw e d
    row_once (then r rs) d = row_once rs (read_once r d)

pixel_of : ℕ × ℕ → ℕ
pixel_of q = q.0

node_of : ℕ × ℕ → ℕ
node_of q = q.1

pixels_once : {cs : List Call} {b : Book} → ReadsRow [] cs b → NoDup (column pixel_of b)
unfolding column pixel_of
pixels_once R = row_once pixel_of (λ b p n out free q i e. out (q.1, rw (ap {B = ℕ × ℕ} (λ (k : ℕ). (k, q.1)) (sym e)) i)) R tt

nodes_once : {cs : List Call} {b : Book} → ReadsRow [] cs b → NoDup (column node_of b)
unfolding column node_of
nodes_once R = row_once node_of (λ b p n out free q i e. free (q.0, rw (ap {B = ℕ × ℕ} (λ (k : ℕ). (q.0, k)) (sym e)) i)) R tt

-- how long the book gets
read_length : {b b' : Book} {c : Call} → Reads b c b' → length b' ≡ new_one c.answer + length b
unfolding new_one
read_length {b} {c = c} (calls.new n a out free is) = rw (is, a) (length-append b ((c.pixel, n) ∷ []) ∙ (let e : length b + 1 ≡ 1 + length b = omega arith in e))
read_length {b} (calls.found n a i is) = rw (is, a) (let e : length b ≡ 0 + length b = omega arith in e)
read_length {b} (calls.full a out is) = rw (is, a) (let e : length b ≡ 0 + length b = omega arith in e)
read_length {b} (calls.absent a out is) = rw (is, a) (let e : length b ≡ 0 + length b = omega arith in e)

row-length : {b b' : Book} {cs : List Call} → ReadsRow b cs b' → length b' ≡ new_calls cs + length b
unfolding new_calls
row-length {b} (done e) = rw e (let q : length b ≡ 0 + length b = omega arith in q)
row-length {b} {b'} (then {b₁ = b₁} {c = c} {cs = cs} r rs) = let p = read_length r in let q = row-length rs in omega (arith, p, q)

perm_news : {cs ds : List Call} → Permᴰ cs ds → new_calls cs ≡ new_calls ds
unfolding new_calls
perm_news Permᴰ.nil = refl
perm_news (Permᴰ.cons {b = d} e p) = rw e (ap (λ (n : ℕ). new_one d.answer + n) (perm_news p))
perm_news (Permᴰ.swap e f) = rw (e, f) (omega arith)
perm_news (Permᴰ.trans p q) = perm_news p ∙ perm_news q

-- of one row
module _ {w : ℕ} {x : State} {es : List Event} (R : Row w x es) where
  book_count : {c : ℕ} → ReachedCount w (memory_of (state_after w es x).areas) c → c ≡ length R.book
  unfolding node_of
  book_count C =
      let n : length (column node_of R.book) ≡ length R.book = column_length node_of R.book in
      let a : length C.list ≤ length (column node_of R.book) =
      nodup_le C.list (column node_of R.book) (falling_once C.list C.once) (λ i m. to_column node_of R.book (R.reached.in_book i (C.only i m)).0) in
      let b : length (column node_of R.book) ≤ length C.list =
      nodup_le (column node_of R.book) C.list (nodes_once R.reads) (λ i m. let (q, h, e) = of_column node_of R.book m in rw e at (C.all q.1 (R.reached.in_memory q.0 q.1 h).0)) in
      let e = C.counts in
      omega arith

  book_news : length R.book ≡ new_calls (calls (history w es x))
  book_news =
      let l : length R.book ≡ new_calls R.row + 0 = row-length R.reads in
      let p : new_calls (calls (history w es x)) ≡ new_calls R.row = perm_news R.all-calls in
      omega arith

-- one "next", by what it gives
next_pixel : {w : ℕ} {s : Settings} {m : Memory} {place p : ℕ} {r : Moved} → Next w s m place r → r.given ≡ Ok (Some p) → Smallest w m place p × (r.place ≡ p + 1)
next_pixel (next.refused e) q = let y : ◌≡◌ {A = ℕ} 0 1 = cc in absurd (omega arith)
next_pixel (next.no_place z l) q = let y : ◌≡◌ {A = ℕ} 0 1 = cc in absurd (omega arith)
next_pixel (next.dangling z l d) q = let y : ◌≡◌ {A = ℕ} 0 1 = cc in absurd (omega arith)
next_pixel {p = p} (next.given {p = p'} z d S) q = let e : p' ≡ p = cc in (rw e at S, ap (λ n. n + 1) e)
next_pixel (next.ended z l d n) q = let y : ◌≡◌ {A = ℕ} 0 1 = cc in absurd (omega arith)

next_end : {w : ℕ} {s : Settings} {m : Memory} {place : ℕ} {r : Moved} → Next w s m place r → r.given ≡ Ok None → NoneAbove w m place
next_end (next.refused e) q = let y : ◌≡◌ {A = ℕ} 0 1 = cc in absurd (omega arith)
next_end (next.no_place z l) q = let y : ◌≡◌ {A = ℕ} 0 1 = cc in absurd (omega arith)
next_end (next.dangling z l d) q = let y : ◌≡◌ {A = ℕ} 0 1 = cc in absurd (omega arith)
next_end (next.given z d S) q = let y : ◌≡◌ {A = ℕ} 0 1 = cc in absurd (omega arith)
next_end (next.ended z l d n) q = n

-- what a listing gives from a place on: exactly the reachable pixels above it, each once
module _ {w : ℕ} {s : Settings} {m : Memory} where
  given_only : {place p : ℕ} {ps : List ℕ} → GivesFrom w s m place ps → p ∈ ps → Reachable w m p × (place ≤ p)
  given_only (ends N) h = absurd (Memᴰ.not-nil h)
  given_only {place} {p} (gives {after = after} {p = p'} {ps = ps} N L) h = by (Memᴰ.cases_cons h) (λ i. given_only L i)
    where
      S : Smallest w m place p' × (after ≡ p' + 1)
      S = next_pixel N refl

      by : (p ≡ p') ⊎ (p ∈ ps) → (p ∈ ps → Reachable w m p × (after ≤ p)) → Reachable w m p × (place ≤ p)
      by (inl e) f = rw e (S.0.reachable, S.0.above)
      by (inr i) f = let (r, l) = f i in let a = S.0.above in let b = S.1 in (r, omega arith)

  given-all : {place : ℕ} {ps : List ℕ} → GivesFrom w s m place ps → (q : ℕ) → Reachable w m q → place ≤ q → q ∈ ps
  given-all (ends N) q R l = absurd (next_end N refl q R l)
  given-all {place} (gives {after = after} {p = p} {ps = ps} N L) q R l = by (ℕ_discrete q p) (given-all L q R)
    where
      S : Smallest w m place p × (after ≡ p + 1)
      S = next_pixel N refl

      by : Dec (q ≡ p) → (after ≤ q → q ∈ ps) → q ∈ (p ∷ ps)
      by (yes e) f = Memᴰ.head e
      by (no d) f = let a : p ≤ q = S.0.least q R l in let b = S.1 in Memᴰ.tail (f (omega arith))

  given_once : {place : ℕ} {ps : List ℕ} → GivesFrom w s m place ps → NoDup ps
  given_once (ends N) = tt
  given_once (gives N L) = (λ i. let (r, l) = given_only L i in let b = (next_pixel N refl).1 in omega arith, given_once L)

  -- a listing comes to its "end", k being more than the places that are left
  module _ (z : first_no (questions_of w s m) ≡ 0) (d : ¬ (Dangling w s m)) (e : w ≡ s.width) where
    given_from : (k place : ℕ) → end_place < place + k → place ≤ end_place → (ps : List ℕ) × GivesFrom w s m place ps
    given_from zero place l h = absurd (omega arith)
    given_from (suc k) place l h = let (r, N, u) = one_answer s m place in by {r = r} (rw e N) (λ p a b. given_from k (p + 1) a b)
      where
        by : {r : Moved} → Next w s m place r → ((p : ℕ) → end_place < p + 1 + k → p + 1 ≤ end_place → (ps : List ℕ) × GivesFrom w s m (p + 1) ps) → (ps : List ℕ) × GivesFrom w s m place ps
        by (next.refused {r = o} q) f = absurd (refusal_positive o (sym q ∙ z))
        by (next.no_place q n) f = absurd (omega arith)
        by (next.dangling q n y) f = absurd (d y)
        by (next.given {p = p} q n S) f =
            let a = S.above in
            let b = S.reachable.is_pixel_number in
            let (ps, L) = f p (omega arith) (omega arith) in
            (p ∷ ps, gives (next.given q n S) L)
        by (next.ended q n y o) f = ([], ends (next.ended q n y o))

-- the pixels of a row's book are what a listing gives
module _ {w : ℕ} {x : State} {es : List Event} (R : Row w x es) where
  book_given : {s : Settings} (ps : List ℕ) → GivesFrom w s (memory_of (state_after w es x).areas) 0 ps → length R.book ≡ length ps
  unfolding pixel_of
  book_given ps L =
      let n : length (column pixel_of R.book) ≡ length R.book = column_length pixel_of R.book in
      let a : length ps ≤ length (column pixel_of R.book) =
      nodup_le ps (column pixel_of R.book) (given_once L) (λ p i. let (k, h) = (book_shows R p).0 (given_only L i).0 in to_column pixel_of R.book h) in
      let b : length (column pixel_of R.book) ≤ length ps =
      nodup_le (column pixel_of R.book) ps (pixels_once R.reads)
      (λ p i. let (q, h, e) = of_column pixel_of R.book i in given-all L p ((book_shows R p).1 (q.1, rw (ap {B = ℕ × ℕ} (λ (k : ℕ). (k, q.1)) (sym e)) h)) (omega arith)) in
      omega arith

-- a count that is not refused
not-refused : {w : ℕ} {s : Settings} {m : Memory} {r : Count} → Counted w s m r → first_no (questions_of w s m) ≡ 0 → ¬ (Dangling w s m) → (r.number ≡ 0) × ReachedCount w m r.count
not-refused (refused h e) z d = absurd (h (sym e ∙ z))
not-refused (dangling q y) z d = absurd (d y)
not-refused (counted q y C) z d = (refl, C)

-- over every width whose digits fit the pixel numbers
counts_at : (w : ℕ) → Width w → (s : Settings) → w ≡ s.width → CountStatement w s
counts_at w width s e a z es r C =
    let D = demand3 w width s a z es in
    let q = answered_at width s a z es in
    let d = none-dangles_at width s a z es in
    let (n, c) = not-refused C q d in
    let o : Comes w (record { began = after (opening w s a); events = es }) (moment w s a es) = record { settings = s; areas = a; width_is = sym e; carried = z; began = refl; ends = refl } in
    record {
      carried = n;
      in_book = λ R. book_count R c;
      news = book_count D.row c ∙ book_news D.row;
      comes_to-end = given_from q d (sym (here-width o)) (end_place + 1) 0 (omega arith) (omega arith);
      listed = λ ps L. book_count D.row c ∙ book_given D.row ps L;
    }

-- document 02's tables, each at the width that its settings give
pub counts : AtWidth CountStatement
counts s a z = counts_at s.width (opened-width s.width s a z) s refl a z
