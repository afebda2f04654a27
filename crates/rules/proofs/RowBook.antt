-- The row of ended calls: a book reads it, and it respects the times of the calls. A "full" goes before the "new" of its pixel, all else at the end.
-- Relies on the definitions of calls and of the book.
use mathlib.Core.Path.{◌≡◌, refl, sym, ap}
use mathlib.Core.Logic.{◌≢◌, ◌⊎◌, inl, inr}
use mathlib.Core.List.Memᴰ
use mathlib.Core.List.{List, [], ◌∷◌, ◌++◌, append-nil, Memᴰ}
use Prim.Native.Nat.{ℕ, suc, ◌≤◌, ◌<◌}
use native.Mathlib.Nat.{le_trans}
use native.Mathlib.Decide.{ℕ_discrete, dec_le}
use native.Mathlib.Omega.{arith}
use Rattle.record.specs.declared.Answer.TheVariants.{New, Full}
use Rattle.rules.specs.Calls.{Call, Book, Holds, HasPixel, Reads, ReadsRow, done, then, InOrder, empty, first}
use Rattle.rules.specs.Calls as calls
use Rattle.rules.specs.Consequences.{Names}

pub run-append : {b b₁ b₂ : Book} {xs ys : List Call} → ReadsRow b xs b₁ → ReadsRow b₁ ys b₂ → ReadsRow b (xs ++ ys) b₂
run-append (done e) r = rw (← e) r
run-append (then a q) r = then a (run-append q r)

-- a pixel in the book at the end, and not at the beginning, became new at some place of the row
pub data Born (b : Book) (K : ℕ) (cs : List Call) (b' : Book) : Type 0 where
  born : (pre post : List Call) (c : Call) (b₁ : Book) (n : ℕ) → cs ≡ pre ++ c ∷ post → c.answer ≡ New n → c.pixel ≡ K → ReadsRow b pre b₁ → ¬ (HasPixel b₁ K) → ReadsRow b₁ (c ∷ post) b' → Born b K cs b'

pub when_born : {b b' : Book} {cs : List Call} (K : ℕ) → ReadsRow b cs b' → ¬ (HasPixel b K) → HasPixel b' K → Born b K cs b'
when_born {b} K (done e) out has = absurd (out (rw e at has))
when_born {b} {b'} K (then {b₁ = b₁} {c = c} {cs = cs} a r) out has = by (λ o. when_born K r o has) a
  where
    extend : Born b₁ K cs b' → Born b K (c ∷ cs) b'
    extend (born pre post d b₂ n p e q s o t) = born (c ∷ pre) post d b₂ n (ap (λ l. c ∷ l) p) e q (then a s) o t

    by : (¬ (HasPixel b₁ K) → Born b₁ K cs b') → Reads b c b₁ → Born b K (c ∷ cs) b'
    by rec (calls.found n e i is) = extend (rec (rw is out))
    by rec (calls.full e o is) = extend (rec (rw is out))
    by rec (calls.absent e o is) = extend (rec (rw is out))
    by rec (calls.new n e o f is) = dec (ℕ_discrete c.pixel K)
      where
        split : c.pixel ≢ K → (m : ℕ) → Memᴰ {A = ℕ × ℕ} (K, m) b ⊎ Memᴰ {A = ℕ × ℕ} (K, m) ((c.pixel, n) ∷ []) → ⊥
        split y m (inl i) = out (m, i)
        split y m (inr i) = y (sym (ap (λ p. p.0) (Memᴰ.eq_of_singleton i)))

        dec : Dec (c.pixel ≡ K) → Born b K (c ∷ cs) b'
        dec (yes y) = born [] cs c b n refl e y (done refl) out (then a r)
        dec (no y) = extend (rec (λ h. split y h.0 (Memᴰ.append_cases b (rw is at h.1))))

-- what stands in the book stays
read_keeps : {b b' : Book} {c : Call} {K n : ℕ} → Reads b c b' → Holds b K n → Holds b' K n
read_keeps {b} (calls.new m a o f is) i = rw is (Memᴰ.append_left _ i)
read_keeps (calls.found m a j is) i = rw is i
read_keeps (calls.full a o is) i = rw is i
read_keeps (calls.absent a o is) i = rw is i

pub run_keeps : {b b' : Book} {cs : List Call} {K n : ℕ} → ReadsRow b cs b' → Holds b K n → Holds b' K n
run_keeps (done e) i = rw e i
run_keeps (then a r) i = run_keeps r (read_keeps a i)

-- the pixel and the node of a "new" or a "found" are in the book
pub read_names : {b b' : Book} {c : Call} {n : ℕ} → Reads b c b' → Names c n → Holds b' c.pixel n
read_names {b} {c = c} {n = n} (calls.new m q o f is) (inl a) = let e : m ≡ n = cc in rw (is, e) (Memᴰ.append_right b (Memᴰ.head refl))
read_names (calls.new m q o f is) (inr a) = let y : ◌≡◌ {A = ℕ} 0 1 = cc in absurd (omega arith)
read_names (calls.found m q i is) (inl a) = let y : ◌≡◌ {A = ℕ} 0 1 = cc in absurd (omega arith)
read_names {n = n} (calls.found m q i is) (inr a) = let e : m ≡ n = cc in rw is (rw e at i)
read_names (calls.full q o is) (inl a) = let y : ◌≡◌ {A = ℕ} 0 1 = cc in absurd (omega arith)
read_names (calls.full q o is) (inr a) = let y : ◌≡◌ {A = ℕ} 0 1 = cc in absurd (omega arith)
read_names (calls.absent q o is) (inl a) = let y : ◌≡◌ {A = ℕ} 0 1 = cc in absurd (omega arith)
read_names (calls.absent q o is) (inr a) = let y : ◌≡◌ {A = ℕ} 0 1 = cc in absurd (omega arith)

pub names_in : {b b' : Book} {cs : List Call} → ReadsRow b cs b' → (c : Call) (n : ℕ) → Memᴰ c cs → Names c n → Holds b' c.pixel n
names_in (done e) c n i a = absurd (Memᴰ.not-nil i)
names_in {b} {b'} (then {b₁ = b₁} {c = d} {cs = cs} k r) c n i a = by (Memᴰ.cases_cons i) (λ j. names_in r c n j a)
  where
    by : (c ≡ d) ⊎ Memᴰ c cs → (Memᴰ c cs → Holds b' c.pixel n) → Holds b' c.pixel n
    by (inl e) f = rw e (run_keeps r (read_names k (rw e at a)))
    by (inr j) f = f j

-- No call stands after one that started when it had already ended
abbrev pub Ordered : List Call → Type 0
Ordered [] = Unit {0}
Ordered (a ∷ cs) = ((c : Call) → Memᴰ c cs → a.start ≤ c.end) × Ordered cs

pub ordered_insert : (pre : List Call) (f : Call) (post : List Call) → Ordered (pre ++ post) → ((a : Call) → Memᴰ a pre → a.start ≤ f.end) → ((c : Call) → Memᴰ c post → f.start ≤ c.end) → Ordered (pre ++ f ∷ post)
ordered_insert [] f post o before later = (later, o)
ordered_insert (a ∷ pre) f post o before later = (λ c i. by c (Memᴰ.append_cases pre i), ordered_insert pre f post o.1 (λ b i. before b (Memᴰ.tail i)) later)
  where
    next : (c : Call) → (c ≡ f) ⊎ Memᴰ c post → a.start ≤ c.end
    next c (inl e) = rw e (before a (Memᴰ.head refl))
    next c (inr i) = o.0 c (Memᴰ.append_right pre i)

    by : (c : Call) → Memᴰ c pre ⊎ Memᴰ c (f ∷ post) → a.start ≤ c.end
    by c (inl i) = o.0 c (Memᴰ.append_left post i)
    by c (inr i) = next c (Memᴰ.cases_cons i)

-- What stands after a "new" ended no earlier than it
abbrev pub Late : List Call → Type 0
Late [] = Unit {0}
Late (a ∷ cs) = ((n : ℕ) → a.answer ≡ New n → (c : Call) → Memᴰ c cs → a.end ≤ c.end) × Late cs

pub late_insert : (pre : List Call) (f : Call) (post : List Call) → Late (pre ++ post) → ((a : Call) → Memᴰ a pre → a.end ≤ f.end) → ((n : ℕ) → f.answer ≡ New n → post ≡ []) → Late (pre ++ f ∷ post)
late_insert [] f post l before last = (λ n e c i. absurd (Memᴰ.not-nil (rw (last n e) at i)), l)
late_insert (a ∷ pre) f post l before last = (λ n e c i. by n e c (Memᴰ.append_cases pre i), late_insert pre f post l.1 (λ b i. before b (Memᴰ.tail i)) last)
  where
    next : (n : ℕ) → a.answer ≡ New n → (c : Call) → (c ≡ f) ⊎ Memᴰ c post → a.end ≤ c.end
    next n e c (inl q) = rw q (before a (Memᴰ.head refl))
    next n e c (inr i) = l.0 n e c (Memᴰ.append_right pre i)

    by : (n : ℕ) → a.answer ≡ New n → (c : Call) → Memᴰ c pre ⊎ Memᴰ c (f ∷ post) → a.end ≤ c.end
    by n e c (inl i) = l.0 n e c (Memᴰ.append_left post i)
    by n e c (inr i) = next n e c (Memᴰ.cases_cons i)

late_after : (pre : List Call) (a : Call) (post : List Call) (n : ℕ) → a.answer ≡ New n → Late (pre ++ a ∷ post) → (c : Call) → Memᴰ c (a ∷ post) → a.end ≤ c.end
late_after [] a post n e l c i = by (Memᴰ.cases_cons i)
  where
    by : (c ≡ a) ⊎ Memᴰ c post → a.end ≤ c.end
    by (inl q) = rw q (omega arith)
    by (inr j) = l.0 n e c j
late_after (b ∷ pre) a post n e l c i = late_after pre a post n e l.1 c i

-- the row after `now` events, with the book it makes
pub record RowOk (row : List Call) (book : Book) (now : ℕ) : Type 0 where
  pub run : ReadsRow [] row book
  pub ordered : Ordered row
  pub late : Late row
  pub past : (c : Call) → Memᴰ c row → (c.start ≤ c.end) × (c.end < now)

-- an open call started at s, when the book had its first b entries: what became new before s is among them
unfoldable pub Since : List Call → Book → ℕ → Type 0
Since row seen s = (c : Call) (n : ℕ) → Memᴰ c row → c.answer ≡ New n → c.end < s → HasPixel seen c.pixel

-- a call that ends now goes to the end
pub row-append : {row : List Call} {book book' : Book} {now : ℕ} (r : RowOk row book now) (f : Call) → f.start ≤ f.end → f.end ≡ now → Reads book f book' → RowOk (row ++ (f ∷ [])) book' (suc now)
row-append {row} {book} {book'} {now} r f t e k =
    record {
      run = run-append r.run (then k (done refl));
      ordered = ordered_insert row f [] (rw append-nil r.ordered) (λ a i. let p = r.past a i in omega arith) (λ c i. absurd (Memᴰ.not-nil i));
      late = late_insert row f [] (rw append-nil r.late) (λ a i. let p = r.past a i in omega arith) (λ n q. refl);
      past = λ c i. by c (Memᴰ.append_cases row i);
    }
  where
    by : (c : Call) → Memᴰ c row ⊎ Memᴰ c (f ∷ []) → (c.start ≤ c.end) × (c.end < suc now)
    by c (inl i) = let p = r.past c i in (p.0, omega arith)
    by c (inr i) = rw (Memᴰ.eq_of_singleton i) (t, omega arith)

-- a "full" for K that started at s goes before the "new" of K, if there is one; K is not among the entries seen at s
pub row-full : {row : List Call} {book seen : Book} {now : ℕ} (r : RowOk row book now) (f : Call) → f.start ≤ f.end → f.end ≡ now → f.answer ≡ Full → Since row seen f.start → ¬ (HasPixel seen f.pixel) → HasPixel book f.pixel → (pre : List Call) × (post : List Call) × (row ≡ pre ++ post) × RowOk (pre ++ f ∷ post) book (suc now)
unfolding Since
row-full {row} {book} {seen} {now} r f t e a since fresh has = by (when_born f.pixel r.run (λ h. Memᴰ.not-nil h.1) has)
  where
    by : Born [] f.pixel row book → (pre : List Call) × (post : List Call) × (row ≡ pre ++ post) × RowOk (pre ++ f ∷ post) book (suc now)
    by (born pre post c b₁ n p q k s o u) = (
      pre,
      c ∷ post,
      p,
      record {
        run = run-append s (then (calls.full a o refl) u);
        ordered = ordered_insert pre f (c ∷ post) (rw p at r.ordered) (λ x i. let y = past x (Memᴰ.append_left (c ∷ post) i) in omega arith) (λ x i. le_trans first (late_after pre c post n q (rw p at r.late) x i));
        late = late_insert pre f (c ∷ post) (rw p at r.late) (λ x i. let y = past x (Memᴰ.append_left (c ∷ post) i) in omega arith) (λ m y. absurd (not_new m y));
        past = λ x i. place x (Memᴰ.append_cases pre i);
      },
    )
      where
        past : (x : Call) → Memᴰ x (pre ++ c ∷ post) → (x.start ≤ x.end) × (x.end < now)
        past x i = r.past x (rw p i)

        not_new : (m : ℕ) → f.answer ≢ New m
        not_new m y = let z : ◌≡◌ {A = ℕ} 0 1 = cc in omega arith

        -- the "new" ended after the call had started
        first : f.start ≤ c.end
        first = dec (dec_le f.start c.end)
          where
            dec : Dec (f.start ≤ c.end) → f.start ≤ c.end
            dec (yes h) = h
            dec (no h) = absurd (fresh (rw k at (since c n (rw p (Memᴰ.append_right pre (Memᴰ.head refl))) q (omega arith))))

        next : (x : Call) → (x ≡ f) ⊎ Memᴰ x (c ∷ post) → (x.start ≤ x.end) × (x.end < suc now)
        next x (inl y) = rw y (t, omega arith)
        next x (inr i) = let y = past x (Memᴰ.append_right pre i) in (y.0, omega arith)

        place : (x : Call) → Memᴰ x pre ⊎ Memᴰ x (f ∷ c ∷ post) → (x.start ≤ x.end) × (x.end < suc now)
        place x (inl i) = let y = past x (Memᴰ.append_left (c ∷ post) i) in (y.0, omega arith)
        place x (inr i) = next x (Memᴰ.cases_cons i)

-- the same as document 01 says it
pub in_order : (row : List Call) → Ordered row → InOrder row
in_order [] o = empty
in_order (c ∷ cs) o = first {c = c} (λ d i l. let h : c.start ≤ d.end = o.0 d i in omega arith) (in_order cs o.1)
