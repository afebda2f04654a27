-- What follows from a row, proved of every row, and so of every sequence.
-- Relies on the row's book and on demand 3.
use Prim.Native.Nat.{ℕ, ◌<◌}
use mathlib.Core.Path.{◌≡◌, refl, sym, ap, ◌∙◌}
use mathlib.Core.Logic.{◌≢◌, ◌⊎◌, inl, inr}
use mathlib.Core.List.{List, [], ◌∷◌, ◌++◌, Memᴰ, Permᴰ}
use native.Mathlib.Omega.{arith}
use Rattle.settings.specs.declared.Settings.{Settings}
use Rattle.areas.specs.Memory.{Areas}
use Rattle.record.specs.declared.Answer.TheVariants.{New, Found, Full, Absent}
use Rattle.rules.specs.Operations.{opening}
use Rattle.rules.specs.Lists.{State}
use Rattle.rules.specs.Calls.{Event, state_after, Call, Book, Holds, HasPixel, InOrder, Reads, ReadsRow, done, then}
use Rattle.rules.specs.Calls as calls
use Rattle.rules.specs.Demands.{Row}
use Rattle.rules.specs.Consequences.{Names, NoneNames, AllFind, NewIn, Shown, Consequences}
use Rattle.rules.proofs.RowBook.{Born, born, when_born, run_keeps, read_names, names_in}
use Rattle.rules.proofs.Theorem.{theorem}

-- in the book a pixel has one node, and a node one pixel
record OneToOne (b : Book) : Type 0 where
  pub pixels : (p q n : ℕ) → Holds b p n → Holds b q n → p ≡ q
  pub nodes : (p m n : ℕ) → Holds b p m → Holds b p n → m ≡ n

none-noted : OneToOne []
none-noted = record { pixels = λ p q n i j. absurd (mathlib.Core.List.Memᴰ.not-nil i); nodes = λ p m n i j. absurd (mathlib.Core.List.Memᴰ.not-nil i) }

-- a pair more, neither part of which stands in the book
one_noted : {b : Book} (K k : ℕ) → ¬ (HasPixel b K) → ((p : ℕ) → ¬ (Holds b p k)) → OneToOne b → OneToOne (b ++ ((K, k) ∷ []))
one_noted {b} K k out free o =
    record {
      pixels = λ p q n i j. same_pixel p q n (mathlib.Core.List.Memᴰ.append_cases b i) (mathlib.Core.List.Memᴰ.append_cases b j);
      nodes = λ p m n i j. same_node p m n (mathlib.Core.List.Memᴰ.append_cases b i) (mathlib.Core.List.Memᴰ.append_cases b j);
    }
  where
    last : {p n : ℕ} → Memᴰ {A = ℕ × ℕ} (p, n) ((K, k) ∷ []) → (p ≡ K) × (n ≡ k)
    last i = let e = mathlib.Core.List.Memᴰ.eq_of_singleton i in (ap (λ z. z.0) e, ap (λ z. z.1) e)

    same_pixel : (p q n : ℕ) → Holds b p n ⊎ Holds ((K, k) ∷ []) p n → Holds b q n ⊎ Holds ((K, k) ∷ []) q n → p ≡ q
    same_pixel p q n (inl i) (inl j) = o.pixels p q n i j
    same_pixel p q n (inl i) (inr j) = absurd (free p (rw (last j).1 at i))
    same_pixel p q n (inr i) (inl j) = absurd (free q (rw (last i).1 at j))
    same_pixel p q n (inr i) (inr j) = (last i).0 ∙ sym (last j).0

    same_node : (p m n : ℕ) → Holds b p m ⊎ Holds ((K, k) ∷ []) p m → Holds b p n ⊎ Holds ((K, k) ∷ []) p n → m ≡ n
    same_node p m n (inl i) (inl j) = o.nodes p m n i j
    same_node p m n (inl i) (inr j) = absurd (out (m, rw (last j).0 at i))
    same_node p m n (inr i) (inl j) = absurd (out (n, rw (last i).0 at j))
    same_node p m n (inr i) (inr j) = (last i).1 ∙ sym (last j).1

read_one : {b b' : Book} {c : Call} → Reads b c b' → OneToOne b → OneToOne b'
read_one {c = c} (calls.new n a out free is) o = rw is (one_noted c.pixel n out (λ p i. free (p, i)) o)
read_one (calls.found n a i is) o = rw is o
read_one (calls.full a out is) o = rw is o
read_one (calls.absent a out is) o = rw is o

run_one : {b b' : Book} {cs : List Call} → ReadsRow b cs b' → OneToOne b → OneToOne b'
run_one (done e) o = rw e o
run_one (then a r) o = run_one r (read_one a o)

-- the book before and after a call of the row
record Cut (b : Book) (pre : List Call) (c : Call) (post : List Call) (b' : Book) : Type 0 where
  pub before : Book
  pub after : Book
  pub up_to : ReadsRow b pre before
  pub here : Reads before c after
  pub on : ReadsRow after post b'

cut : {b b' : Book} (pre : List Call) (c : Call) (post : List Call) → ReadsRow b (pre ++ c ∷ post) b' → Cut b pre c post b'
cut {b} [] c post (then {b₁ = b₁} a r) = record { before = b; after = b₁; up_to = done refl; here = a; on = r }
cut (d ∷ pre) c post (then a r) = let k = cut pre c post r in record { before = k.before; after = k.after; up_to = then a k.up_to; here = k.here; on = k.on }

-- what the book held before a call that found its pixel, and before any other
is_found : {b b' : Book} {c : Call} {n : ℕ} → Reads b c b' → c.answer ≡ Found n → Holds b c.pixel n
is_found (calls.new m a out free is) e = let y : ◌≡◌ {A = ℕ} 0 1 = cc in absurd (omega arith)
is_found {n = n} (calls.found m a i is) e = let q : m ≡ n = cc in rw q at i
is_found (calls.full a out is) e = let y : ◌≡◌ {A = ℕ} 0 1 = cc in absurd (omega arith)
is_found (calls.absent a out is) e = let y : ◌≡◌ {A = ℕ} 0 1 = cc in absurd (omega arith)

not_found : {b b' : Book} {c : Call} → Reads b c b' → ((n : ℕ) → c.answer ≢ Found n) → ¬ (HasPixel b c.pixel)
not_found (calls.new m a out free is) h = out
not_found (calls.found m a i is) h = absurd (h m a)
not_found (calls.full a out is) h = out
not_found (calls.absent a out is) h = out

new_found : {m n : ℕ} → New n ≡ Found m → ⊥
new_found e = let y : ◌≡◌ {A = ℕ} 0 1 = cc in omega arith

full-found : {m : ℕ} → Full ≡ Found m → ⊥
full-found e = let y : ◌≡◌ {A = ℕ} 0 1 = cc in omega arith

absent_found : {m : ℕ} → Absent ≡ Found m → ⊥
absent_found e = let y : ◌≡◌ {A = ℕ} 0 1 = cc in omega arith

absent_names : (d : Call) {n : ℕ} → Names d n → d.answer ≡ Absent → ⊥
absent_names d (inl a) e = let y : ◌≡◌ {A = ℕ} 0 1 = cc in omega arith
absent_names d (inr a) e = absent_found (sym e ∙ a)

none_before : {b : Book} {cs : List Call} (p : ℕ) → ReadsRow [] cs b → ¬ (HasPixel b p) → NoneNames cs p
none_before p r out d n i e a = out (n, rw e at (names_in r d n i a))

-- a call for a pixel that stands in the book
finds : {b b' : Book} {c : Call} {n : ℕ} → OneToOne b → Holds b c.pixel n → Reads b c b' → c.answer ≡ Found n
finds {n = n} o i (calls.new m a out free is) = absurd (out (n, i))
finds {c = c} {n = n} o i (calls.found m a j is) = a ∙ ap Found (o.nodes c.pixel m n j i)
finds {n = n} o i (calls.full a out is) = absurd (out (n, i))
finds {n = n} o i (calls.absent a out is) = absurd (out (n, i))

all_find : {b b' : Book} {cs : List Call} (p n : ℕ) → OneToOne b → Holds b p n → ReadsRow b cs b' → AllFind cs p n
all_find p n o i (done e) d j q = absurd (mathlib.Core.List.Memᴰ.not-nil j)
all_find {b} {b'} p n o i (then {b₁ = b₁} {c = c} {cs = cs} a r) d j q = by (mathlib.Core.List.Memᴰ.cases_cons j) (λ k. all_find p n (read_one a o) (run_keeps (then a (done refl)) i) r d k q)
  where
    by : (d ≡ c) ⊎ Memᴰ d cs → (Memᴰ d cs → d.answer ≡ Found n) → d.answer ≡ Found n
    by (inl e) f = rw e (finds o (rw (sym q ∙ ap (λ z. z.pixel) e) at i) a)
    by (inr k) f = f k

-- a call that places its pixel did not end before one that says "absent" of it started
late :
    {b b' : Book} {cs : List Call} → OneToOne b → ReadsRow b cs b' → InOrder cs → (c d : Call) (n : ℕ)
    → Memᴰ c cs → Memᴰ d cs → c.answer ≡ Absent → Names d n → d.pixel ≡ c.pixel → ¬ (d.end < c.start)
late o (done z) q c d n i j a u e = absurd (mathlib.Core.List.Memᴰ.not-nil i)
late {b} {b'} o (then {b₁ = b₁} {c = h} {cs = cs} k r) (calls.first f q) c d n i j a u e = by (mathlib.Core.List.Memᴰ.cases_cons i) (mathlib.Core.List.Memᴰ.cases_cons j) (λ x y. late (read_one k o) r q c d n x y a u e)
  where
    by : (c ≡ h) ⊎ Memᴰ c cs → (d ≡ h) ⊎ Memᴰ d cs → (Memᴰ c cs → Memᴰ d cs → ¬ (d.end < c.start)) → ¬ (d.end < c.start)
    by (inl x) (inl y) z = absurd (absent_names d u (ap (λ (v : Call). v.answer) (y ∙ sym x) ∙ a))
    by (inl x) (inr y) z = rw x (f d y)
    by (inr x) (inl y) z = absurd (absent_found (sym a ∙ all_find c.pixel n (read_one k o) (rw (sym (ap (λ (v : Call). v.pixel) y) ∙ e) at (read_names k (rw y at u))) r c x refl))
    by (inr x) (inr y) z = z x y

-- a pair in the book was entered by a "new"
pub new_in : {b : Book} {cs : List Call} (p n : ℕ) → ReadsRow [] cs b → Holds b p n → NewIn cs p n
new_in {b} {cs} p n r i = by (when_born p r (λ h. mathlib.Core.List.Memᴰ.not-nil h.1) (n, i))
  where
    by : Born [] p cs b → NewIn cs p n
    by (born pre post c b₁ m is a q before out on) =
        let here : Memᴰ c cs = rw is (mathlib.Core.List.Memᴰ.append_right pre (mathlib.Core.List.Memᴰ.head refl)) in
        let e : m ≡ n = (run_one r none-noted).nodes p m n (rw q at (names_in r c m here (inl a))) i in
        (c, here, q, a ∙ ap New e)

pub perm_mem : {A : Type 0} {a : A} {xs ys : List A} → Permᴰ xs ys → Memᴰ a xs → Memᴰ a ys
perm_mem Permᴰ.nil i = i
perm_mem (Permᴰ.cons e p) (mathlib.Core.List.Memᴰ.head q) = mathlib.Core.List.Memᴰ.head (q ∙ e)
perm_mem (Permᴰ.cons e p) (mathlib.Core.List.Memᴰ.tail i) = mathlib.Core.List.Memᴰ.tail (perm_mem p i)
perm_mem (Permᴰ.swap e f) (mathlib.Core.List.Memᴰ.head q) = mathlib.Core.List.Memᴰ.tail (mathlib.Core.List.Memᴰ.head (q ∙ e))
perm_mem (Permᴰ.swap e f) (mathlib.Core.List.Memᴰ.tail (mathlib.Core.List.Memᴰ.head q)) = mathlib.Core.List.Memᴰ.head (q ∙ f)
perm_mem (Permᴰ.swap e f) (mathlib.Core.List.Memᴰ.tail (mathlib.Core.List.Memᴰ.tail i)) = mathlib.Core.List.Memᴰ.tail (mathlib.Core.List.Memᴰ.tail i)
perm_mem (Permᴰ.trans p q) i = perm_mem q (perm_mem p i)

module _ {w : ℕ} {x : State} {es : List Event} (R : Row w x es) where
  one : OneToOne R.book
  one = run_one R.reads none-noted

  shows : (p n : ℕ) → Holds R.book p n → Shown w (state_after w es x) p n
  shows p n i = let (r, e) = R.reached.in_memory p n i in record { reached = r; pixel_is = e }

  noted : (p n : ℕ) → Shown w (state_after w es x) p n → Holds R.book p n
  noted p n s = rw s.pixel_is at (R.reached.in_book n s.reached).0

  pub follows : Consequences R
  follows =
      record {
        one_pixel = one.pixels;
        one_node = one.nodes;
        shown = shows;
        shown_once = λ p m n i j. one.nodes p m n (noted p m i) (noted p n j);
        shown-placed = noted;
        in_row = λ c i. perm_mem R.all-calls i;
        said = λ c n i a. let h = names_in R.reads c n i a in (h, shows c.pixel n h);
        new_first = λ pre post c n e a.
            let k = cut pre c post (rw e at R.reads) in
            let o = run_one k.up_to none-noted in
            (none_before c.pixel k.up_to (not_found k.here (λ m f. new_found (sym a ∙ f))), all_find c.pixel n (read_one k.here o) (read_names k.here (inl a)) k.on);
        found_after = λ pre post c n e a. let k = cut pre c post (rw e at R.reads) in new_in c.pixel n k.up_to (is_found k.here a);
        full_before = λ pre post c e a. let k = cut pre c post (rw e at R.reads) in none_before c.pixel k.up_to (not_found k.here (λ m f. full-found (sym a ∙ f)));
        absent_before = λ pre post c e a. let k = cut pre c post (rw e at R.reads) in none_before c.pixel k.up_to (not_found k.here (λ m f. absent_found (sym a ∙ f)));
        absent_late = late none-noted R.reads R.in_order;
      }

-- of every sequence
pub consequences : (s : Settings) (a : Areas) (z : (opening s.width s a).reply.number ≡ 0) (es : List Event) → Consequences (theorem s a z es).row
consequences s a z es = follows (theorem s a z es).row
