-- The row of calls beside the table: every event keeps it, whatever the call's end. Times count the events.
-- Relies on the ends of calls and on the theory's world and workers.
use mathlib.Core.Path.{◌≡◌, refl, sym, ap, ◌∙◌}
use mathlib.Core.Logic.{◌≢◌, ◌⊎◌, inl, inr}
use mathlib.Core.List.Memᴰ
use mathlib.Core.List.{List, [], ◌∷◌, ◌++◌, Memᴰ}
use Prim.Native.Nat.{ℕ, suc, ◌≤◌, ◌<◌}
use native.Mathlib.Decide.{ℕ_discrete}
use native.Mathlib.Omega.{arith}
use lib.ListN.{length, length-append, take}
use lib.Seq.{take-append-le, take-length}
use Rattle.trie.proofs.Digits.{Dims}
use Rattle.trie.proofs.Update.{upd, upd_same, upd_other}
use Rattle.trie.proofs.Lists.{∈-take}
use Rattle.trie.proofs.World.{World, Placed, Structure, Partition, Other}
use Rattle.trie.proofs.Evolve.{Grows, grows_refl}
use Rattle.trie.proofs.Search.{Unseen}
use Rattle.trie.proofs.Place.{place, CanPlace, place_grows}
use Rattle.record.specs.declared.Answer.{Answer}
use Rattle.record.specs.declared.Answer.TheVariants.{New, Found, Full, Absent}
use Rattle.rules.specs.Calls.{Call, Book, HasPixel}
use Rattle.rules.proofs.RowBook.{RowOk, Since, row-append, names_in}
use Rattle.rules.proofs.RowEnds.{pairs, pairs_stay, book_of, ends_new_lem, ends_found, ends_absent, ends-full}
use Rattle.trie.proofs.Whole.{idle, Worker}

-- an open call of worker i
pub record Open {δ : Dims} (w : World δ) (c : Worker) (row : List Call) (now start : ℕ) : Type 0 where
  pub begun : start < now
  pub within : c.since ≤ length w.book
  pub since : Since row (pairs w.pixel (take c.since w.book)) start

pub record Rowed {δ : Dims} (w : World δ) (workers : ℕ → Worker) (row : List Call) (now : ℕ) (starts : ℕ → ℕ) : Type 0 where
  pub rows : RowOk row (book_of w) now
  pub open_calls : (i : ℕ) → (workers i).act ≢ idle → Open w (workers i) row now (starts i)

-- the row gets at most a call that ends now
abbrev pub Gets : List Call → List Call → ℕ → Type 0
Gets row row' now = (c : Call) → Memᴰ c row' → Memᴰ c row ⊎ (c.end ≡ now)

module _ {δ : Dims} {w w' : World δ} (E : Grows w w') (Q : Partition w) where
  -- the first b entries stay
  seen_stays : (b : ℕ) → b ≤ length w.book → pairs w'.pixel (take b w'.book) ≡ pairs w.pixel (take b w.book)
  seen_stays b h =
      let (more, is) = E.book_grows in
      ap (pairs w'.pixel) (ap (take b) is ∙ take-append-le b w.book more h)
      ∙ pairs_stay w.pixel w'.pixel (take b w.book) (λ n i. E.pixel_is n (Q.noted-placed n (∈-take b w.book i)))

  pub open_stays : {c : Worker} {row row' : List Call} {now start : ℕ} → Gets row row' now → Open w c row now start → Open w' c row' (suc now) start
  unfolding Since
  open_stays {c} {row} {row'} {now} {start} g o =
      record {
        begun = omega (arith, o.begun);
        within = let (more, is) = E.book_grows in rw (is, length-append) (omega (arith, o.within));
        since = λ d n i a l. rw (seen_stays c.since o.within) (old d n a l (g d i));
      }
    where
      old : (d : Call) (n : ℕ) → d.answer ≡ New n → d.end < start → Memᴰ d row ⊎ (d.end ≡ now) → HasPixel (pairs w.pixel (take c.since w.book)) d.pixel
      old d n a l (inl i) = o.since d n i a l
      old d n a l (inr e) = absurd (omega (arith, o.begun))

  -- an event of worker i: others' calls stay open; its own is as before, or has ended
  pub rowed_step : {workers : ℕ → Worker} {row row' : List Call} {now : ℕ} {starts : ℕ → ℕ} (R : Rowed w workers row now starts) (i : ℕ) (c : Worker) → Gets row row' now → RowOk row' (book_of w') (suc now) → (c.act ≢ idle → ((workers i).act ≢ idle) × (c.since ≡ (workers i).since)) → Rowed w' (upd workers i c) row' (suc now) starts
  rowed_step {workers} {row} {row'} {now} {starts} R i c g k own = record { rows = k; open_calls = λ j b. by j b (ℕ_discrete j i) }
    where
      mine : c.act ≢ idle → Open w' c row' (suc now) (starts i)
      mine b =
          let (busy, e) = own b in
          let o = open_stays g (R.open_calls i busy) in
          record { begun = o.begun; within = rw e o.within; since = rw e o.since }

      by : (j : ℕ) → (upd workers i c j).act ≢ idle → Dec (j ≡ i) → Open w' (upd workers i c j) row' (suc now) (starts j)
      by j b (yes e) = rw (e, upd_same workers i c) (mine (rw (e, upd_same workers i c) at b))
      by j b (no e) = rw (upd_other workers i c j e) (open_stays g (R.open_calls j (rw (upd_other workers i c j e) at b)))

  -- the book's pairs stay where no node is placed
  pub book_stays : w'.book ≡ w.book → book_of w' ≡ book_of w
  book_stays e = ap (pairs w'.pixel) e ∙ pairs_stay w.pixel w'.pixel w.book (λ n i. E.pixel_is n (Q.noted-placed n i))

-- time passes
pub row-later : {row : List Call} {b b' : Book} {now : ℕ} → b' ≡ b → RowOk row b now → RowOk row b' (suc now)
row-later e r = record { run = rw e r.run; ordered = r.ordered; late = r.late; past = λ c i. let p = r.past c i in (p.0, omega arith) }

-- a call starts: worker i was idle
pub rowed_start : {δ : Dims} {w : World δ} {workers : ℕ → Worker} {row : List Call} {now : ℕ} {starts : ℕ → ℕ} (R : Rowed w workers row now starts) (i : ℕ) (c : Worker) → c.since ≡ length w.book → Rowed w (upd workers i c) row (suc now) (upd starts i now)
unfolding Since
rowed_start {δ} {w} {workers} {row} {now} {starts} R i c e = record { rows = row-later refl R.rows; open_calls = λ j b. by j b (ℕ_discrete j i) }
  where
    fresh : Open w c row (suc now) now
    fresh = record { begun = omega arith; within = omega arith; since = λ d n k a l. rw (e, take-length w.book) (n, names_in R.rows.run d n k (inl a)) }

    by : (j : ℕ) → (upd workers i c j).act ≢ idle → Dec (j ≡ i) → Open w (upd workers i c j) row (suc now) (upd starts i now j)
    by j b (yes q) = rw (q, upd_same workers i c, upd_same starts i now) fresh
    by j b (no q) =
        let o = R.open_calls j (rw (upd_other workers i c j q) at b) in
        rw (upd_other workers i c j q, upd_other starts i now j q) (record { begun = omega (arith, o.begun); within = o.within; since = o.since })

-- the call of worker i as it ends now
abbrev pub ended : Worker → Answer → ℕ → ℕ → Call
ended c a start now = record { pixel = c.key; answer = a; start = start; end = now }

gets_last : (row : List Call) (f : Call) (now : ℕ) → f.end ≡ now → Gets row (row ++ (f ∷ [])) now
gets_last row f now e c i = by (Memᴰ.append_cases row i)
  where
    by : Memᴰ c row ⊎ Memᴰ c (f ∷ []) → Memᴰ c row ⊎ (c.end ≡ now)
    by (inl j) = inl j
    by (inr j) = inr (rw (Memᴰ.eq_of_singleton j) e)

gets_between : (pre post : List Call) (f : Call) (now : ℕ) → f.end ≡ now → Gets (pre ++ post) (pre ++ f ∷ post) now
gets_between pre post f now e c i = by (Memᴰ.append_cases pre i)
  where
    next : (c ≡ f) ⊎ Memᴰ c post → Memᴰ c (pre ++ post) ⊎ (c.end ≡ now)
    next (inl q) = inr (rw q e)
    next (inr j) = inl (Memᴰ.append_right pre j)

    by : Memᴰ c pre ⊎ Memᴰ c (f ∷ post) → Memᴰ c (pre ++ post) ⊎ (c.end ≡ now)
    by (inl j) = inl (Memᴰ.append_left post j)
    by (inr j) = next (Memᴰ.cases_cons j)

-- worker i's call ends; c is its record after that
module _ {δ : Dims} {w : World δ} (S : Structure w) (Q : Partition w) {workers : ℕ → Worker} {row : List Call} {now : ℕ} {starts : ℕ → ℕ} (R : Rowed w workers row now starts) (i : ℕ) (busy : (workers i).act ≢ idle) (c : Worker) (over : c.act ≡ idle) where
  in_time : starts i ≤ now
  in_time = omega (arith, (R.open_calls i busy).begun)

  -- "new": Put, Append done
  pub rowed_new : {H e n : ℕ} (k : CanPlace w H e n) → w.pixel n ≡ (workers i).key → Rowed (place w H e n) (upd workers i c) (row ++ (ended (workers i) (New n) (starts i) now ∷ [])) (suc now) starts
  rowed_new {H} {e} {n} k p =
      let f = ended (workers i) (New n) (starts i) now in
      rowed_step (place_grows S k) Q R i c (gets_last row f now refl) (row-append R.rows f in_time refl (ends_new_lem Q k f (sym p) refl)) (λ b. absurd (b over))

  -- "found": Read, Follow at a node with the pixel; the world stays
  pub rowed_found : {R' : ℕ} → Placed w R' → w.pixel R' ≡ (workers i).key → Rowed w (upd workers i c) (row ++ (ended (workers i) (Found R') (starts i) now ∷ [])) (suc now) starts
  rowed_found {R'} p q =
      let f = ended (workers i) (Found R') (starts i) now in
      rowed_step (grows_refl w) Q R i c (gets_last row f now refl) (row-append R.rows f in_time refl (ends_found Q p f (sym q) refl)) (λ b. absurd (b over))

  -- "absent": Look, Tail of a viewer where its pixel is not placed; the world stays
  pub rowed_absent : ((m : ℕ) → Placed w m → Other w (workers i).key m) → Rowed w (upd workers i c) (row ++ (ended (workers i) Absent (starts i) now ∷ [])) (suc now) starts
  rowed_absent u =
      let f = ended (workers i) Absent (starts i) now in
      rowed_step (grows_refl w) Q R i c (gets_last row f now refl) (row-append R.rows f in_time refl (ends_absent Q f u refl)) (λ b. absurd (b over))

  -- "full": Take, TakeTail with no node left; the call has a place in the row
  pub rowed_full : Unseen w (workers i).key (workers i).since → (pre : List Call) × (post : List Call) × (row ≡ pre ++ post) × Rowed w (upd workers i c) (pre ++ ended (workers i) Full (starts i) now ∷ post) (suc now) starts
  rowed_full u =
      let f = ended (workers i) Full (starts i) now in
      let (pre, post, is, k) = ends-full Q R.rows f in_time refl refl (R.open_calls i busy).since u in
      (pre, post, is, rowed_step (grows_refl w) Q R i c (rw (← is) at (gets_between pre post f now refl)) k (λ b. absurd (b over)))
