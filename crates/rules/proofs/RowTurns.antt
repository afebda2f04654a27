-- The row of calls over one event, and the list of ended calls that it is an order of.
-- Relies on the steps of the row and on how a turn lets it go on.
use Prim.Native.Nat.{ℕ, suc}
use mathlib.Core.Path.{◌≡◌, refl, ap}
use mathlib.Core.Logic.{◌≢◌, inl}
use mathlib.Core.List.Permᴰ
use mathlib.Core.List.{List, [], ◌∷◌, ◌++◌, append-nil, Permᴰ}
use native.Mathlib.Omega.{arith}
use lib.ListN.{length}
use Rattle.record.specs.declared.Answer.{Answer}
use Rattle.record.specs.declared.Answer.TheVariants.{Nothing, New, Found, Full, Open, Absent}
use Rattle.rules.specs.Calls.{Call, Opened, ended_by, ends_with, ending_answer}
use Rattle.trie.proofs.Digits.{Dims}
use Rattle.trie.proofs.Update.{upd}
use Rattle.trie.proofs.World.{World, Structure, Partition}
use Rattle.trie.proofs.Search.{Unseen}
use Rattle.trie.proofs.Whole.{idle, Worker}
use Rattle.rules.proofs.RowSteps.{Rowed, ended, rowed_step, rowed_new, rowed_found, rowed_absent, rowed_full, row-later, book_stays}
use Rattle.rules.proofs.Invariant.{Rowing, goes, ends_new_lem, ends_found, ends_absent}

-- the newest open call of worker i in the list has index k and pixel p
pub record Newest (os : List Opened) (i k p : ℕ) : Type 0 where
  pub ends : (n : ℕ) (a : Answer) → ended_by i n a os ≡ record { start = k; end = n; pixel = p; answer = a } ∷ []

-- so a turn of worker i ends one call or none, by its answer
pub ends_one : {os : List Opened} {i k p : ℕ} → Newest os i k p → (n : ℕ) (a : Answer) → length (ends_with i n a os) ≡ ending_answer a
unfolding ends_with ending_answer
ends_one o n Nothing = refl
ends_one o n (New m) = ap length (o.ends n (New m))
ends_one o n (Found m) = ap length (o.ends n (Found m))
ends_one o n Full = ap length (o.ends n Full)
ends_one o n Open = refl
ends_one o n Absent = ap length (o.ends n Absent)

-- one call more, at the end of the list and somewhere in the row
pub perm_insert : {A : Type 0} {xs : List A} (a : A) (ys zs : List A) → Permᴰ xs (ys ++ zs) → Permᴰ (xs ++ (a ∷ [])) (ys ++ a ∷ zs)
perm_insert {A} {xs} a ys zs p =
    Permᴰ.trans (Permᴰ.middle a xs [])
    (Permᴰ.trans (Permᴰ.cons refl (Permᴰ.trans (Permᴰ.append-nil xs) p)) (Permᴰ.symm (Permᴰ.middle a ys zs)))

-- the row after an event: the calls that the event ended are in it
pub record RowAfter {δ : Dims} (W : World δ) (ws : ℕ → Worker) (now : ℕ) (starts : ℕ → ℕ) (cs : List Call) : Type 0 where
  pub row : List Call
  pub rowed : Rowed W ws row now starts
  pub perm : Permᴰ cs row

module _ {δ : Dims} {W : World δ} (S : Structure W) (Q : Partition W) {ws : ℕ → Worker} {row : List Call} {now : ℕ} {starts : ℕ → ℕ} (R : Rowed W ws row now starts) {cs : List Call} (p : Permᴰ cs row) where
  -- nothing happens
  pub row_waits : RowAfter W ws (suc now) starts (cs ++ [])
  row_waits =
      record {
        row = row;
        rowed = record { rows = row-later refl R.rows; open_calls = λ i b. let o = R.open_calls i b in record { begun = omega (arith, o.begun); within = o.within; since = o.since } };
        perm = rw append-nil p;
      }

  module _ (i : ℕ) (busy : (ws i).act ≢ idle) {os : List Opened} (o : Newest os i (starts i) (ws i).key) where
    -- a turn that is carried out
    pub row-turn : {W' : World δ} {c : Worker} {a : Answer} → Rowing W W' (ws i) c a → RowAfter W' (upd ws i c) (suc now) starts (cs ++ ends_with i now a os)
    unfolding ends_with
    row-turn {W'} {c} (goes E b n e y) =
        record {
          row = row;
          rowed = rowed_step E Q R i c (λ d j. inl j) (row-later (book_stays E Q b) R.rows) (λ z. (busy, e));
          perm = rw append-nil p;
        }
    row-turn {W'} {c} (ends_new_lem {n = n} k q e z) =
        record {
          row = row ++ (ended (ws i) (New n) (starts i) now ∷ []);
          rowed = rw e (rowed_new S Q R i busy c z k q);
          perm = rw (o.ends now (New n)) (Permᴰ.append_right _ p);
        }
    row-turn {W'} {c} (ends_found {R = n} k q e z) =
        record {
          row = row ++ (ended (ws i) (Found n) (starts i) now ∷ []);
          rowed = rw e (rowed_found S Q R i busy c z k q);
          perm = rw (o.ends now (Found n)) (Permᴰ.append_right _ p);
        }
    row-turn {W'} {c} (ends_absent u e z) =
        record {
          row = row ++ (ended (ws i) Absent (starts i) now ∷ []);
          rowed = rw e (rowed_absent S Q R i busy c z u);
          perm = rw (o.ends now Absent) (Permᴰ.append_right _ p);
        }

    -- a turn that ends "full"
    pub row-full-turn : (c : Worker) → c.act ≡ idle → Unseen W (ws i).key (ws i).since → RowAfter W (upd ws i c) (suc now) starts (cs ++ ends_with i now Full os)
    unfolding ends_with
    row-full-turn c z u =
        let (pre, post, is, k) = rowed_full S Q R i busy c z u in
        record {
          row = pre ++ ended (ws i) Full (starts i) now ∷ post;
          rowed = k;
          perm = rw (o.ends now Full) (perm_insert _ pre post (rw is at p));
        }
