-- A worker's record has a call open exactly where the worker is not idle.
-- Relies on what a record shows, and on the kinds by number.
use Prim.Native.Nat.{ℕ}
use mathlib.Core.Path.{◌≡◌, refl, ap}
use mathlib.Core.Logic.{◌≢◌}
use mathlib.Core.Bool.{true, false}
use native.Mathlib.Omega.{arith}
use lib.Dec.{eqb}
use borrow.Author.Tests.{eqb-false, eq-eqb, ne_eqb, not-true}
use Rattle.record.specs.Kinds.{kind_no}
use Rattle.record.specs.Layout.{Record}
use Rattle.rules.specs.Asked.{question7, question8}
use Rattle.trie.proofs.Whole.{Act, idle, Worker}
use Rattle.rules.proofs.KindNumbers.{search_no, step_no}
use Rattle.rules.proofs.Matches.{Doing, rests, searches, moves, Matches}

pub busy_acts : {r : Record} {c : Worker} → Matches r c → question7 r ≡ false → c.act ≢ idle
unfolding question7 kind_no
busy_acts {r} {c} k q e = by k.doing e
  where
    z : kind_no r.head.kind ≢ 0
    z = eqb-false _ _ q

    by : {a : Act} → Doing r.head r.moves a → a ≡ idle → ⊥
    by (rests y v) p = z (ap kind_no y)
    by (searches y v n) p = let t : ◌≡◌ {A = ℕ} 0 1 = cc in omega arith
    by (moves y v n) p = let t : ◌≡◌ {A = ℕ} 0 1 = cc in omega arith

-- a worker that is not idle has a call open
pub acts_busy : {r : Record} {c : Worker} → Matches r c → c.act ≢ idle → question7 r ≡ false
unfolding question7
acts_busy {r} {c} k z = ne_eqb _ _ (by k.doing z)
  where
    by : {a : Act} → Doing r.head r.moves a → a ≢ idle → kind_no r.head.kind ≢ 0
    by (rests e v) y = λ q. y refl
    by (searches {p = p} e v n) y = λ q. omega (arith, (search_no p).0, ap kind_no e)
    by (moves {f = f} {s = s} e v n) y = λ q. omega (arith, step_no f s, ap kind_no e)

-- question 8 is question 7 turned round
pub busy_of : (r : Record) → question8 r ≡ true → question7 r ≡ false
unfolding question8
busy_of r q = not-true _ q

pub open_of : (r : Record) → question7 r ≡ false → question8 r ≡ true
unfolding question8
open_of r q = rw q refl

-- an idle worker has none
pub idle_rests : {r : Record} {c : Worker} → Matches r c → c.act ≡ idle → question7 r ≡ true
unfolding question7 kind_no
idle_rests {r} {c} k e = by k.doing e
  where
    by : {a : Act} → Doing r.head r.moves a → a ≡ idle → eqb (kind_no r.head.kind) 0 ≡ true
    by (rests y v) p = eq-eqb _ _ (ap kind_no y)
    by (searches y v n) p = let t : ◌≡◌ {A = ℕ} 0 1 = cc in absurd (omega arith)
    by (moves y v n) p = let t : ◌≡◌ {A = ℕ} 0 1 = cc in absurd (omega arith)
