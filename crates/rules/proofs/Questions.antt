-- Laws of the first no over any list of questions, and of an operation that is carried out unless one is answered no.
-- Relies on the definitions of the questions and of a refusal.
use Prim.Native.Nat.{ℕ}
use mathlib.Core.Path.{◌≡◌, refl, sym, ap, ◌∙◌}
use mathlib.Core.Logic.{◌≢◌}
use mathlib.Core.Bool.{Bool, true, false, not}
use mathlib.Core.List.{List, [], ◌∷◌}
use lib.Dec.{eqb}
use borrow.Author.Tests.{eqb-true, eqb-false, eq-eqb, not-true}
use Rattle.words.specs.Choice.{Question, asks, every, first_no}
use Rattle.words.proofs.Choice.{pick-both, pick_true, pick_false, both_left, both_right, both_true}
use Rattle.settings.specs.declared.Settings.{Settings}
use Rattle.areas.specs.Memory.{Areas}
use Rattle.rules.specs.Operations.{Result, refused, unless_refused}
use Rattle.rules.specs.Lists.{after}
use Rattle.rules.specs.Refusals.{FirstNo, here, later, AllYes, Numbered, Refuses}

-- no question has number n; of a written list of questions this is `refl`
abbrev pub Without : ℕ → List Question → Type 0
Without n qs = every (λ q. not (eqb q.number n)) qs ≡ true

-- a question of such a list has another number
other : (n : ℕ) (q : Question) (qs : List Question) → Without n (q ∷ qs) → q.number ≢ n
unfolding every
other n q qs o = eqb-false _ _ (not-true _ (both_left _ _ o))

-- and so have the questions after it
others : (n : ℕ) (q : Question) (qs : List Question) → Without n (q ∷ qs) → Without n qs
unfolding every
others n q qs o = both_right (not (eqb q.number n)) _ o

-- a number that is given is the first no
pub first_no_lem : {n : ℕ} (qs : List Question) → n ≢ 0 → first_no qs ≡ n → FirstNo n qs
unfolding first_no
first_no_lem [] h e = absurd (h (sym e))
first_no_lem {n} (q ∷ qs) h e =
    pick-both (λ m. m ≡ n → FirstNo n (q ∷ qs)) q.yes (λ p d. later p (first_no_lem qs h d)) (λ p d. here d p) e

-- the first no is the number that is given
pub gives-first_no : {n : ℕ} {qs : List Question} → FirstNo n qs → first_no qs ≡ n
unfolding first_no
gives-first_no (here d p) = pick_false _ _ _ p ∙ d
gives-first_no (later p f) = pick_true _ _ _ p ∙ gives-first_no f

-- where every answer is yes, no number is given
pub all_yes : (qs : List Question) → AllYes qs → first_no qs ≡ 0
unfolding first_no every
all_yes [] y = refl
all_yes (q ∷ qs) y = pick_true _ _ _ (both_left _ _ y) ∙ all_yes qs (both_right q.yes _ y)

-- where no number is given, every answer is yes
pub gives-all_yes : (qs : List Question) → Without 0 qs → first_no qs ≡ 0 → AllYes qs
unfolding first_no every
gives-all_yes [] o e = refl
gives-all_yes (q ∷ qs) o e =
    pick-both (λ m. m ≡ 0 → AllYes (q ∷ qs)) q.yes
    (λ p d. both_true p (gives-all_yes qs (others 0 q qs o) d))
    (λ p d. absurd (other 0 q qs o d))
    e

-- a number that no question has is not the first no
pub never_first : {n : ℕ} {qs : List Question} → Without n qs → FirstNo n qs → ⊥
never_first {n} o (here {q} {qs} d p) = other n q qs o d
never_first {n} o (later {q} {qs} p f) = never_first (others n q qs o) f

-- a question that has another number than the one given was answered yes
pub first-later : (k : ℕ) (b : Bool) (qs : List Question) {n : ℕ} → k ≢ n → first_no (asks k b ∷ qs) ≡ n → (b ≡ true) × (first_no qs ≡ n)
unfolding first_no
first-later k b qs {n} h = pick-both (λ m. m ≡ n → (b ≡ true) × (first_no qs ≡ n)) b (λ y e. (y, e)) (λ y e. absurd (h e))

-- a question that is answered yes is passed over
pub first_yes : (k : ℕ) {b : Bool} (qs : List Question) → b ≡ true → first_no (asks k b ∷ qs) ≡ first_no qs
unfolding first_no
first_yes k qs y = pick_true _ _ _ y

-- no question gives no number
pub none-given : {n : ℕ} → n ≢ 0 → first_no [] ≢ n
unfolding first_no
none-given h e = h (sym e)

-- the last question gives its number when it is answered no
pub last_no : (k : ℕ) (b : Bool) → k ≢ 0 → first_no (asks k b ∷ []) ≡ k → b ≡ false
unfolding first_no
last_no k b h = pick-both (λ m. m ≡ k → b ≡ false) b (λ y e. absurd (h (sym e))) (λ y e. y)

-- a reply with the number of the first no has each number in exactly its own case
pub numbered : (qs : List Question) (r : Result) → Without 0 qs → r.reply.number ≡ first_no qs → Numbered qs r
numbered qs r o e =
    record {
      carried = (λ z. gives-all_yes qs o (sym e ∙ z), λ y. e ∙ all_yes qs y);
      refusal = λ n h. (λ d. first_no_lem qs h (sym e ∙ d), λ f. e ∙ gives-first_no f);
    }

module _ (s : Settings) (a : Areas) (done : Result) (n : ℕ) where
  -- where no number is given it is carried out
  pub unless_carried : n ≡ 0 → unless_refused n s a done ≡ done
  unfolding unless_refused
  unless_carried z = pick_true _ _ _ (eq-eqb n 0 z)

  -- where a number is given it is refused
  pub unless_refused_lem : n ≢ 0 → unless_refused n s a done ≡ refused n s a
  unfolding unless_refused
  unless_refused_lem h = pick-both (λ r. r ≡ refused n s a) _ (λ e. absurd (h (eqb-true n 0 e))) (λ e. refl)

  -- the number of the reply, where one carried out gives 0
  pub unless_number : done.reply.number ≡ 0 → (unless_refused n s a done).reply.number ≡ n
  unfolding unless_refused
  unless_number z = pick-both (λ (r : Result). r.reply.number ≡ n) _ (λ e. z ∙ sym (eqb-true n 0 e)) (λ e. refl)

  -- a reply with number 0 is of one carried out
  pub unless_done : done.reply.number ≡ 0 → (unless_refused n s a done).reply.number ≡ 0 → unless_refused n s a done ≡ done
  unless_done z e = unless_carried (sym (unless_number z) ∙ e)

  -- a reply with another number than one carried out is a refusal
  pub unless_unchanged : (unless_refused n s a done).reply.number ≢ done.reply.number → unless_refused n s a done ≡ refused (unless_refused n s a done).reply.number s a
  unfolding unless_refused
  unless_unchanged = pick-both (λ (r : Result). r.reply.number ≢ done.reply.number → r ≡ refused r.reply.number s a) _ (λ e h. absurd (h refl)) (λ e h. refl)

  -- and that number is the refusal's
  pub unless_other : {m : ℕ} → m ≢ done.reply.number → (unless_refused n s a done).reply.number ≡ m → n ≡ m
  unfolding unless_refused
  unless_other {m} h = pick-both (λ (r : Result). r.reply.number ≡ m → n ≡ m) _ (λ e d. absurd (h (sym d))) (λ e d. d)

  -- a number that no question has is given only where it is carried out
  pub unless_zero : {m : ℕ} → n ≢ m → (unless_refused n s a done).reply.number ≡ m → n ≡ 0
  unfolding unless_refused
  unless_zero {m} h = pick-both (λ (r : Result). r.reply.number ≡ m → n ≡ 0) _ (λ e d. eqb-true n 0 e) (λ e d. absurd (h d))

-- an operation that asks first and is carried out with number 0
pub refuses : (qs : List Question) (s : Settings) (a : Areas) (done : Result) → Without 0 qs → done.reply.number ≡ 0 → Refuses qs s a (unless_refused (first_no qs) s a done)
refuses qs s a done o z =
    record {
      numbered = numbered qs (unless_refused (first_no qs) s a done) o (unless_number s a done (first_no qs) z);
      unchanged = λ h. let e = unless_unchanged s a done (first_no qs) (λ e. h (e ∙ z)) in (e, ap after e);
    }
