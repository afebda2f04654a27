-- The event of a start: what it leaves holds along the sequence; it is not answered 6 or "full".
-- Relies on the start that is carried out and on demand 1 of a start.
use Prim.Native.Nat.{ℕ, suc}
use mathlib.Core.Path.{◌≡◌, refl, sym, ap, ◌∙◌}
use mathlib.Core.Logic.{◌≢◌}
use mathlib.Core.Bool.{Bool}
use mathlib.Core.List.{List, [], ◌∷◌, ◌++◌, append-nil}
use native.Mathlib.Decide.{ℕ_discrete}
use native.Mathlib.Omega.{arith}
use borrow.Author.Tests.{eq-eqb, ne_eqb}
use Rattle.words.specs.Choice.{first_no}
use Rattle.words.specs.Digits.{pixel_number}
use Rattle.words.proofs.Choice.{pick_true, pick_false}
use Rattle.settings.specs.declared.Settings.{Settings}
use Rattle.record.specs.declared.Answer.TheVariants.{Nothing, Full, Open}
use Rattle.rules.specs.Asked.{question6_record}
use Rattle.rules.specs.Operations.{Result, start, start_questions}
use Rattle.rules.specs.Lists.{State, after}
use Rattle.rules.specs.Calls.{Call, Opened, starts, happens, opens, ends}
use Rattle.rules.specs.Demands.{EventOk}
use Rattle.rules.proofs.Questions.{first-later, first_yes, none-given, unless_number}
use Rattle.rules.proofs.Carried.{start_done}
use Rattle.rules.proofs.Refused.{refuses-start}
use Rattle.rules.proofs.Invariant.{at}
use Rattle.rules.proofs.Fitting.{fits_ok}
use Rattle.rules.proofs.Along.{Along, below, along_waits}
use Rattle.rules.proofs.Starting.{start_yes, opened-start}

-- no call opens where the start is refused
opens_not : (looks : Bool) (i row column k : ℕ) (os : List Opened) (r : Result) → r.reply.number ≢ 0 → opens (starts looks i row column) k r.reply os ≡ os
unfolding opens
opens_not looks i row column k os r z = pick_false _ _ _ (ne_eqb _ _ z)

opens_call : (looks : Bool) (i row column k : ℕ) (os : List Opened) (r : Result) → r.reply.number ≡ 0 → opens (starts looks i row column) k r.reply os ≡ record { worker = i; index = k; pixel = pixel_number row column } ∷ os
unfolding opens
opens_call looks i row column k os r z = pick_true _ _ _ (eq-eqb _ _ z)

ends-none : (looks : Bool) (i row column k : ℕ) (os : List Opened) (r : Result) → ends (starts looks i row column) k r.reply os ≡ []
unfolding ends
ends-none looks i row column k os r = refl

start-number : (w : ℕ) (x : State) (looks : Bool) (i row column : ℕ) → (start w x.settings looks i row column x.areas).reply.number ≡ first_no (start_questions w x.settings looks i row column x.areas)
unfolding start
start-number w x looks i row column = unless_number x.settings x.areas _ _ refl

module _ {w : ℕ} {s₀ : Settings} {x : State} {k : ℕ} {os : List Opened} {cs : List Call} (a : Along w s₀ x k os cs) (looks : Bool) (i row column : ℕ) where
  -- the record of a worker of the table fits
  start-not_6 : (start w x.settings looks i row column x.areas).reply.number ≢ 6
  unfolding start_questions question6_record
  start-not_6 e =
      let (y₁, e₁) = first-later 1 _ _ (λ z. omega arith) (sym (start-number w x looks i row column) ∙ e) in
      let (y₂, e₂) = first-later 2 _ _ (λ z. omega arith) e₁ in
      let (y₃, e₃) = first-later 3 _ _ (λ z. omega arith) e₂ in
      let (y₄, e₄) = first-later 4 _ _ (λ z. omega arith) e₃ in
      let (y₅, e₅) = first-later 5 _ _ (λ z. omega arith) e₄ in
      let (y₁₇, e₁₇) = first-later 17 _ _ (λ z. omega arith) e₅ in
      let f = fits_ok (at a.fine i (below a y₄)) in
      let (y₇, e₇) = first-later 7 _ _ (λ z. omega arith) (sym (first_yes 6 _ f) ∙ e₁₇) in
      none-given (λ z. omega arith) e₇

  -- by the number: the call opens, or nothing happens
  pub start_along : Along w s₀ (after (start w x.settings looks i row column x.areas)) (suc k) (opens (starts looks i row column) k (start w x.settings looks i row column x.areas).reply os) (cs ++ ends (starts looks i row column) k (start w x.settings looks i row column x.areas).reply os)
  start_along = by (ℕ_discrete (start w x.settings looks i row column x.areas).reply.number 0)
    where
      r : Result
      r = start w x.settings looks i row column x.areas

      by : Dec (r.reply.number ≡ 0) → Along w s₀ (after r) (suc k) (opens (starts looks i row column) k r.reply os) (cs ++ ends (starts looks i row column) k r.reply os)
      by (yes z) =
          rw (opens_call looks i row column k os r z, ends-none looks i row column k os r, append-nil, start_done w x.settings looks i row column x.areas z)
          (opened-start a looks i row column (start_yes w x looks i row column ((refuses-start w x.settings looks i row column x.areas).numbered.carried.0 z)))
      by (no z) =
          rw (opens_not looks i row column k os r z, ends-none looks i row column k os r, ((refuses-start w x.settings looks i row column x.areas).unchanged z).1)
          (along_waits a)

  -- a start is answered "open" or with a refusal
  start-not-full : (start w x.settings looks i row column x.areas).reply.answer ≢ Full
  start-not-full = by (ℕ_discrete (start w x.settings looks i row column x.areas).reply.number 0)
    where
      r : Result
      r = start w x.settings looks i row column x.areas

      by : Dec (r.reply.number ≡ 0) → r.reply.answer ≢ Full
      by (yes z) e = let q : Open ≡ Full = sym (ap (λ y. y.reply.answer) (start_done w x.settings looks i row column x.areas z)) ∙ e in let y : ◌≡◌ {A = ℕ} 0 1 = cc in omega arith
      by (no z) e = let q : Nothing ≡ Full = sym (ap (λ y. y.reply.answer) ((refuses-start w x.settings looks i row column x.areas).unchanged z).0) ∙ e in let y : ◌≡◌ {A = ℕ} 0 1 = cc in omega arith

  pub start_event : EventOk w (starts looks i row column) x
  unfolding happens
  start_event = record { full-taken = λ e. absurd (start-not-full e); never_6 = start-not_6 }
