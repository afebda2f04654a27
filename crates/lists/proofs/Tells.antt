-- The number of a turn that was done stands in its worker's record: it is 0 where the record does not tell "full".
-- Relies on rules for the answer that the record tells.
use Prim.Native.Nat.{ℕ, zero, suc}
use mathlib.Core.Path.{◌≡◌, refl, ap, ap₂, sym, ◌∙◌}
use mathlib.Core.Logic.{◌≢◌}
use mathlib.Core.Bool.{true, false, Bool}
use native.Mathlib.Omega.{arith}
use lib.Dec.{eqb}
use borrow.Author.Tests.{eqb-true}
use Rattle.words.specs.Choice.{pick}
use Rattle.words.proofs.Choice.{pick-both, pick_true}
use Rattle.settings.specs.declared.Settings.{Settings}
use Rattle.areas.specs.Memory.{Memory}
use Rattle.record.specs.declared.Answer.{Answer}
use Rattle.record.specs.declared.Answer.TheVariants.{Full, Open}
use Rattle.record.specs.declared.Head.{Head}
use Rattle.record.specs.Kinds.{kind_no, answer_of, answer_no}
use Rattle.record.specs.Layout.{Record}
use Rattle.rules.specs.Acts.{act}
use Rattle.rules.specs.Asked.{question8}
use Rattle.rules.specs.Operations.{reply, last_of}
use Rattle.rules.proofs.Tells.{Said, says_open, says_new, says_found, says_absent, Tells, act_tells}
use Rattle.lists.specs.Cut.{number_by, told_reply}

not_full : {a : Answer} → Said a → a ≢ Full
not_full says_open e = let z : ◌≡◌ {A = ℕ} 0 1 = cc in omega arith
not_full (says_new n) e = let z : ◌≡◌ {A = ℕ} 0 1 = cc in omega arith
not_full (says_found n) e = let z : ◌≡◌ {A = ℕ} 0 1 = cc in omega arith
not_full says_absent e = let z : ◌≡◌ {A = ℕ} 0 1 = cc in omega arith

-- an idle head with the answer's number 3 tells "full"
tells_full : (h : Head) → eqb (kind_no h.kind) 0 ≡ true → h.answer ≡ 3 → last_of h ≡ Full
unfolding last_of answer_of
tells_full h e f =
    let a : answer_of h.answer h.answer_node ≡ Full = ap (λ (c : ℕ). answer_of c h.answer_node) f in
    pick_true (eqb (kind_no h.kind) 0) (answer_of h.answer h.answer_node) Open e ∙ a

number_zero : (h : Head) → last_of h ≢ Full → number_by h ≡ 0
unfolding number_by
number_zero h d =
    pick-both (λ (n : ℕ). n ≡ 0) (eqb (kind_no h.kind) 0)
    (λ e. pick-both (λ (n : ℕ). n ≡ 0) (eqb h.answer 3) (λ f. absurd (d (tells_full h e (eqb-true _ _ f)))) (λ f. refl))
    (λ e. refl)

-- and its number is 9 where it tells "full"
nine_by : (c n : ℕ) → answer_of c n ≡ Full → ◌≡◌ {A = ℕ} (pick (eqb c 3) 9 0) 9
unfolding answer_of answer_no pick
nine_by zero n e = let z : ◌≡◌ {A = ℕ} 0 3 = ap answer_no e in absurd (omega arith)
nine_by (suc zero) n e = let z : ◌≡◌ {A = ℕ} 1 3 = ap answer_no e in absurd (omega arith)
nine_by (suc (suc zero)) n e = let z : ◌≡◌ {A = ℕ} 2 3 = ap answer_no e in absurd (omega arith)
nine_by (suc (suc (suc zero))) n e = refl
nine_by (suc (suc (suc (suc zero)))) n e = let z : ◌≡◌ {A = ℕ} 0 3 = ap answer_no e in absurd (omega arith)
nine_by (suc (suc (suc (suc (suc zero))))) n e = let z : ◌≡◌ {A = ℕ} 5 3 = ap answer_no e in absurd (omega arith)
nine_by (suc (suc (suc (suc (suc (suc c)))))) n e = let z : ◌≡◌ {A = ℕ} 0 3 = ap answer_no e in absurd (omega arith)

number_nine : (h : Head) → last_of h ≡ Full → number_by h ≡ 9
unfolding number_by last_of answer_no pick
number_nine h e = by (eqb (kind_no h.kind) 0) refl e
  where
    by : (b : Bool) → eqb (kind_no h.kind) 0 ≡ b → pick b (answer_of h.answer h.answer_node) Open ≡ Full → ◌≡◌ {A = ℕ} (pick b (pick (eqb h.answer 3) 9 0) 0) 9
    by true t f = nine_by h.answer h.answer_node f
    by false t f = let z : ◌≡◌ {A = ℕ} 4 3 = ap answer_no f in absurd (omega arith)

-- the reply that the head's answer makes
module _ (h : Head) (s : Settings) {a : Answer} (e : a ≡ last_of h) where
  pub told_full : a ≡ Full → reply 9 a 0 s ≡ told_reply h s
  told_full f = ap₂ (λ (n : ℕ) (b : Answer). reply n b 0 s) (sym (number_nine h (sym e ∙ f))) e

  pub told_other : (a ≡ Full → ⊥) → reply 0 a 0 s ≡ told_reply h s
  told_other f = ap₂ (λ (n : ℕ) (b : Answer). reply n b 0 s) (sym (number_zero h (λ z. f (e ∙ z)))) e

-- a worker with a call open
pub act_number : (w : ℕ) (v : Bool) (s : Settings) (r : Record) (m : Memory) → question8 r ≡ true → number_by (act w v s r m).record'.head ≡ 0
act_number w v s r m q =
    let k : Tells v (act w v s r m) = act_tells w v s r m q in
    number_zero (act w v s r m).record'.head (λ e. not_full k.said (sym k.answer_is ∙ e))
