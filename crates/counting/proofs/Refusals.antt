-- Demand 1 of a count, proved: each number in exactly its own case.
-- Relies on the laws of the first no.
use mathlib.Core.Path.{refl, sym, ◌∙◌}
use native.Mathlib.Omega.{arith}
use Rattle.rules.proofs.Questions.{first_no_lem, gives-first_no}
use Rattle.reach.proofs.Reading.{all-answered, not-answered, not-six}
use Rattle.counting.specs.Count.{refused, dangling, counted}
use Rattle.counting.specs.Refusals.{CountRefusals}

pub count-refuses : CountRefusals
count-refuses w s m _ (refused h e) =
    record {
      carried = (λ z. absurd (h z), λ y. absurd (not-answered w s m e h y.0));
      refusal = λ k o o₆. (λ d. first_no_lem _ o (e ∙ d), λ f. sym e ∙ gives-first_no f);
      six = (λ d. absurd (not-six w s m (first_no_lem _ (λ z. h (d ∙ z)) (e ∙ d))), λ y. absurd (not-answered w s m e h y.0));
      nothing = λ o. refl;
      counts = λ z. absurd (h z);
    }
count-refuses w s m _ (dangling z d) =
    record {
      carried = (λ e. absurd (omega arith), λ y. absurd (y.1 d));
      refusal = λ k o o₆. (λ e. absurd (o₆ (sym e)), λ f. absurd (o (sym (gives-first_no f) ∙ z)));
      six = (λ e. (all-answered w s m z, d), λ y. refl);
      nothing = λ o. refl;
      counts = λ e. absurd (omega arith);
    }
count-refuses w s m _ (counted z d C) =
    record {
      carried = (λ e. (all-answered w s m z, d), λ y. refl);
      refusal = λ k o o₆. (λ e. absurd (o (sym e)), λ f. absurd (o (sym (gives-first_no f) ∙ z)));
      six = (λ e. absurd (omega arith), λ y. absurd (d y.1));
      nothing = λ o. absurd (o refl);
      counts = λ e. C;
    }
