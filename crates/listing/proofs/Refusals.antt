-- Demand 1 of a "next", proved: each number in exactly its own case.
-- Relies on the laws of the first no.
use Prim.Native.Nat.{ℕ}
use mathlib.Core.Path.{◌≡◌, refl, sym, ◌∙◌}
use native.Mathlib.Omega.{arith}
use Rattle.words.specs.Choice.{every, both}
use Rattle.settings.specs.declared.Settings.{Settings}
use Rattle.areas.specs.Memory.{Memory}
use Rattle.rules.specs.Refusals.{FirstNo}
use Rattle.rules.proofs.Questions.{first_no_lem, gives-first_no, never_first}
use Rattle.reach.specs.Reading.{reading_questions, questions_of}
use Rattle.reach.proofs.Reading.{all-answered, not-answered, not-six}
use Rattle.settings.proofs.Refusals.{refusal_positive}
use Rattle.listing.specs.Next.{refused, no_place, dangling, given, ended}
use Rattle.listing.specs.Refusals.{NextStatement}
use Rattle.listing.proofs.Unique.{in_range}

-- no question of 1 to 3 has 11
not_eleven : (w : ℕ) (s : Settings) (m : Memory) → ¬ (FirstNo 11 (questions_of w s m))
unfolding reading_questions every both
not_eleven w s m f = never_first refl f

pub next_refuses : NextStatement
next_refuses w s m place _ (refused {r} e) =
    record {
      carried = (λ z. absurd (refusal_positive r z), λ y. absurd (not-answered w s m e (refusal_positive r) y.0));
      refusal = λ k o o₆ o₁₁. (λ d. first_no_lem _ o (e ∙ d), λ f. sym e ∙ gives-first_no f);
      eleven = (λ d. absurd (not_eleven w s m (first_no_lem _ (λ z. refusal_positive r (d ∙ z)) (e ∙ d))), λ y. absurd (not-answered w s m e (refusal_positive r) y.0));
      six = (λ d. absurd (not-six w s m (first_no_lem _ (λ z. refusal_positive r (d ∙ z)) (e ∙ d))), λ y. absurd (not-answered w s m e (refusal_positive r) y.0));
      numbered = λ k q. refusal_positive r;
      unchanged = λ o. refl;
    }
next_refuses w s m place _ (no_place z l) =
    record {
      carried = (λ d. absurd (omega arith), λ y. let u = y.1 in absurd (omega arith));
      refusal = λ k o o₆ o₁₁. (λ d. absurd (o₁₁ (sym d)), λ f. absurd (o (sym (gives-first_no f) ∙ z)));
      eleven = (λ d. (all-answered w s m z, l), λ y. refl);
      six = (λ d. absurd (omega arith), λ y. let u = y.1 in absurd (omega arith));
      numbered = λ k q z. absurd (omega arith);
      unchanged = λ o. refl;
    }
next_refuses w s m place _ (dangling z l d) =
    record {
      carried = (λ e. absurd (omega arith), λ y. absurd (y.2 d));
      refusal = λ k o o₆ o₁₁. (λ e. absurd (o₆ (sym e)), λ f. absurd (o (sym (gives-first_no f) ∙ z)));
      eleven = (λ e. absurd (omega arith), λ y. let u = y.1 in absurd (omega arith));
      six = (λ e. (all-answered w s m z, l, d), λ y. refl);
      numbered = λ k q z. absurd (omega arith);
      unchanged = λ o. refl;
    }
next_refuses w s m place _ (given z d S) =
    record {
      carried = (λ e. (all-answered w s m z, (let a = S.above in let b = S.reachable.is_pixel_number in omega arith), d), λ y. refl);
      refusal = λ k o o₆ o₁₁. (λ e. absurd (o (sym e)), λ f. absurd (o (sym (gives-first_no f) ∙ z)));
      eleven = (λ e. absurd (omega arith), λ y. absurd (in_range S y.1));
      six = (λ e. absurd (omega arith), λ y. absurd (d y.2));
      numbered = λ n q. absurd (let y : ◌≡◌ {A = ℕ} 0 1 = cc in omega arith);
      unchanged = λ o. absurd (o refl);
    }
next_refuses w s m place _ (ended z l d n) =
    record {
      carried = (λ e. (all-answered w s m z, l, d), λ y. refl);
      refusal = λ k o o₆ o₁₁. (λ e. absurd (o (sym e)), λ f. absurd (o (sym (gives-first_no f) ∙ z)));
      eleven = (λ e. absurd (omega arith), λ y. let u = y.1 in absurd (omega arith));
      six = (λ e. absurd (omega arith), λ y. absurd (d y.2));
      numbered = λ n q. absurd (let y : ◌≡◌ {A = ℕ} 0 1 = cc in omega arith);
      unchanged = λ o. absurd (o refl);
    }
