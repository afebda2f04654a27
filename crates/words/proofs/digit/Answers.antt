-- `words::digit` meets its contract.
-- Relies on the laws named below.
use mathlib.Core.Path.{refl, ap, sym, ◌∙◌}
use Prim.Native.Nat.{ℕ}
use borrow.Author.Rules.{rules}
use Rattle.words.specs.Choice.{both}
use Rattle.words.specs.Digits.{base, depths, digit}
use Rattle.words.proofs.Rows.{twos, threes, fours, sixes, divisor_positive, divisor_digit, last-digit}
use Rattle.words.proofs.digit.Goals as goal

pub nonzero_div-result : goal.nonzero_div-result
unfolding both base depths
nonzero_div-result c = divisor_positive 3 threes c.args.d c.divisor.ensures refl refl

pub nonzero_div-result-in-2 : goal.nonzero_div-result-in-2
unfolding both base depths
nonzero_div-result-in-2 c = divisor_positive 2 twos c.args.d c.divisor-in-2.ensures refl refl

pub nonzero_div-result-in-4 : goal.nonzero_div-result-in-4
unfolding both base depths
nonzero_div-result-in-4 c = divisor_positive 4 fours c.args.d c.divisor-in-4.ensures refl refl

pub nonzero_div-result-in_default : goal.nonzero_div-result-in_default
unfolding both base depths
nonzero_div-result-in_default c = divisor_positive 6 sixes c.args.d c.divisor-in_default.ensures refl refl

pub returns-in-3 : goal.returns-in-3
unfolding both base depths
returns-in-3 c = divisor_digit 3 threes c.args.d c.divisor.ensures refl refl c.args.pixel ∙ ap (λ (w : ℕ). digit w c.args.pixel c.args.d) (sym c.in-3.is)

pub returns-in-2 : goal.returns-in-2
unfolding both base depths
returns-in-2 c = divisor_digit 2 twos c.args.d c.divisor-in-2.ensures refl refl c.args.pixel ∙ ap (λ (w : ℕ). digit w c.args.pixel c.args.d) (sym c.in-2.is)

pub returns-in-4 : goal.returns-in-4
unfolding both base depths
returns-in-4 c = divisor_digit 4 fours c.args.d c.divisor-in-4.ensures refl refl c.args.pixel ∙ ap (λ (w : ℕ). digit w c.args.pixel c.args.d) (sym c.in-4.is)

pub returns-in_default : goal.returns-in_default
returns-in_default c = search (rules, last-digit)
