-- `record::outer_fit` meets its contract.
-- Relies on Tests for the order of the Moves.
use Rattle.std.proofs.Common.{◌∙◌, refl, arith, rules}
use Rattle.std.proofs.lemmas.Iterator.{YieldsList-from_range}
use Rattle.std.proofs.lemmas.Iterator.Search.{all_from_yields_List}
use Rattle.words.proofs.Auto.{tests}
use Rattle.record.specs.Layout.{move_at}
use Rattle.record.specs.Fits.{outer_fits}
use Rattle.record.proofs.Tests.{all_moves}
use Rattle.record.proofs.outer_fit.Goals as goal

pub returns : goal.returns
unfolding outer_fits
returns c =
    all_from_yields_List (λ j. outer_fits c.args.s (move_at c.args.words.now c.args.i j)) _ _ c.all.result c.all.ensures.ran
    (YieldsList-from_range 0 c.args.n c.args.n refl (omega arith))
    (λ x b q k. search (tests, rules))
    ∙ all_moves c.args.s c.args.words.now c.args.i c.args.n
