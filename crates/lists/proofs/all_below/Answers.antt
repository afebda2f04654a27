-- `lists::all_below` meets its contract.
-- Relies on Ways for the test that goes on at each element.
use Rattle.std.proofs.Common.{◌∙◌, ltb, true, rules}
use Rattle.std.proofs.lemmas.Iterator.{YieldsList-from_slice}
use Rattle.std.proofs.lemmas.Iterator.Consumers.{fold_from_yields_List}
use Rattle.words.specs.Choice.{both}
use Rattle.words.proofs.Auto.{tests}
use Rattle.lists.proofs.Ways.{fold_every}
use Rattle.lists.proofs.all_below.Goals as goal

pub returns : goal.returns
unfolding both
returns c =
    fold_from_yields_List _ (λ b i. both b (ltb i c.args.n)) true _ c.fold.ensures.ran (YieldsList-from_slice c.args.list.now cc) (λ b x a q k. search (rules, tests)) ∙ fold_every _ true _
