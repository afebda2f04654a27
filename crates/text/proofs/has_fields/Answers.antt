-- `text::has_fields` meets its contract.
-- Relies on the ways: the commas that the library's chain gives, and so the fields.
use Rattle.std.proofs.Common.{rules, tests, arith, ◌∙◌, ap, eqb, ◌+◌}
use Rattle.std.proofs.lemmas.Iterator.{YieldsList-from_slice, YieldsList-from_take}
use Rattle.std.proofs.lemmas.Iterator.Consumers.{count_from_yields_List, YieldsList-from_filter, YieldsList-at}
use Rattle.text.proofs.Ways.{fields_told}
use Rattle.text.proofs.has_fields.Goals as goal

pub returns : goal.returns
returns c =
    let commas = count_from_yields_List c.take.result _ c.count.ensures.ran (YieldsList-from_take c.args.n (YieldsList-at c.take.ensures.source (YieldsList-from_filter _ (λ x. eqb x 44) (YieldsList-from_slice c.args.line.now cc) c.filter.ensures.closure (λ x b q k. search (rules, tests)))) (omega arith)) in
    ap (λ m. eqb (m + 1) c.args.n) commas ∙ fields_told c.args.line.now c.args.n
