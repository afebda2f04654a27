-- `words::copy_out` meets its contract.
-- Relies on Blocks for no word, one word more, and all.
use lib.ListN.{length-set}
use borrow.Author.Rules.{rules}
use Rattle.words.proofs.Blocks.{out_none, out_more, out_all}
use Rattle.words.proofs.copy_out.Goals as goal

pub loop-k-init : goal.loop-k-init
loop-k-init c = search (rules, out_none)

pub loop-k-preserved : goal.loop-k-preserved
loop-k-preserved c = search (rules, out_more, length-set)

pub returns : goal.returns
returns c = search (rules, out_all)
