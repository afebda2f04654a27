-- `words::copy_in` meets its contract.
-- Relies on Blocks for one word more and for all.
use lib.ListN.{length-set}
use borrow.Author.Rules.{rules}
use Rattle.words.proofs.Blocks.{in_more, in_all}
use Rattle.words.proofs.copy_in.Goals as goal

pub loop-k-preserved : goal.loop-k-preserved
loop-k-preserved c = search (rules, in_more, length-set)

pub returns : goal.returns
returns c = search (rules, in_all)
