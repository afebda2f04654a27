-- `words::fill_words` meets its contract.
-- Relies on Blocks for one word more and for all.
use lib.ListN.{length-set}
use borrow.Author.Rules.{rules}
use Rattle.words.proofs.Blocks.{fill_more, fill-all}
use Rattle.words.proofs.fill_words.Goals as goal

pub loop-k-preserved : goal.loop-k-preserved
loop-k-preserved c = search (rules, fill_more, length-set)

pub returns : goal.returns
returns c = search (rules, fill-all)
