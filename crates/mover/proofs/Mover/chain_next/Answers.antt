-- `mover::Mover::chain_next` meets its contract.
-- Relies on Asked, on Bounds, on Turns.
use Rattle.mover.proofs.Asked.{nexts_asked}
use Rattle.mover.proofs.Bounds.{bounded_chain}
use Rattle.mover.proofs.Turns.{done_gives, last_word, refused_gives, word_is}
use Rattle.rules.specs.Moving.{chain_next}
use Rattle.words.proofs.Choice.{both_right, via}
use borrow.Author.Rules.{rules}
use Rattle.mover.proofs.Mover.chain_next.Goals as goal

pub chain_word-requires : goal.chain_word-requires
chain_word-requires c = record { sized = search rules; asked = search (rules, both_right, via) }

pub returns-then-chain_nexts : goal.returns-then-chain_nexts
unfolding chain_next
returns-then-chain_nexts c = search (rules, done_gives, bounded_chain, nexts_asked, word_is, last_word)

pub returns-else-chain_nexts : goal.returns-else-chain_nexts
returns-else-chain_nexts c = search (rules, refused_gives, nexts_asked)
