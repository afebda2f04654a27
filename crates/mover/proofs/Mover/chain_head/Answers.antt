-- `mover::Mover::chain_head` meets its contract.
-- Relies on Asked, on Bounds, on Turns.
use Rattle.mover.proofs.Asked.{heads_asked}
use Rattle.mover.proofs.Bounds.{bounded_chain}
use Rattle.mover.proofs.Turns.{done_gives, home_word, refused_gives, word_is}
use Rattle.rules.specs.Moving.{chain_head}
use Rattle.words.proofs.Choice.{both_right, via}
use borrow.Author.Rules.{rules}
use Rattle.mover.proofs.Mover.chain_head.Goals as goal

pub chain_word-requires : goal.chain_word-requires
chain_word-requires c = record { sized = search rules; asked = search (rules, both_right, via) }

pub returns-then-chain_heads : goal.returns-then-chain_heads
unfolding chain_head
returns-then-chain_heads c = search (rules, done_gives, bounded_chain, heads_asked, word_is, home_word)

pub returns-else-chain_heads : goal.returns-else-chain_heads
returns-else-chain_heads c = search (rules, refused_gives, heads_asked)
