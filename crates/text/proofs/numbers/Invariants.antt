-- What the loop of `text::numbers` keeps.
-- Relies on the ways through the loop.
use Rattle.std.proofs.Common.{◌≡◌, true, take, length}
use Rattle.text.specs.Commands.{all_numbers, values}
use Rattle.text.proofs.numbers.Given as goal

abbrev pub invariant-loop-k : goal.invariant-loop-k
invariant-loop-k g l = (length l.n-items ≡ g.row.N) × (take l.k l.n-items ≡ values l.k l.line) × (all_numbers l.k l.line ≡ true)
