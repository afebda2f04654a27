-- What the loop of `text::number_of` keeps.
-- Relies on the ways through the loop.
use Rattle.std.proofs.Common.{◌≡◌, ◌≤◌, ◌<◌, ◌^◌, drop}
use Rattle.text.specs.Commands.{number_of, value_from}
use Rattle.text.proofs.number_of.Given as goal

abbrev pub invariant-loop-b : goal.invariant-loop-b
invariant-loop-b l = (l.n < 10 ^ l.b-index) × (l.n ≤ 9999) × (value_from l.n (drop l.b-index l.s) ≡ number_of l.s)
