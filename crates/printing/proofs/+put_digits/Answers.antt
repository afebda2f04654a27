-- `printing::put_digits` meets its contract.
-- Relies on the digits of a number, from the last one on.
use Rattle.std.proofs.Common.{arith}
use Rattle.std.proofs.lemmas.Grind.{common_steps}
use Rattle.printing.proofs.Spelling.{digits_behind, digits_one, digits_last}
use Rattle.printing.proofs.+put_digits.Goals as goal
use Rattle.printing.proofs.+put_digits.Goals.{then-k-gt0+then-n-ge10, else-k-gt0, else-k-gt0-via-then-k-gt0+else-n-ge10, else-k-gt0-via-else-k-gt0}

pub returns-clause-digits : goal.returns-clause-digits
returns-clause-digits t c = elim c.if-k-gt0.branch [
  | then-k-gt0+then-n-ge10 w ↦ rw (digits_behind _ _ w.if-k-gt0.true w.if-n-ge10.true) (grind (arith, common_steps))
  | else-k-gt0 w ↦ elim w.else-k-gt0.branch [
    | else-k-gt0-via-then-k-gt0+else-n-ge10 v ↦ rw (digits_one _ _ v.if-n-ge10.false) (grind (arith, common_steps))
    | else-k-gt0-via-else-k-gt0 v ↦ rw (digits_last _ _ v.if-k-gt0.false) (grind (arith, common_steps))
  ]
]
