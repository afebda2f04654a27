-- The measure of `printing::put_digits`: the call of itself asks for fewer digits.
-- Relies on nothing.
use Rattle.printing.proofs.+put_digits.Given as goal

abbrev pub decreases-put_digits : goal.decreases-put_digits
decreases-put_digits l = l.k
