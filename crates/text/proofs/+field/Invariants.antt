-- The measure of `text::field`: each call of itself asks for an earlier field.
-- Relies on nothing.
use Rattle.text.proofs.+field.Given as goal

abbrev pub decreases-field : goal.decreases-field
decreases-field l = l.k
