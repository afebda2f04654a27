-- `lists::turn_reply` meets its contract.
-- Relies on Tells for the number that the record's answer tells.
use mathlib.Core.Path.{ap, ◌∙◌}
use Rattle.rules.specs.Operations.{last_of}
use Rattle.lists.proofs.Tells.{told_full, told_other}
use Rattle.lists.proofs.turn_reply.Goals as goal

pub returns-in-Full : goal.returns-in-Full
returns-in-Full c = rw c.into.ensures (told_full _ _ (c.answer_in-answer.ensures ∙ ap last_of c.load.ensures) c.in-Full.is)

pub returns-in_default : goal.returns-in_default
returns-in_default c = c.replied.ensures ∙ told_other _ _ (c.answer_in-answer.ensures ∙ ap last_of c.load.ensures) c.in_default.not-Full
