-- `mover::Mover::turn` meets its contract.
-- Relies on Turns, on record for a kind known among several.
use Rattle.mover.proofs.Turns.{turn_other}
use Rattle.record.proofs.Numbers.{kind_but}
use Rattle.record.specs.Kinds.{kind_of, kinds}
use Rattle.words.specs.Choice.{both, every, pick}
use lib.Dec.{leb}
use mathlib.Core.Bool.{not}
use mathlib.Core.List.{[], ◌∷◌}
use mathlib.Core.Path.{refl}
use Rattle.mover.proofs.Mover.turn.Goals as goal

pub returns-in_default : goal.returns-in_default
unfolding kind_of kinds pick every both
returns-in_default c =
    turn_other _ _ _
    (kind_but _ (λ n. not (both (leb 11 n) (leb n 22))) (11 ∷ 12 ∷ 13 ∷ 14 ∷ 15 ∷ 16 ∷ 17 ∷ 18 ∷ 19 ∷ 20 ∷ 21 ∷ 22 ∷ []) (c.in_default.not-ChainHead, (c.in_default.not-ChainNext, (c.in_default.not-SetNext, (c.in_default.not-SetLook, (c.in_default.not-SetPut, (c.in_default.not-SetRead, (c.in_default.not-SetTail, (c.in_default.not-SetAppend, (c.in_default.not-SetLevel, (c.in_default.not-SetClose, (c.in_default.not-SetFollow, (c.in_default.not-MoveEnd, tt)))))))))))) refl)
