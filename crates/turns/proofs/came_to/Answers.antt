-- `turns::came_to` meets its contract.
-- Relies on Exchanged, on record for a kind known among several.
use mathlib.Core.Path.{refl}
use mathlib.Core.List.{[], ◌∷◌}
use Rattle.words.specs.Choice.{pick, both, every}
use Rattle.record.specs.Kinds.{kind_no, kind_of, kinds}
use Rattle.record.proofs.Numbers.{kind_but}
use Rattle.turns.specs.Cut.{came_to}
use Rattle.turns.proofs.Exchanged.{is_none, none_is, came_kind}
use borrow.Author.Rules.{rules}
use Rattle.turns.proofs.came_to.Goals as goal

pub returns-in_default : goal.returns-in_default
unfolding kind_of kinds pick came_to every both
returns-in_default c =
    none_is _
    (kind_but _ (λ n. is_none (came_to n c.args.h c.args.before c.args.after)) (3 ∷ 7 ∷ 9 ∷ 15 ∷ 18 ∷ 20 ∷ []) (c.in_default.not-Put, (c.in_default.not-Append, (c.in_default.not-Close, (c.in_default.not-SetPut, (c.in_default.not-SetAppend, (c.in_default.not-SetClose, tt)))))) refl)
