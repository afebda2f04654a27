-- `settings::level_words` meets its contract.
-- Relies on the laws named below.
use Rattle.settings.specs.Sizes.{level_words}
use mathlib.Core.Path.{ap}
use Prim.Native.Nat.{ℕ, ◌+◌}
use borrow.Author.Rules.{rules}
use Rattle.settings.proofs.level_words.Goals as goal

pub returns : goal.returns
unfolding level_words
returns c = (ap (λ (n : ℕ). 2 + n) c.entries.ensures.0, search rules)
