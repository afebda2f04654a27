-- What a method for a kind of turn gives: a number, and what is left with it. This follows the code's cut and is tied to the definitions
-- of the operations by lemmas. Relies on rules for the steps.
use Rattle.std.specs.Prelude.{ℕ, Bool, List, []}
use Rattle.words.specs.Choice.{pick}
use Rattle.settings.specs.declared.Settings.{Settings}
use Rattle.areas.specs.Memory.{Memory}
use Rattle.record.specs.declared.Answer.TheVariants.{Nothing, Full}
use Rattle.record.specs.declared.Head.{Head}
use Rattle.record.specs.declared.Move.{Move}
use Rattle.rules.specs.Heads.{ended}
use Rattle.rules.specs.Steps.{Step, step, expected}

-- a number, and what is left with it
pub record Tried : Type 0 where
  pub number : ℕ
  pub step' : Step

abbrev pub tried : ℕ → Step → Tried
tried n t = record { number = n; step' = t }

-- a refusal by 6 leaves everything; 9 ends the call
unfoldable pub unless_six : Bool → Settings → Head → List Move → Memory → Tried → Tried
unless_six q s h ms m t = pick q t (tried 6 (step Nothing s h ms m))

unfoldable pub unless_nine : Bool → Settings → Head → Memory → Step → Tried
unless_nine q s h m t = pick q (tried 0 t) (tried 9 (step Full s (ended 3 0 h.held_node h) [] m))

-- what is made of the word that an exchange met. The worker's level: the exchange is done. Another: it is asked, and acted on
abbrev pub exchange_tried : Settings → Head → List Move → ℕ → Memory → Step → Bool → Step → Tried
exchange_tried s h ms word m done asked failed = pick (expected h word) (tried 0 done) (unless_six asked s h ms m (tried 0 failed))
