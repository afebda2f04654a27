-- Turns that exchange a cell, in the code: what is made of the word met is what the definitions say, over any kind, cell and width.
-- Relies on areas for the exchange, on rules for the turns.
use mathlib.Core.Path.{◌≡◌, refl, ap, ◌∙◌}
use mathlib.Core.Bool.{Bool, true, false}
use mathlib.Core.List.{List}
use Prim.Native.Nat.{ℕ}
use lib.Dec.{eqb}
use Rattle.words.specs.Choice.{pick, both}
use Rattle.settings.specs.declared.Settings.{Settings}
use Rattle.areas.specs.declared.Cell.{Cell}
use Rattle.areas.specs.Memory.{Memory, Exchanged, level_ref, cell_at, exchanged, exchange}
use Rattle.record.specs.declared.Head.{Head}
use Rattle.record.specs.declared.Move.{Move}
use Rattle.rules.specs.Steps.{Step, expected, exchanging}
use Rattle.rules.specs.Asked.{exchanges}
use Rattle.steps.specs.Tried.{Tried, tried, unless_six, exchange_tried}

-- what is asked before the exchange, room for what begins where it is done, the cell, what it is exchanged to, the two ways, and what is asked of the word
module _ (w : ℕ) (s : Settings) (h : Head) (ms : List Move) (m : Memory) (before room : Bool) (y : Cell) (b : ℕ) (done : Memory → Step) (failed : ℕ → Memory → Step) (asks : ℕ → Memory → Bool) where
  abbrev asked : Tried
  asked = unless_six (both before (exchanges w h y room (λ v. asks v m) m)) s h ms m (tried 0 (exchanging w h y b done failed m))

  -- what is made of the word and the memory that the exchange gives
  abbrev made : Exchanged → Tried
  made e = exchange_tried s h ms e.word e.memory (done e.memory) (asks e.word e.memory) (failed e.word e.memory)

  made-asked : (q : Bool) → eqb (cell_at w m y) (level_ref h.level) ≡ q → before ≡ true → room ≡ true → made (exchange w m y (level_ref h.level) b) ≡ asked
  unfolding exchanges exchanging exchange expected unless_six both pick
  made-asked true e p r = simp (e, p, r)
  made-asked false e p r = simp (e, p, r)

  pub exchange-tried :
      {x : Cell} {c word : ℕ} {m' : Memory} {u : Tried}
      → u ≡ exchange_tried s h ms word m' (done m') (asks word m') (failed word m')
      → exchanged word m' ≡ exchange w m x (level_ref h.level) c → x ≡ y → c ≡ b → before ≡ true → room ≡ true
      → u ≡ asked
  exchange-tried {x} {c} u e x-is c-is p r =
      let z : exchange w m x (level_ref h.level) c ≡ exchange w m y (level_ref h.level) b = rw (x-is, c-is) refl in
      u ∙ ap made (e ∙ z) ∙ made-asked (eqb (cell_at w m y) (level_ref h.level)) refl p r
