-- A turn that exchanges a cell, by its two ways: what holds of both ways' steps holds of the turn's.
-- Relies on the definitions of an exchange.
use Prim.Native.Nat.{ℕ}
use mathlib.Core.Path.{◌≡◌, sym, ◌∙◌}
use mathlib.Core.Bool.{true, false}
use Rattle.words.proofs.Choice.{pick-both, pick_true, pick_false, true_false}
use Rattle.areas.specs.Memory.{Memory, cell_at, set_cell, exchange}
use Rattle.areas.specs.declared.Cell.{Cell}
use Rattle.record.specs.declared.Head.{Head}
use Rattle.rules.specs.Steps.{Step, expected, exchanging}

-- done, the cell is written; failed, nothing is, and the word met is the cell's
pub exchange-both :
    (P : Step → Type 0) (w : ℕ) (h : Head) (x : Cell) (b : ℕ) (done : Memory → Step) (failed : ℕ → Memory → Step) (m : Memory)
    → (expected h (cell_at w m x) ≡ true → P (done (set_cell w m x b)))
    → (expected h (cell_at w m x) ≡ false → P (failed (cell_at w m x) m))
    → P (exchanging w h x b done failed m)
unfolding exchanging exchange expected
exchange-both P w h x b done failed m y n =
    pick-both P (expected h (cell_at w m x))
    (λ e. rw (pick_true (expected h (cell_at w m x)) (set_cell w m x b) m e) (y e))
    (λ e. rw (pick_false (expected h (cell_at w m x)) (set_cell w m x b) m e) (n e))

-- by one of the ways, where the test is known
module _ (P : Step → Type 0) (w : ℕ) (h : Head) (x : Cell) (b : ℕ) (done : Memory → Step) (failed : ℕ → Memory → Step) (m : Memory) where
  pub exchange_done : P (done (set_cell w m x b)) → expected h (cell_at w m x) ≡ true → P (exchanging w h x b done failed m)
  exchange_done p y = exchange-both P w h x b done failed m (λ e. p) (λ n. absurd (true_false (sym y ∙ n)))

  pub exchange_failed : P (failed (cell_at w m x) m) → expected h (cell_at w m x) ≡ false → P (exchanging w h x b done failed m)
  exchange_failed p n = exchange-both P w h x b done failed m (λ y. absurd (true_false (sym y ∙ n))) (λ e. p)
