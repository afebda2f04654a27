-- Laws of what the exchange of a turn came to: at most one a turn, done or failed, and none where the turn is refused.
-- Relies on the definition of a turn's exchange.
use Prim.Native.Nat.{ℕ, ◌+◌, ◌≤◌}
use mathlib.Core.Path.{◌≡◌, ap}
use mathlib.Core.Logic.{◌≢◌}
use native.Mathlib.Omega.{arith}
use borrow.Author.Tests.{ne_eqb}
use Rattle.words.proofs.Choice.{pick_false}
use Rattle.record.specs.declared.Exchange.{Exchange}
use Rattle.record.specs.declared.Exchange.TheVariants.{None, Done, Failed}
use Rattle.rules.specs.Operations.{turn}
use Rattle.rules.specs.Lists.{State}
use Rattle.rules.specs.Calls.{turns}
use Rattle.rules.specs.Exchanges.{exchange_at, done_in, failed_in}

pub one_exchange : (e : Exchange) → done_in e + failed_in e ≤ 1
unfolding done_in failed_in
one_exchange None = omega arith
one_exchange Done = omega arith
one_exchange Failed = omega arith

module _ (w i : ℕ) (x : State) (z : (turn w x.settings i x.areas).reply.number ≢ 0) where
  pub no_exchange : exchange_at w (turns i) x ≡ None
  unfolding exchange_at
  no_exchange = pick_false _ _ _ (ne_eqb _ _ z)

  pub none_done : done_in (exchange_at w (turns i) x) ≡ 0
  unfolding done_in
  none_done = ap done_in no_exchange

  pub none_failed : failed_in (exchange_at w (turns i) x) ≡ 0
  unfolding failed_in
  none_failed = ap failed_in no_exchange
