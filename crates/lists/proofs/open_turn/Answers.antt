-- `lists::open_turn` meets its contract.
-- Relies on One for a list of one entry.
use Prim.Native.Nat.{ℕ}
use mathlib.Core.Path.{◌≡◌, refl, sym, ap, ◌∙◌}
use native.Mathlib.Omega.{arith}
use Rattle.settings.specs.Refusals.{outcome_no, refusal_no}
use Rattle.settings.proofs.Refusals.{refusal_positive}
use Rattle.record.specs.declared.Answer.TheVariants.{Nothing}
use Rattle.rules.specs.Operations.{reply}
use Rattle.lists.specs.Cut.{ended}
use Rattle.lists.proofs.One.{one_three, one_below, one_refused, one_told}
use Rattle.lists.proofs.open_turn.Goals as goal

pub run_list-r-requires-clause-workers_value : goal.run_list-r-requires-clause-workers_value
run_list-r-requires-clause-workers_value c = one_three _ _ _ _ _ c.requires

pub run_list-r-requires-clause-rest_value : goal.run_list-r-requires-clause-rest_value
run_list-r-requires-clause-rest_value c = one_below _ _ _ _ _ c.requires refl

pub returns-in-Ok : goal.returns-in-Ok
returns-in-Ok c =
    let r = c.run_list-r.result in
    one_told _ _ _ _ _ c.requires (ended r) c.run_list-r.ensures refl c.turn_reply.ensures c.with_counts.ensures
    (λ z. let o : ◌≡◌ {A = ℕ} 0 6 = sym (ap outcome_no c.in-Ok.is) ∙ z in omega arith)

pub returns-in-Err : goal.returns-in-Err
returns-in-Err c =
    let r = c.run_list-r.result in
    let n : outcome_no r.outcome ≡ refusal_no c.in-Err.q = ap outcome_no c.in-Err.is in
    one_refused _ _ _ _ _ c.requires (ended r) c.run_list-r.ensures refl (c.refusal.ensures ∙ ap (λ (k : ℕ). reply k Nothing 0 c.args.s) (sym n)) (λ z. refusal_positive c.in-Err.q (sym n ∙ z))
