-- `lists::run_list` meets its contract.
-- Relies on Ways for the entries of a list.
use borrow.Author.Rules.{rules}
use Prim.Native.Nat.{ℕ}
use mathlib.Core.Path.{◌≡◌, sym, ap, subst, ◌∙◌}
use mathlib.Core.Bool.{true}
use mathlib.Core.List.{List, [], ◌∷◌}
use lib.Dec.{ltb}
use Rattle.std.specs.Slice.Iter.{iter_rest}
use Rattle.words.specs.Choice.{every}
use Rattle.settings.specs.declared.Settings.{Settings}
use Rattle.settings.specs.Refusals.{refusal_no}
use Rattle.settings.proofs.Refusals.{refusal_positive}
use Rattle.areas.specs.Memory.{Areas, areas}
use Rattle.lists.specs.Cut.{Run, Stand, stand, tally, ran_of, ran_list}
use Rattle.lists.proofs.Ways.{begin_three, begin_list, of_three, entry_fits, entry_keeps, list_on, list_end, empty, list_left, list_six, first_below, rest_below}
use Rattle.lists.proofs.run_list.Goals as goal

-- where the code stands goes on as the entries do
on : (s : Settings) (a : Areas) {x : Run} {u v : Stand} → u ≡ v → ran_of s v a ≡ x → ran_of s u a ≡ x
on s a e f = ap (λ (u : Stand). ran_of s u a) e ∙ f

pub loop-t-init : goal.loop-t-init
loop-t-init c =
    let a = c.args in
    let e = sym c.iter-after.ensures.rest in
    (search rules, search rules, search rules, subst (λ (l : List ℕ). every (λ j. ltb j a.s.workers) (a.first ∷ l) ≡ true) e c.requires.rest_value, search rules, search (rules, begin_three), ap (λ (l : List ℕ). ran_list a.s.width (a.first ∷ l) (ran_of a.s (tally 0 a.s.nodes_taken a.s.levels_taken a.limit 0 0) (areas a.nodes.now a.levels.now a.workers.now))) (sym e) ∙ begin_list a.s a.limit a.nodes.now a.levels.now a.workers.now (a.first ∷ a.rest.now))

pub returns-then-t-eq0 : goal.returns-then-t-eq0
returns-then-t-eq0 c = on _ _ c.carried_out.ensures (list_left _ _ _ (stand 0 c.loop-t.t) _ c.loop-t.invariant.6 c.if-t-eq0.true)

pub entry-requires-clause-workers_value : goal.entry-requires-clause-workers_value
entry-requires-clause-workers_value c = of_three _ _ _ _ _ c.loop-t.invariant.5

pub entry-requires-clause-i_lt_workers : goal.entry-requires-clause-i_lt_workers
entry-requires-clause-i_lt_workers c = first_below _ _ _ c.loop-t.invariant.3

pub returns-in-Err : goal.returns-in-Err
returns-in-Err c = list_six _ _ _ (stand (refusal_no c.in-Err.r) c.loop-t.t) _ (list_on _ _ _ _ c.in-Err.ensures c.loop-t.invariant.6) (refusal_positive c.in-Err.r)

pub loop-t-preserved : goal.loop-t-preserved
loop-t-preserved c =
    let v = c.loop-t.invariant in
    let a = c.args in
    let t = stand 0 c.loop-t.t in
    let u = stand 0 c.in-Ok.next in
    let b = areas c.entry.new.nodes c.entry.new.levels c.entry.new.workers in
    let q : c.in-Some.worker.now ≡ c.from-i.result = search rules in
    let e : iter_rest c.loop-t.after ≡ c.from-i.result ∷ iter_rest c.next.new.self = c.in-Some.ensures.steps ∙ ap (λ (n : ℕ). n ∷ iter_rest c.next.new.self) q in (
      search rules,
      search rules,
      search rules,
      subst (λ (l : List ℕ). every (λ j. ltb j a.s.workers) l ≡ true) e (rest_below _ _ _ v.3),
      entry_fits _ _ _ t u _ _ _ c.in-Ok.ensures v.4,
      entry_keeps _ _ t u _ _ _ c.in-Ok.ensures v.5,
      ap (λ (l : List ℕ). ran_list a.s.width l (ran_of a.s u b)) (sym e) ∙ list_on _ _ _ _ c.in-Ok.ensures v.6,
    )

pub returns-in-None : goal.returns-in-None
returns-in-None c =
    let a = c.args in
    let b = areas c.entry.new.nodes c.entry.new.levels c.entry.new.workers in
    on _ _ c.carried_out-in-None.ensures (list_end _ (list_on _ _ [] _ c.in-Ok.ensures (ap (λ (l : List ℕ). ran_list a.s.width (c.loop-t.i ∷ l) (ran_of a.s (stand 0 c.loop-t.t) (areas c.loop-t.nodes c.loop-t.levels c.loop-t.workers))) (sym (empty _ c.in-None.ensures.steps.0)) ∙ c.loop-t.invariant.6)))
