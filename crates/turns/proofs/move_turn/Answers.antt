-- `turns::move_turn` meets its contract.
-- Relies on Moves for what is loaded and for each way in which a moving turn ends.
use Prim.Native.Nat.{ℕ}
use mathlib.Core.Path.{◌≡◌, refl}
use native.Mathlib.Omega.{arith}
use borrow.Author.Rules.{rules}
use Rattle.std.proofs.lemmas.Result.{err_from_is_err_and}
use Rattle.turns.proofs.Moves.{few_moves, few_nodes, loaded_count, loaded_least, move_err, move_done}
use Rattle.turns.proofs.move_turn.Goals as goal

pub load-v-requires : goal.load-v-requires
load-v-requires c = record { worker_words_in_bounds = search rules; i_bound = search (rules, few_moves); i_bound_2 = search (rules, few_nodes) }

pub turn-requires : goal.turn-requires
turn-requires c = search (rules, loaded_count, loaded_least)

pub store-requires : goal.store-requires
store-requires c =
    let p = c.requires in
    record { worker_words_in_bounds = p.worker_words_in_bounds; i_bound = few_moves _ _ _ _ p.h_value p.sized p.i_value p.bound }

pub returns-in_err-t : goal.returns-in_err-t
returns-in_err-t c =
    let p = c.requires in
    let q = err_from_is_err_and c.from_residual.result c.from_residual.ensures.1 in
    rw (q.1, q.2) (move_err _ _ _ _ _ _ _ c.load-v.result c.in_err-t.field-0.0 c.in_err-t.ensures c.load-v.ensures p.h_value p.sized p.i_value p.bound)

pub returns : goal.returns
returns c =
    let p = c.requires in
    rw c.turn_done.ensures
    (move_done _ _ _ _ _ _ _ c.load-v.result _ refl c.came_to.ensures c.store.ensures c.in_ok-t.ensures c.load-v.ensures (λ z. let o : ◌≡◌ {A = ℕ} 0 6 = z in omega arith) p.h_value p.sized p.i_value p.bound)
