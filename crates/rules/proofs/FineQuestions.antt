-- In a state of the invariant questions 1 to 4 of an operation on a worker of the table are answered yes.
-- Relies on the invariant of a state.
use Prim.Native.Nat.{ℕ, ◌≤◌, ◌<◌}
use mathlib.Core.Path.{◌≡◌, refl}
use mathlib.Core.Bool.{true}
use native.Mathlib.Omega.{arith}
use borrow.Author.Tests.{lt-ltb, ltb-true, le-leb}
use Rattle.words.proofs.Choice.{both_true}
use Rattle.settings.specs.Sizes.{question1, question2, question3, level_count, within}
use Rattle.settings.specs.declared.Settings.{Settings}
use Rattle.rules.specs.Asked.{question4}
use Rattle.rules.specs.Operations.{question2_of}
use Rattle.rules.specs.Lists.{State}
use Rattle.trie.proofs.Whole.{Worker}
use Rattle.rules.proofs.Invariant.{WorldOf, Fine}

module _ {w : ℕ} {s₀ : Settings} {x : State} {W : WorldOf w s₀} {ws : ℕ → Worker} (F : Fine w s₀ x W ws) where
  pub same_levels : level_count w x.settings ≡ level_count w s₀
  unfolding level_count
  same_levels = let S = F.table.same in rw (S.workers_is, S.limit_is, S.nodes_is) refl

  pub yes_1 : question1 x.settings ≡ true
  unfolding question1
  yes_1 = let S = F.table.same in rw (S.width_is, S.workers_is, S.limit_is, S.nodes_is, S.viewers_is) F.table.ranges

  pub yes_2 : question2_of w x.settings x.areas ≡ true
  unfolding question2
  yes_2 =
      let S = F.table.same in
      rw (same_levels, S.nodes_is, S.workers_is)
      (both_true (le-leb _ _ F.table.shows.node_room) (both_true (le-leb _ _ F.table.shows.level_room) (le-leb _ _ F.room)))

  pub yes_3 : question3 w x.settings ≡ true
  unfolding question3 within
  yes_3 =
      let t = F.levels.total in
      let l : 1 ≤ x.settings.levels_taken = omega arith in
      rw (same_levels, F.table.same.nodes_is)
      (both_true (le-leb _ _ F.table.nodes_le) (both_true (le-leb _ _ l) (le-leb _ _ F.table.levels_le)))

  pub yes_4 : (i : ℕ) → i < s₀.workers → question4 x.settings i ≡ true
  unfolding question4
  yes_4 i here = rw F.table.same.workers_is (lt-ltb _ _ here)

  -- and who is answered yes by question 4 is a worker of the table
  pub worker_of_lem : {i : ℕ} → question4 x.settings i ≡ true → i < s₀.workers
  unfolding question4
  worker_of_lem {i} q = let l : i < x.settings.workers = ltb-true _ _ q in rw F.table.same.workers_is at l
