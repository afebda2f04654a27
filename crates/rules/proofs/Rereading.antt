-- Read, Follow, SetRead and SetFollow: the count at a node that is met, the level to go on in, and question 6 of going back to it.
-- Relies on where the worker stands and on going back by previous words.
use Prim.Native.Nat.{ℕ, suc, ◌+◌, ◌-◌, ◌≤◌, min}
use mathlib.Core.Path.{◌≡◌, refl, ap, ◌∙◌}
use mathlib.Core.Logic.{◌≢◌}
use mathlib.Core.Bool.{true}
use mathlib.Core.List.{List}
use lib.Dec.{leb}
use native.Mathlib.Omega.{arith}
use borrow.Author.Tests.{leb-true, leb-false}
use Rattle.words.specs.Digits.{depths}
use Rattle.words.proofs.Choice.{pick-both, pick_true, pick_false}
use Rattle.settings.specs.declared.Settings.{Settings}
use Rattle.areas.specs.Memory.{Memory, level_ref, previous_at}
use Rattle.record.specs.declared.Head.{Head}
use Rattle.record.specs.Layout.{Record}
use Rattle.rules.specs.Steps.{more, child_of, back_meets}
use Rattle.rules.specs.Asked.{goes_back}
use Rattle.trie.proofs.Digits.{digit}
use Rattle.trie.proofs.Tree.{Published}
use Rattle.trie.proofs.Read.{go_back}
use Rattle.trie.proofs.Stand as theory
use Rattle.trie.proofs.Stand.{Pos, at_entry, at_node, passed, Met, met_node_lem, met-level}
use Rattle.trie.proofs.Search.{word}
use Rattle.trie.proofs.Whole.{Worker}
use Rattle.rules.proofs.Dims.{dims}
use Rattle.rules.proofs.Matches.{Place, entry, node}
use Rattle.rules.proofs.Invariant.{WorldOf, At}
use Rattle.rules.proofs.Reading.{not_free, node_ref_lem, level_ref_lem, named-level, previous_reads, child_of_lem, back_meets_lem}
use Rattle.rules.proofs.Standing.{Standing, leads_on}

-- the count at a node that is met from a place, and the level to go on in where level t is met
abbrev pub count_from : Settings → Head → Pos → ℕ
count_from s h at_entry = 1
count_from s h (at_node R C) = more s h.count

abbrev pub goes_to : ℕ → Head → List ℕ → Pos → ℕ → ℕ
goes_to w h levels at_entry t = t
goes_to w h levels (at_node R C) t = child_of w levels (depths w - 1) h.level t

module _ {w : ℕ} {s₀ s : Settings} {m : Memory} {W : WorldOf w s₀} {ws : ℕ → Worker} {i : ℕ} {r : Record} (a : At w s₀ s m W ws i r) {P : ℕ → Type 0} {p K H : ℕ} {x : Pos} (o : Standing W P r.head p K H x) where
  pub count_from_lem : count_from s r.head x ≡ theory.more (dims w s₀.limit) (passed x)
  unfolding more
  count_from_lem = by o.place
    where
      by : {x : Pos} → Place r.head x → count_from s r.head x ≡ theory.more (dims w s₀.limit) (passed x)
      by entry = omega arith
      by (node {R} {C} n c) =
          let l = a.table.same.limit_is in
          pick-both (λ k. k ≡ min (suc C) (suc s₀.limit)) (leb r.head.count s.limit) (λ y. omega (arith, leb-true)) (λ y. omega (arith, leb-false))

  -- going back comes to the child
  pub goes_to_is : {t c : ℕ} → Published W.tree t → ((p : ℕ → ℕ) → ((g : ℕ) → Published W.tree g → p g ≡ W.tree.prev g) → (k : ℕ) → W.tree.depth t ≤ W.tree.depth H + k → go_back p k H t ≡ c) → (x ≡ at_entry → t ≡ c) → goes_to w r.head m.levels x t ≡ c
  goes_to_is {t} {c} p g e = by x e
    where
      by : (x : Pos) → (x ≡ at_entry → t ≡ c) → goes_to w r.head m.levels x t ≡ c
      by at_entry e = e refl
      by (at_node R C) e =
          let z = a.inv.structure.tree_ok.bounded t p in
          ap (λ g. child_of w m.levels (depths w - 1) g t) o.level_is
          ∙ child_of_lem a.table (depths w - 1) H t
          ∙ g (previous_at w m.levels) (λ u q. previous_reads a.table u (not_free q)) (depths w - 1) (omega arith)

  pub back_ok : word W K H x ≢ level_ref H → goes_back w s.levels_taken r.head.level (word W K H x) m.levels ≡ true
  unfolding goes_back
  back_ok y = by (leads_on a o y)
    where
      by : Met W P H (digit (dims w s₀.limit) K (W.tree.depth H)) x (word W K H x) → goes_back w s.levels_taken r.head.level (word W K H x) m.levels ≡ true
      by (met_node_lem R q d f) = ap (λ v. goes_back w s.levels_taken r.head.level v m.levels) q ∙ pick_true _ _ _ (node_ref_lem R)
      by (met-level t q z k f d) =
          ap (λ v. goes_back w s.levels_taken r.head.level v m.levels) q ∙ pick_false _ _ _ (level_ref_lem t)
          ∙ ap (λ j. back_meets w s.levels_taken m.levels (depths w - 1) r.head.level j) (named-level t)
          ∙ ap (λ g. back_meets w s.levels_taken m.levels (depths w - 1) g t) o.level_is
          ∙ back_meets_lem a.table a.inv.structure z k
