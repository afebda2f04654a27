-- What a moving turn leaves within bounds: the number of Moves changes by one at most, and the nodes remembered stay within a record's room.
-- Relies on Asked for the room that a word read has.
use mathlib.Core.Path.{◌≡◌, refl, sym, subst}
use mathlib.Core.Bool.{Bool, true}
use Prim.Native.Nat.{ℕ, ◌+◌, ◌≤◌}
use native.Mathlib.Omega.{arith}
use Rattle.words.specs.Choice.{pick, both}
use Rattle.words.proofs.Choice.{pick-both, both_right, via}
use Rattle.settings.specs.Sizes.{max_limit}
use Rattle.settings.specs.Cut.{Sized}
use Rattle.settings.specs.declared.Settings.{Settings}
use Rattle.record.specs.declared.Head.{Head}
use Rattle.mover.specs.declared.Mover.{Mover}
use Rattle.mover.specs.Cut.{stays, refuses, forget_in, word_asked, word_head, word_inner, set_done, begun_cut, ends}
use Rattle.mover.specs.Moved.{Gave, Counts, as_many, one_move_more, one_less}
use Rattle.mover.proofs.Asked.{room_most}

-- both bounds of what a method gives
pub record Bounded (v : Mover) (r : Gave) : Type 0 where
  pub counts : Counts v r.mover
  pub most : v.inner.count ≤ max_limit → r.mover.inner.count ≤ max_limit

module _ (v : Mover) (s : Settings) where
  pub bounded_refused : Bounded v (refuses v s)
  bounded_refused = record { counts = as_many refl; most = λ h. h }

  pub bounded_done : Bounded v (set_done v s)
  unfolding forget_in
  bounded_done = record { counts = as_many refl; most = λ h. omega arith }

  pub bounded_begun : Bounded v (begun_cut v s)
  bounded_begun = record { counts = one_move_more refl; most = λ h. omega arith }

  pub bounded_stay : (h : Head) {r : Gave} → r ≡ stays v s h v.inner → Bounded v r
  bounded_stay h p = subst (λ (x : Gave). Bounded v x) (sym p) (record { counts = as_many refl; most = λ k. k })

  -- a word of the chain: where it names a node, there is room to remember it
  pub bounded_chain :
      (word : ℕ) (x : Bool) {q : Bool} {r : Gave}
      → r ≡ stays v s (word_head v.head v.inner word) (word_inner v.inner word) → q ≡ both x (word_asked s v.inner word) → q ≡ true
      → Sized s → Bounded v r
  bounded_chain word x p a e z =
      subst (λ (y : Gave). Bounded v y) (sym p) (record { counts = as_many refl; most = λ k. room_most s v.inner word (both_right x _ (via a e)) k z })

  -- one Move less
  pub bounded_end : {r : Gave} → r ≡ ends v s → r.mover.moves + 1 ≡ v.moves → Bounded v r
  bounded_end p e = record { counts = one_less e; most = λ k. rw p k }

  -- a word read or met by a failed exchange
  pub bounded_word : (q : Bool) (h : Head) {r : Gave} → r ≡ pick q (stays v s h v.inner) (refuses v s) → Bounded v r
  bounded_word q h p =
      subst (λ (x : Gave). Bounded v x) (sym p)
      (pick-both (λ (x : Gave). Bounded v x) q (λ _. bounded_stay h refl) (λ _. bounded_refused))

  pub bounded_met : (e q : Bool) (h : Head) {x r : Gave} → r ≡ pick e x (pick q (stays v s h v.inner) (refuses v s)) → Bounded v x → Bounded v r
  bounded_met e q h p b = subst (λ (x : Gave). Bounded v x) (sym p) (pick-both (λ (x : Gave). Bounded v x) e (λ _. b) (λ _. bounded_word q h refl))
