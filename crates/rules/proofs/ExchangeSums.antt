-- A number of each exchange, added up operation by operation, is its total over the starts and turns since the newest opening.
-- Relies on what operations leave.
use Prim.Native.Nat.{ℕ, ◌+◌}
use mathlib.Core.Path.{◌≡◌, refl, sym, ap, subst, ◌∙◌}
use mathlib.Core.Bool.{Bool, true, false}
use mathlib.Core.List.{List, [], ◌∷◌, ◌++◌}
use native.Mathlib.Omega.{arith}
use lib.Dec.{eqb}
use Rattle.words.specs.Choice.{pick}
use Rattle.record.specs.declared.Exchange.{Exchange}
use Rattle.rules.specs.Operations.{opening}
use Rattle.rules.specs.Lists.{State, after}
use Rattle.rules.specs.Calls.{Event, happens, state_after}
use Rattle.rules.specs.Sequences.{Operation, opens, starts, turns, lists, asks, leaves, events_of, Since, since, since_all, since_opening}
use Rattle.rules.specs.Exchanges.{total}
use Rattle.rules.specs.ExchangeBound.{begins, sum_since}
use Rattle.rules.proofs.Operated.{ComesAt, same_width, leads, comes_on}

module _ (f : Exchange → ℕ) where
  none-total : (w : ℕ) (x : State) → total f w [] x ≡ 0
  unfolding total
  none-total w x = refl

  append-total : (w : ℕ) (es fs : List Event) (x : State) → total f w (es ++ fs) x ≡ total f w es x + total f w fs (state_after w es x)
  unfolding total state_after
  append-total w [] fs x = omega arith
  append-total w (e ∷ es) fs x = let h = append-total w es fs (after (happens w e x)) in omega arith

  -- the total over what is noted in h
  abbrev noted : Since → ℕ
  noted h = total f h.began.settings.width h.events h.began

  -- an opening: 0 if it is carried out
  opened_sum : (b : Bool) (h : Since) (y : State) (w : ℕ) (x : State) → pick b 0 (noted h) + total f w [] x ≡ noted (pick b (record { began = y; events = [] }) h)
  unfolding pick
  opened_sum true h y w x = let z = none-total w x in let u = none-total y.settings.width y in omega arith
  opened_sum false h y w x = let z = none-total w x in omega arith

  -- starts and turns more
  more_sum : (h : Since) (es : List Event) (x : State) → ComesAt h x → pick false 0 (noted h) + total f x.settings.width es x ≡ noted (record { began = h.began; events = h.events ++ es })
  unfolding pick
  more_sum h es x c =
      let w : ℕ = h.began.settings.width in
      subst (λ (v : ℕ). noted h + total f v es x ≡ total f w (h.events ++ es) h.began) (same_width c)
      (sym (append-total w h.events es h.began ∙ ap (λ y. noted h + total f w es y) (leads c)))

  -- one operation more
  one_sum : (o : Operation) (h : Since) (x : State) → ComesAt h x → pick (begins o x) 0 (noted h) + total f x.settings.width (events_of o x) x ≡ noted (since o x h)
  unfolding begins since events_of pick
  one_sum (opens s) h x c = opened_sum (eqb (opening s.width s x.areas).reply.number 0) h (after (opening s.width s x.areas)) x.settings.width x
  one_sum (starts looks i row column) h x c = more_sum h _ x c
  one_sum (turns i) h x c = more_sum h _ x c
  one_sum (lists l limit) h x c = more_sum h _ x c
  one_sum (asks i) h x c = let z = none-total x.settings.width x in omega arith

  sum_is : (os : List Operation) (h : Since) (x : State) → ComesAt h x → sum_since f os x (noted h) ≡ noted (since_all os x h)
  unfolding sum_since since_all
  sum_is [] h x c = refl
  sum_is (o ∷ os) h x c = ap (sum_since f os (leaves o x)) (one_sum o h x c) ∙ sum_is os (since o x h) (leaves o x) (comes_on c o)

  -- from an opening on
  pub sum_opened : (os : List Operation) (x : State) → ComesAt (record { began = x; events = [] }) x → sum_since f os x 0 ≡ noted (since_opening os x)
  sum_opened os x c = ap (sum_since f os x) (sym (none-total x.settings.width x)) ∙ sum_is os (record { began = x; events = [] }) x c
