-- A turn of a moving worker: what a record that fits says of its Moves, and the ways in which the turn ends.
-- Relies on mover for the turn, and on the ways in which a turn ends.
use Prim.Native.Nat.{ℕ, zero, suc, ◌-◌, ◌≤◌}
use mathlib.Core.Path.{◌≡◌, refl, sym, ap, subst, ◌∙◌}
use mathlib.Core.Bool.{Bool, true, false}
use mathlib.Core.List.{List, ◌∷◌}
use native.Mathlib.Omega.{arith}
use lib.Dec.{eqb, leb}
use lib.ListN.{length}
use borrow.Author.Tests.{ne_eqb, eqb-true, le-leb, lt-leb, leb-true}
use Rattle.words.specs.Choice.{pick, both, every}
use Rattle.words.specs.Digits.{DigitWidth, last_depth}
use Rattle.words.proofs.Choice.{pick-both, pick_true, pick_false, both_left, both_right, both_true, true_false}
use Rattle.settings.specs.Sizes.{max_limit, max_moves, most_depth, within}
use Rattle.settings.specs.Cut.{Sized}
use Rattle.settings.specs.declared.Settings.{Settings}
use Rattle.settings.proofs.Laws.{within_true, depths_most}
use Rattle.areas.specs.Memory.{Memory, memory, areas}
use Rattle.record.specs.declared.Exchange.{Exchange}
use Rattle.record.specs.declared.Exchange.TheVariants.{None}
use Rattle.record.specs.declared.Head.{Head}
use Rattle.record.specs.declared.Kind.{Kind}
use Rattle.record.specs.declared.Move.{Move}
use Rattle.record.specs.Kinds.{kind_no}
use Rattle.record.specs.Layout.{record', load, head_at, moves_at, move_from, move_at, first_moves, store}
use Rattle.record.specs.Fits.{fits, fits_by, call_fits, moving_fits, moves_fit, inner_fits, outer_fits, role_fits}
use Rattle.record.proofs.Pieces.{length-first}
use Rattle.rules.specs.Acts.{inner, outer, act_by}
use Rattle.rules.specs.Searching.{takes_node}
use Rattle.rules.specs.Asked.{reads_by, question9}
use Rattle.rules.specs.Steps.{Step}
use Rattle.rules.specs.Exchanges.{exchange_of}
use Rattle.steps.specs.Tried.{Tried, tried, unless_six, unless_nine}
use Rattle.mover.specs.declared.Mover.{Mover}
use Rattle.std.specs.Prelude.{Err}
use Rattle.settings.specs.declared.Refusal.{Refusal}
use Rattle.settings.specs.Refusals.{refusal_no}
use Rattle.mover.specs.Cut.{is_moving}
use Rattle.mover.specs.Words.{inner_at, mover_at, Keeps, mover_to}
use Rattle.mover.specs.Moved.{Gave, gave, Gives, list_after, moved}
use Rattle.mover.proofs.Stored.{loaded_moves, loaded_around, store_is}
use Rattle.turns.specs.Cut.{Outcome, tried_of, finished, turn_done, did, did_of, came_to}
use Rattle.turns.proofs.HeadKept.{kind_keeps}
use Rattle.turns.proofs.Exchanged.{tried_came, count-after}
use Rattle.turns.proofs.Finish.{refused_six, finish_six, finish_done, tried-memory}

-- a choice that is true, where the other branch is false
pick_yes : (b x : Bool) → pick b x false ≡ true → (b ≡ true) × (x ≡ true)
unfolding pick
pick_yes true x e = (refl, e)
pick_yes false x e = let z : false ≡ true = e in (e, cc)

-- a record that fits with a kind from 11 on
module _ (w : ℕ) (s : Settings) (l : List ℕ) (i : ℕ) (f : fits w false s (load l i) ≡ true) (low : 11 ≤ kind_no (head_at l i).kind) where
  fits_moving : (kind_no (head_at l i).kind ≤ 22) × (moving_fits w s (kind_no (head_at l i).kind) (first_moves l i (moves_at l i)) ≡ true)
  unfolding load fits fits_by
  fits_moving =
      let e : pick (leb (kind_no (head_at l i).kind) 22) (both (call_fits s (kind_no (head_at l i).kind) (head_at l i)) (moving_fits w s (kind_no (head_at l i).kind) (first_moves l i (moves_at l i)))) false ≡ true =
      sym (pick_false _ _ _ (lt-leb (kind_no (head_at l i).kind) 10 (omega arith))) ∙ both_right (role_fits false (kind_no (head_at l i).kind)) _ (sym (pick_false _ _ _ (ne_eqb (kind_no (head_at l i).kind) 0 (λ z. omega arith))) ∙ f)
      in
      let y = pick_yes _ _ e in
      (leb-true _ _ y.0, both_right _ _ y.1)

  kind_most : kind_no (head_at l i).kind ≤ 22
  kind_most = fits_moving.0

  fits_list : (leb (length (first_moves l i (moves_at l i))) (max_moves w) ≡ true) × (moves_fit s (kind_no (head_at l i).kind) (first_moves l i (moves_at l i)) ≡ true)
  unfolding moving_fits
  fits_list = pick_yes _ _ fits_moving.1

  first_fits : (n : ℕ) → moves_fit s (kind_no (head_at l i).kind) (first_moves l i n) ≡ true → (1 ≤ n) × (inner_fits s (kind_no (head_at l i).kind) (move_at l i (n - 1)).count ≡ true)
  unfolding first_moves moves_fit
  first_fits zero e = absurd (true_false (sym e))
  first_fits (suc n) e =
      let z : suc n - 1 ≡ n = omega arith in
      (omega arith, rw z (both_left _ _ e))

  second_fits : (n : ℕ) → 2 ≤ n → moves_fit s (kind_no (head_at l i).kind) (first_moves l i n) ≡ true → within (move_at l i (n - 2)).count s.limit ≡ true
  unfolding first_moves moves_fit every outer_fits
  second_fits zero h e = absurd (omega arith)
  second_fits (suc zero) h e = absurd (omega arith)
  second_fits (suc (suc n)) h e =
      let z : suc (suc n) - 2 ≡ n = omega arith in
      rw z (both_left _ _ (both_right (inner_fits s (kind_no (head_at l i).kind) (move_at l i (suc n)).count) _ e))

  moves_least : 1 ≤ moves_at l i
  moves_least = (first_fits (moves_at l i) fits_list.1).0

  moves_most : DigitWidth w → moves_at l i ≤ most_depth
  unfolding max_moves
  moves_most d =
      let n : length (first_moves l i (moves_at l i)) ≡ moves_at l i = length-first l i (moves_at l i) in
      let m : length (first_moves l i (moves_at l i)) ≤ last_depth w = leb-true _ _ fits_list.0 in
      let t : last_depth w ≤ most_depth = depths_most d in
      omega arith

  inner_most : Sized s → (move_at l i (moves_at l i - 1)).count ≤ max_limit
  unfolding inner_fits
  inner_most z =
      pick-both (λ (b : Bool). b ≡ true → (move_at l i (moves_at l i - 1)).count ≤ max_limit) _
      (λ t e. let q = within_true _ _ e in let a = z.ranges.limit.high in omega arith)
      (λ t e. let q : (move_at l i (moves_at l i - 1)).count ≡ 0 = eqb-true _ _ e in omega arith)
      (first_fits (moves_at l i) fits_list.1).1

  outer_most : Sized s → 2 ≤ moves_at l i → (move_at l i (moves_at l i - 2)).count ≤ max_limit
  outer_most z two =
      let q = within_true _ _ (second_fits (moves_at l i) two fits_list.1) in
      let a = z.ranges.limit.high in
      omega arith

-- the places that loading and storing a mover index lie in the worker's words: there are few enough Moves, and nodes remembered by the innermost one
module _ (s : Settings) (l : List ℕ) (i : ℕ) (h : Head) where
  pub few_moves : h ≡ head_at l i → Sized s → fits s.width false s (load l i) ≡ true → 11 ≤ kind_no h.kind → moves_at l i ≤ most_depth
  few_moves e z f k = moves_most s.width s l i f (rw e at k) z.ranges.width

  pub few_nodes : h ≡ head_at l i → Sized s → fits s.width false s (load l i) ≡ true → 11 ≤ kind_no h.kind → (move_at l i (moves_at l i - 1)).count ≤ max_limit
  few_nodes e z f k = inner_most s.width s l i f (rw e at k) z

-- the bounds of a mover that is loaded
module _ (w : ℕ) (s : Settings) (l : List ℕ) (i : ℕ) (h : Head) (v : Mover) where
  pub loaded_count : v ≡ mover_at l i h → h ≡ head_at l i → Sized s → fits w false s (load l i) ≡ true → 11 ≤ kind_no h.kind → v.inner.count ≤ max_limit
  unfolding mover_at inner_at move_at move_from
  loaded_count a e z f k = rw a (inner_most w s l i f (rw e at k) z)

  pub loaded_least : v ≡ mover_at l i h → h ≡ head_at l i → fits w false s (load l i) ≡ true → 11 ≤ kind_no h.kind → 1 ≤ v.moves
  unfolding mover_at
  loaded_least a e f k = rw a (moves_least w s l i f (rw e at k))

-- the questions that a moving kind is asked
nine_moving : (s : Settings) (k : Kind) (h : Head) (ms : List Move) (m : Memory) (t : Step) → h.kind ≡ k → 11 ≤ kind_no k → unless_nine (question9 s (record' h ms)) s h m t ≡ tried 0 t
unfolding unless_nine question9 takes_node
nine_moving s k h ms m t e low =
    let p : 11 ≤ kind_no h.kind = rw e low in
    pick_true _ _ _ (pick_false _ _ _ (pick_false _ _ _ (ne_eqb (kind_no h.kind) 2 (λ z. omega arith)) ∙ ne_eqb (kind_no h.kind) 6 (λ z. omega arith)))

is_moving_lem : (k : Kind) → 11 ≤ kind_no k → kind_no k ≤ 22 → is_moving k ≡ true
unfolding is_moving
is_moving_lem k low high = both_true (le-leb _ _ low) (le-leb _ _ high)

both_yes : (a b : Bool) → a ≡ true → both a b ≡ b
unfolding both
both_yes a b e = simp e

-- the Moves in a worker's words
abbrev innermost : ℕ → List ℕ → ℕ → Move
innermost w l i = move_at l i (moves_at l i - 1)

abbrev around : ℕ → List ℕ → ℕ → List Move
around w l i = first_moves l i (moves_at l i - 1)

-- what the turn of a loaded mover gives is what the definitions say
module _ (w : ℕ) (s : Settings) (i : ℕ) (l : List ℕ) (m m' : Memory) (r : Gave) where
  abbrev Turned : Mover → Type 0
  Turned v = Gives v s m r m' (λ a os. both (is_moving v.head.kind) (reads_by v.head.kind w s v.head (a ∷ os) m)) (λ a os. act_by v.head.kind w false s v.head (a ∷ os) m)

  abbrev all : List Move
  all = first_moves l i (moves_at l i)

  -- the questions of a moving kind, and its act
  asked_is : fits w false s (load l i) ≡ true → 11 ≤ kind_no (head_at l i).kind → unless_six (both (is_moving (head_at l i).kind) (reads_by (head_at l i).kind w s (head_at l i) all m)) s (head_at l i) all m (tried 0 (act_by (head_at l i).kind w false s (head_at l i) all m)) ≡ tried_of w false s (load l i) m
  unfolding tried_of load
  asked_is f low =
      rw (both_yes _ (reads_by (head_at l i).kind w s (head_at l i) all m) (is_moving_lem (head_at l i).kind low (kind_most w s l i f low)), nine_moving s (head_at l i).kind (head_at l i) all m (act_by (head_at l i).kind w false s (head_at l i) all m) refl low) refl

  loaded_is : Sized s → fits w false s (load l i) ≡ true → 11 ≤ kind_no (head_at l i).kind → Turned (mover_at l i (head_at l i)) → moved (mover_at l i (head_at l i)) r (innermost w l i) (around w l i) m' ≡ tried_of w false s (load l i) m
  unfolding mover_at
  loaded_is z f low g =
      let o : 1 ≤ moves_at l i = moves_least w s l i f low in
      g.gives (innermost w l i) (around w l i) (loaded_around w l i (head_at l i) o (inner_most w s l i f low z) (outer_most w s l i f low z))
      ∙ ap (λ (ms : List Move). unless_six (both (is_moving (head_at l i).kind) (reads_by (head_at l i).kind w s (head_at l i) ms m)) s (head_at l i) ms m (tried 0 (act_by (head_at l i).kind w false s (head_at l i) ms m))) (loaded_moves w l i o)
      ∙ asked_is f low

  -- what a moving turn leaves of the head
  pub tried_keeps : fits w false s (load l i) ≡ true → 11 ≤ kind_no (head_at l i).kind → Keeps (tried_of w false s (load l i) m).step'.record'.head (head_at l i)
  unfolding unless_six
  tried_keeps f low =
      subst (λ (t : Tried). Keeps t.step'.record'.head (head_at l i)) (asked_is f low)
      (pick-both (λ (t : Tried). Keeps t.step'.record'.head (head_at l i)) (both (is_moving (head_at l i).kind) (reads_by (head_at l i).kind w s (head_at l i) all m))
      (λ e. kind_keeps (head_at l i) w s m (head_at l i).kind all low (kind_most w s l i f low))
      (λ e. record { pixel_is = refl; held_is = refl; answer_is = refl; answer_node_is = refl }))

  -- a moving turn has no number but 6 and 0
  tried-zero : fits w false s (load l i) ≡ true → 11 ≤ kind_no (head_at l i).kind → ((tried_of w false s (load l i) m).number ≡ 6 → ⊥) → (tried_of w false s (load l i) m).number ≡ 0
  unfolding unless_six
  tried-zero f low =
      let Zero : Tried → Type 0 = λ t. (t.number ≡ 6 → ⊥) → t.number ≡ 0 in
      subst Zero (asked_is f low) (pick-both Zero (both (is_moving (head_at l i).kind) (reads_by (head_at l i).kind w s (head_at l i) all m)) (λ e n. refl) (λ e n. absurd (n refl)))

module _ (w : ℕ) (s : Settings) (i : ℕ) (h : Head) (nodes levels l : List ℕ) where
  abbrev pub Given : Mover → Gave → Memory → Type 0
  Given v r m' =
      Gives v s (memory nodes levels) r m'
      (λ a os. both (is_moving v.head.kind) (reads_by v.head.kind w s v.head (a ∷ os) (memory nodes levels)))
      (λ a os. act_by v.head.kind w false s v.head (a ∷ os) (memory nodes levels))

  given_is : (r : Gave) (m' : Memory) (v : Mover) → Given v r m' → v ≡ mover_at l i h → h ≡ head_at l i → Given (mover_at l i (head_at l i)) r m'
  given_is r m' v g a e = rw (← e, ← a) g

  pub move_refused :
      (v : Mover) (r : Gave) {d : Outcome} {n g : List ℕ} → d ≡ turn_done 6 s None → Given v r (memory n g) → v ≡ mover_at l i h → r.number ≡ 6 → h ≡ head_at l i → Sized s → fits w false s (load l i) ≡ true → 11 ≤ kind_no h.kind
      → did d (areas n g l) ≡ did_of (exchange_of w (load l i) (memory nodes levels)) (finished (tried_of w false s (load l i) (memory nodes levels)) i s (areas nodes levels l))
  move_refused v r {d} {n} {g} a gives b z e y f k =
      let p : 11 ≤ kind_no (head_at l i).kind = rw e at k in
      let q = loaded_is w s i l (memory nodes levels) (memory n g) r y f p (given_is r (memory n g) v gives b e) in
      finish_six w i s nodes levels l (tried_of w false s (load l i) (memory nodes levels)) _ (moved (mover_at l i (head_at l i)) r (innermost w l i) (around w l i) (memory n g)).step' a q z (tried-memory w false s (load l i) (memory nodes levels))

  most_of : fits w false s (load l i) ≡ true → 11 ≤ kind_no (head_at l i).kind → Sized s → (mover_at l i (head_at l i)).inner.count ≤ max_limit
  unfolding mover_at inner_at move_at move_from
  most_of f p y = inner_most w s l i f p y

  -- what is stored is within the record, and as if all of it were stored
  kept_is : (r : Gave) {m' : Memory} → Given (mover_at l i (head_at l i)) r m' → moved (mover_at l i (head_at l i)) r (innermost w l i) (around w l i) m' ≡ tried_of w false s (load l i) (memory nodes levels) → Sized s → fits w false s (load l i) ≡ true → 11 ≤ kind_no (head_at l i).kind
      → mover_to r.mover i l ≡ store (record' r.mover.head (list_after (mover_at l i (head_at l i)) r.mover (innermost w l i) (around w l i))) i l
  kept_is r {m'} given q y f p =
      let k : Keeps r.mover.head (head_at l i) = subst (λ (t : Tried). Keeps t.step'.record'.head (head_at l i)) (sym q) (tried_keeps w s i l (memory nodes levels) m' r f p) in
      store_is w l i r.mover k (given.most (most_of f p y)) (moves_least w s l i f p) given.counts

  -- what its exchange came to
  move_came : (r : Gave) {m' : Memory} → moved (mover_at l i (head_at l i)) r (innermost w l i) (around w l i) m' ≡ tried_of w false s (load l i) (memory nodes levels) → (r.number ≡ 6 → ⊥) → fits w false s (load l i) ≡ true → 11 ≤ kind_no (head_at l i).kind
      → came_to (kind_no (head_at l i).kind) r.mover.head (mover_at l i (head_at l i)).inner.count r.mover.inner.count
      ≡ pick (eqb (tried_of w false s (load l i) (memory nodes levels)).number 0) (exchange_of w (load l i) (memory nodes levels)) None
  unfolding load mover_at inner_at move_at move_from inner outer
  move_came r q z f p =
      let v = mover_at l i (head_at l i) in
      let ms : innermost w l i ∷ around w l i ≡ first_moves l i (moves_at l i) = loaded_moves w l i (moves_least w s l i f p) in
      let before : (innermost w l i).count ≡ (inner (first_moves l i (moves_at l i))).count = ap (λ (u : List Move). (inner u).count) ms in
      let os : around w l i ≡ outer (first_moves l i (moves_at l i)) = ap outer ms in
      ap (λ (t : Tried). came_to (kind_no (head_at l i).kind) t.step'.record'.head (innermost w l i).count r.mover.inner.count) q
      ∙ ap (λ (n : ℕ). came_to (kind_no (head_at l i).kind) (tried_of w false s (load l i) (memory nodes levels)).step'.record'.head n r.mover.inner.count) before
      ∙ tried_came w false s (head_at l i) (first_moves l i (moves_at l i)) (memory nodes levels) r.mover.inner.count
      (λ u. rw (← before) (first_fits w s l i f p (moves_at l i) (fits_list w s l i f p).1).1)
      (λ u x e. count-after v r.mover (innermost w l i) x (around w l i) (ap (λ (t : Tried). t.step'.record'.moves) q ∙ e ∙ ap (λ (ns : List Move). x ∷ ns) (sym os)))
      (λ u. z (ap (λ (t : Tried). t.number) q ∙ u))

  pub move_done :
      (v : Mover) (r : Gave) {d : Outcome} {x : Exchange} {n g l' : List ℕ} → d ≡ turn_done 0 r.settings x → x ≡ came_to (kind_no h.kind) r.mover.head v.inner.count r.mover.inner.count → l' ≡ mover_to r.mover i l → Given v r (memory n g) → v ≡ mover_at l i h → (r.number ≡ 6 → ⊥) → h ≡ head_at l i → Sized s → fits w false s (load l i) ≡ true → 11 ≤ kind_no h.kind
      → did d (areas n g l') ≡ did_of (exchange_of w (load l i) (memory nodes levels)) (finished (tried_of w false s (load l i) (memory nodes levels)) i s (areas nodes levels l))
  move_done v r {d} {x} {n} {g} {l'} a o c gives b z e y f k =
      let p : 11 ≤ kind_no (head_at l i).kind = rw e at k in
      let given : Given (mover_at l i (head_at l i)) r (memory n g) = given_is r (memory n g) v gives b e in
      let q = loaded_is w s i l (memory nodes levels) (memory n g) r y f p given in
      let number_is : r.number ≡ (tried_of w false s (load l i) (memory nodes levels)).number = ap (λ (t : Tried). t.number) q in
      let zero : r.number ≡ 0 = number_is ∙ tried-zero w s i l (memory nodes levels) (memory n g) r f p (λ u. z (number_is ∙ u)) in
      finish_done w i s nodes levels l (tried_of w false s (load l i) (memory nodes levels)) _ (moved (mover_at l i (head_at l i)) r (innermost w l i) (around w l i) (memory n g)).step' (a ∙ ap (λ k. turn_done k r.settings x) (sym zero)) (o ∙ rw (b, e) (move_came r q z f p)) (c ∙ kept_is r given q y f p) q z

  -- refused by 6, as a moving turn has no other number but 0
  pub move_err :
      (v : Mover) (q : Refusal) {n g : List ℕ} → Given v (gave v s (Err q)) (memory n g) → v ≡ mover_at l i h → h ≡ head_at l i → Sized s → fits w false s (load l i) ≡ true → 11 ≤ kind_no h.kind
      → did (turn_done (refusal_no q) s None) (areas n g l) ≡ did_of (exchange_of w (load l i) (memory nodes levels)) (finished (tried_of w false s (load l i) (memory nodes levels)) i s (areas nodes levels l))
  move_err v q {n} {g} gives b e y f k =
      let p : 11 ≤ kind_no (head_at l i).kind = rw e at k in
      let r = gave v s (Err q) in
      let t = loaded_is w s i l (memory nodes levels) (memory n g) r y f p (given_is r (memory n g) v gives b e) in
      let six : refusal_no q ≡ 6 = refused_six w false s (load l i) (memory nodes levels) (memory n g) v.head (list_after (mover_at l i (head_at l i)) v (innermost w l i) (around w l i)) q t in
      move_refused v r (ap (λ (u : ℕ). turn_done u s None) six) gives b six e y f k
