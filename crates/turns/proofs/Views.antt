-- A viewer's turn, by what the code makes of it: it exchanges nothing and begins no Move.
-- Relies on the ends of a searching turn, on rules for what a viewer's turn leaves.
use Prim.Native.Nat.{ℕ, ◌≤◌}
use mathlib.Core.Path.{◌≡◌, refl, sym, ap, subst, ◌∙◌}
use mathlib.Core.Bool.{Bool, true}
use mathlib.Core.List.{List, []}
use native.Mathlib.Omega.{arith}
use lib.Dec.{eqb}
use lib.ListN.{length}
use borrow.Author.Tests.{eqb-true, ne_eqb}
use Rattle.words.specs.Choice.{pick}
use Rattle.words.proofs.Choice.{pick-both, true_false}
use Rattle.settings.specs.declared.Settings.{Settings}
use Rattle.areas.specs.Memory.{Memory, memory, areas}
use Rattle.record.specs.declared.Exchange.TheVariants as Exchanges
use Rattle.record.specs.declared.Answer.TheVariants.{Full}
use Rattle.std.specs.Prelude.{Option, Some, None, Ok, Err}
use Rattle.settings.specs.declared.Refusal.{Refusal}
use Rattle.settings.specs.Refusals.{refusal_no}
use Rattle.record.specs.declared.Head.{Head}
use Rattle.record.specs.declared.Move.{Move}
use Rattle.record.specs.Kinds.{kind_no}
use Rattle.record.specs.Layout.{record', store, store_head}
use Rattle.record.specs.Fits.{viewing}
use Rattle.rules.specs.Exchanges.{exchange_of}
use Rattle.rules.specs.Asked.{reads_by, question9, node_left}
use Rattle.rules.specs.Searching.{takes_node}
use Rattle.rules.proofs.Roles.{Viewing, viewing_kind}
use Rattle.rules.proofs.Striking.{viewer_still}
use Rattle.steps.specs.Cut.{begun}
use Rattle.steps.specs.Tried.{Tried, unless_six, unless_nine}
use Rattle.worker.specs.declared.Turned.{Turned}
use Rattle.worker.specs.Tried.{turned, done_no}
use Rattle.worker.specs.Searching.{search_tried}
use Rattle.turns.specs.Cut.{tried_of, finished, turn_done, did, did_of, came_to}
use Rattle.turns.proofs.Finish.{keep_none, search_is, Searched, search_refused, search_open}

-- the numbers of a viewer's kinds
viewing_each : (P : ℕ → Type 0) (k : ℕ) → P 1 → P 4 → P 5 → P 10 → viewing k ≡ true → P k
unfolding viewing
viewing_each P k a b c d =
    let Some : Bool → Type 0 = λ x. x ≡ true → P k in
    pick-both Some (eqb k 1) (λ e y. subst P (sym (eqb-true k 1 e)) a)
    (λ e. pick-both Some (eqb k 4) (λ f y. subst P (sym (eqb-true k 4 f)) b)
    (λ f. pick-both Some (eqb k 5) (λ g y. subst P (sym (eqb-true k 5 g)) c) (λ g y. subst P (sym (eqb-true k 10 y)) d)))

pub viewing_low : (k : ℕ) → viewing k ≡ true → 1 ≤ k
viewing_low k y = viewing_each (λ (n : ℕ). 1 ≤ n) k (omega arith) (omega arith) (omega arith) (omega arith) y

pub viewing_high : (k : ℕ) → viewing k ≡ true → k ≤ 10
viewing_high k y = viewing_each (λ (n : ℕ). n ≤ 10) k (omega arith) (omega arith) (omega arith) (omega arith) y

-- no exchange
view_came : (k : ℕ) (x : Head) → viewing k ≡ true → came_to k x 0 0 ≡ Exchanges.None
unfolding came_to pick
view_came k x y = viewing_each (λ (n : ℕ). came_to n x 0 0 ≡ Exchanges.None) k refl refl refl refl y

-- no Move
no_child : (g : ℕ) (c : Option ℕ) → begun g c [] ≡ [] → c ≡ None
no_child g None e = refl
no_child g (Some c) e = let n : ◌≡◌ {A = ℕ} 1 0 = ap (λ (ms : List Move). length ms) e in absurd (omega arith)

view_moves : (w : ℕ) (s : Settings) (h : Head) (m : Memory) → Viewing h.kind → (tried_of w true s (record' h []) m).step'.record'.moves ≡ []
unfolding tried_of unless_six unless_nine
view_moves w s h m v =
    let Still : Tried → Type 0 = λ t. t.step'.record'.moves ≡ [] in
    pick-both Still _ (λ e. pick-both Still _ (λ f. (viewer_still w s h m [] v).moves_are) (λ f. refl)) (λ e. refl)

-- nor any other settings
view_settings : (w : ℕ) (s : Settings) (h : Head) (m : Memory) → Viewing h.kind → (tried_of w true s (record' h []) m).step'.settings ≡ s
unfolding tried_of unless_six unless_nine
view_settings w s h m v =
    let Same : Tried → Type 0 = λ t. t.step'.settings ≡ s in
    pick-both Same _ (λ e. pick-both Same _ (λ f. (viewer_still w s h m [] v).settings_is) (λ f. refl)) (λ e. refl)

-- a viewer's turn is never "full": it takes no node
view_nine : (w : ℕ) (s : Settings) (h : Head) (m : Memory) → viewing (kind_no h.kind) ≡ true → (tried_of w true s (record' h []) m).number ≡ 9 → ⊥
unfolding tried_of unless_six unless_nine question9 takes_node pick
view_nine w s h m y =
    let Apart : Tried → Type 0 = λ t. t.number ≡ 9 → ⊥ in
    let Left : ℕ → Type 0 = λ n. pick (pick (eqb n 2) true (eqb n 6)) (node_left s h) true ≡ true in
    let left : question9 s (record' h []) ≡ true = viewing_each Left (kind_no h.kind) refl refl refl refl y in
    pick-both Apart (reads_by h.kind w s h [] m) (λ e. pick-both Apart (question9 s (record' h [])) (λ f z. let o : ◌≡◌ {A = ℕ} 0 9 = z in omega arith) (λ f z. true_false (sym left ∙ f))) (λ e z. let o : ◌≡◌ {A = ℕ} 6 9 = z in omega arith)

module _ (w : ℕ) (i : ℕ) (s : Settings) (h : Head) (nodes levels workers : List ℕ) (y : viewing (kind_no h.kind) ≡ true) where
  pub view_refused :
      (r : Refusal) → turned s h (Err r) (memory nodes levels) ≡ search_tried h.kind w true s h (memory nodes levels)
      → Searched w i s h nodes levels workers true (turn_done (refusal_no r) s Exchanges.None) (areas nodes levels workers)
  view_refused r e = search_refused w i s h nodes levels workers true (viewing_low _ y) (viewing_high _ y) r e

  pub view_done :
      (t : Turned) {l : List ℕ} → l ≡ store_head t.worker.head 0 i workers → turned s h (Ok t) (memory nodes levels) ≡ search_tried h.kind w true s h (memory nodes levels)
      → Searched w i s h nodes levels workers true (turn_done 0 s Exchanges.None) (areas nodes levels l)
  view_done t {l} b e =
      let x = turned s h (Ok t) (memory nodes levels) in
      let q = search_is w i s h nodes levels workers true x e (viewing_low _ y) (viewing_high _ y) in
      let v = viewing_kind h.kind y in
      let m : begun t.worker.head.level t.child [] ≡ [] = ap (λ (u : Tried). u.step'.record'.moves) q ∙ view_moves w s h (memory nodes levels) v in
      let c : t.child ≡ None = no_child t.worker.head.level t.child m in
      let o : t.settings ≡ s = ap (λ (u : Tried). u.step'.settings) q ∙ view_settings w s h (memory nodes levels) v in
      let kept : l ≡ store (record' t.worker.head (begun t.worker.head.level t.child [])) i workers =
      keep_none t.worker.head i workers b ∙ ap (λ (u : Option ℕ). store (record' t.worker.head (begun t.worker.head.level u [])) i workers) (sym c) in
      let full : t.answer ≡ Full → ⊥ = λ f. view_nine w s h (memory nodes levels) y (sym (ap (λ (u : Tried). u.number) q) ∙ ap done_no f) in
      ap (λ (u : Settings). did (turn_done 0 u Exchanges.None) (areas nodes levels l)) (sym o)
      ∙ search_open w i s h nodes levels workers true (viewing_low _ y) (viewing_high _ y) t full (sym (view_came _ t.worker.head y)) kept e
