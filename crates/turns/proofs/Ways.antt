-- One law for each way through the functions of a turn: its premises are what the callees give and the tests.
-- Relies on the code's cut and on what ties it to the definitions.
use Prim.Native.Nat.{ℕ, ◌+◌, ◌*◌, ◌≤◌, ◌<◌}
use mathlib.Core.Path.{◌≡◌, refl, sym, ap, ◌∙◌}
use mathlib.Core.Logic.{◌≢◌}
use mathlib.Core.Bool.{Bool, true, false}
use mathlib.Core.List.{List, []}
use native.Mathlib.Omega.{arith}
use lib.Dec.{eqb, leb}
use lib.ListN.{length}
use borrow.Author.Tests.{eq-eqb, ne_eqb, eqb-true, eqb-false, le-leb, leb-true, leb-false, ltb-true}
use Rattle.words.specs.Choice.{pick, both}
use Rattle.words.proofs.Choice.{pick_true, pick_false, both_right, true_false}
use Rattle.settings.specs.Sizes.{question2, worker_words, views}
use Rattle.settings.specs.Cut.{first_three}
use Rattle.settings.specs.declared.Settings.{Settings}
use Rattle.settings.proofs.Laws.{three_yes}
use Rattle.areas.specs.Memory.{memory, areas}
use Rattle.record.specs.declared.Answer.TheVariants.{Nothing}
use Rattle.record.specs.declared.Exchange.TheVariants.{None}
use Rattle.record.specs.declared.Reply.{Reply}
use Rattle.record.specs.declared.Head.{Head}
use Rattle.record.specs.Kinds.{kind_no}
use Rattle.record.specs.Layout.{Record, record', load, head_at, first_moves, moves_at}
use Rattle.record.specs.Fits.{fits, fits_by, call_fits, viewing, role_fits, answer_fits}
use Rattle.record.proofs.Pieces.{length-first}
use Rattle.record.proofs.Tests.{fits-idle, fits_role, fits_no_role}
use Rattle.rules.specs.Asked.{question4, question7}
use Rattle.rules.specs.Operations.{Result, result_of, reply, refused, turn}
use Rattle.rules.specs.Exchanges.{exchange_of}
use Rattle.rules.specs.Lists.{state}
use Rattle.table.specs.Cut.{first_four}
use Rattle.table.proofs.Questions.{both_zero}
use Rattle.turns.specs.Cut.{Outcome, tried_of, finished, turn_as, turn_here, turn_done, Did, did, did_of, did_as}
use Rattle.turns.proofs.Finish.{did-six}
use Rattle.turns.proofs.Views.{viewing_low, viewing_high}
use Rattle.turns.proofs.OneCut.{turn_cut}
use Rattle.rules.proofs.Three.{Three}

-- questions 1 to 3 as the code asks them
pub three_of : (w : ℕ) (s : Settings) (n g k : List ℕ) → first_three w s (length n) (length g) (length k) ≡ 0 → Three w s.workers (state s (areas n g k))
three_of w s n g k e = let y = three_yes w s (length n) (length g) (length k) e in record { workers_is = refl; one = y.0; two = y.1; three = y.2 }

-- a record that fits with a searching kind has no Moves
no_moves : (w : ℕ) (v : Bool) (s : Settings) (l : List ℕ) (i : ℕ) → fits w v s (load l i) ≡ true → 1 ≤ kind_no (head_at l i).kind → kind_no (head_at l i).kind ≤ 10 → load l i ≡ record' (head_at l i) []
unfolding load fits fits_by first_moves
no_moves w v s l i e low high =
    let f : both (call_fits s (kind_no (head_at l i).kind) (head_at l i)) (eqb (length (first_moves l i (moves_at l i))) 0) ≡ true =
    sym (pick_true _ _ _ (le-leb _ _ high)) ∙ both_right (role_fits v (kind_no (head_at l i).kind)) _ (sym (pick_false _ _ _ (ne_eqb (kind_no (head_at l i).kind) 0 (λ z. omega arith))) ∙ e)
    in
    let z : moves_at l i ≡ 0 = sym (length-first l i (moves_at l i)) ∙ eqb-true _ _ (both_right _ _ f) in
    ap (λ (n : ℕ). record' (head_at l i) (first_moves l i n)) z

-- a turn of a viewer (v) or of another worker
module _ (w : ℕ) (v : Bool) (s : Settings) (i : ℕ) (n g l : List ℕ) where
  -- a record that does not fit
  pub here_six : {d : Outcome} {b : Bool} → d ≡ turn_done 6 s None → b ≡ fits w v s (load l i) → b ≡ false → did d (areas n g l) ≡ did_as w v s i (areas n g l)
  unfolding turn_as
  here_six a q z = rw (a, pick_false _ _ (refused 6 s (areas n g l)) (sym q ∙ z)) (sym (did-six s _ (areas n g l)))

  -- what is handed on of a turn of the record r
  abbrev did_from : Record → Did
  did_from r = did_of (exchange_of w r (memory n g)) (finished (tried_of w v s r (memory n g)) i s (areas n g l))

  -- one that fits, with a call open
  pub here_open : {x : Did} {b : Bool} {h : Head} → x ≡ did_from (load l i) → b ≡ fits w v s (load l i) → b ≡ true → h ≡ head_at l i → 1 ≤ kind_no h.kind → x ≡ did_as w v s i (areas n g l)
  unfolding turn_as question7 load
  here_open {h = h} a q z e low =
      let y : kind_no (head_at l i).kind ≢ 0 = λ o. let u : kind_no h.kind ≡ 0 = ap (λ (t : Head). kind_no t.kind) e ∙ o in omega arith in
      a ∙ ap (did_of _) (sym (pick_true _ _ _ (sym q ∙ z) ∙ pick_false _ _ _ (ne_eqb _ _ y)))

  -- the same of a moving head
  pub here_move : {x : Did} {b : Bool} {h : Head} → x ≡ did_from (load l i) → b ≡ fits w v s (load l i) → b ≡ true → h ≡ head_at l i → 11 ≤ kind_no h.kind → x ≡ did_as w v s i (areas n g l)
  here_move a q z e low = here_open a q z e (omega arith)

  -- the same of a searching head, which has no Moves
  pub here_search : {x : Did} {b : Bool} {h : Head} → x ≡ did_from (record' h []) → b ≡ fits w v s (load l i) → b ≡ true → h ≡ head_at l i → 1 ≤ kind_no h.kind → kind_no h.kind ≤ 10 → x ≡ did_as w v s i (areas n g l)
  here_search {h = h} a q z e low high =
      let m : load l i ≡ record' h [] = no_moves w v s l i (sym q ∙ z) (rw (← e) low) (rw (← e) high) ∙ ap (λ (t : Head). record' t []) (sym e) in
      here_open (a ∙ ap did_from (sym m)) q z e low

pub view_kind : (h : Head) {k : ℕ} {b : Bool} → k ≡ kind_no h.kind → b ≡ viewing k → b ≡ true → viewing (kind_no h.kind) ≡ true
view_kind h e q z = ap viewing (sym e) ∙ sym q ∙ z

-- a viewer's turn: its record fits as another worker's does, if its kind is one of a viewer's
module _ (w : ℕ) (s : Settings) (i : ℕ) (n g l : List ℕ) where
  view_fits : {b : Bool} {h : Head} → b ≡ fits w false s (load l i) → h ≡ head_at l i → viewing (kind_no h.kind) ≡ true → b ≡ fits w true s (load l i)
  unfolding role_fits viewing pick
  view_fits {h = h} q e y = fits_role w true s l i q refl y (λ z. let u : viewing (kind_no h.kind) ≡ viewing 0 = ap viewing z in true_false (sym y ∙ u)) refl e

  pub view_six : {d : Outcome} {b : Bool} {h : Head} → d ≡ turn_done 6 s None → b ≡ fits w false s (load l i) → b ≡ false → h ≡ head_at l i → viewing (kind_no h.kind) ≡ true → did d (areas n g l) ≡ did_as w true s i (areas n g l)
  view_six a q z e y = here_six w true s i n g l a (view_fits q e y) z

  pub view_open : {x : Did} {b : Bool} {h : Head} → x ≡ did_from w true s i n g l (record' h []) → b ≡ fits w false s (load l i) → b ≡ true → h ≡ head_at l i → viewing (kind_no h.kind) ≡ true → x ≡ did_as w true s i (areas n g l)
  view_open {h = h} a q z e y = here_search w true s i n g l a (view_fits q e y) z e (viewing_low _ y) (viewing_high _ y)

  pub view_none : {d : Outcome} {b : Bool} {k : ℕ} {h : Head} → d ≡ turn_done 6 s None → b ≡ viewing k → b ≡ false → k ≡ kind_no h.kind → h ≡ head_at l i → 1 ≤ kind_no (head_at l i).kind → did d (areas n g l) ≡ did_as w true s i (areas n g l)
  unfolding role_fits pick
  view_none {k = k} {h} a q z e f low =
      let y : 1 ≤ kind_no h.kind = rw f low in
      here_six w true s i n g l a (fits_no_role w true s l i q z (λ o. omega arith) e f) refl

module _ (w : ℕ) (s : Settings) (i : ℕ) (n g l : List ℕ) where
  -- an idle worker, by two words of it
  pub here-idle : {b : Bool} {c : ℕ} → c ≡ (head_at l i).answer → b ≡ eqb (kind_no (head_at l i).kind) 0 → b ≡ true → turn_here w s i (areas n g l) ≡ pick (answer_fits (views s i) c) (refused 8 s (areas n g l)) (refused 6 s (areas n g l))
  unfolding turn_as question7 load
  here-idle {b} {c} e q z =
      let f : answer_fits (views s i) c ≡ fits w (views s i) s (load l i) = fits-idle w (views s i) s l i {k = kind_no (head_at l i).kind} {h = head_at l i} (ap (λ (u : ℕ). answer_fits (views s i) u) e) (sym q ∙ z) refl refl in
      rw f (ap (λ (x : Result). pick (fits w (views s i) s (load l i)) x (refused 6 s (areas n g l))) (pick_true _ _ _ (sym q ∙ z)))

  -- a worker whose words are there
  pub did_outside : (d : Outcome) {b : Bool} → b ≡ leb (worker_words * i + worker_words) (length l) → b ≡ false → worker_words * i + worker_words ≤ length l → did d (areas n g l) ≡ did_as w false s i (areas n g l)
  did_outside d q z h = let y : length l < worker_words * i + worker_words = leb-false _ _ (sym q ∙ z) in absurd (omega arith)

  pub here-turn : {q : ℕ} → q ≡ first_four w s i (length n) (length g) (length l) → q ≡ 0 → turn_here w s i (areas n g l) ≡ turn w s i (areas n g l)
  here-turn e z = sym (pick_true _ _ _ (eq-eqb _ _ (sym e ∙ z))) ∙ turn_cut w s i (areas n g l)

  pub turn-refused : {r : Reply} {q : ℕ} → r ≡ reply q Nothing 0 s → q ≡ first_four w s i (length n) (length g) (length l) → (q ≡ 0 → ⊥) → result_of r (areas n g l) ≡ turn w s i (areas n g l)
  turn-refused {r} {q} a e z =
      let y : first_four w s i (length n) (length g) (length l) ≢ 0 = λ u. z (e ∙ u) in
      rw (a, e) (sym (pick_false _ _ _ (ne_eqb _ _ y)) ∙ turn_cut w s i (areas n g l))

module _ (l : List ℕ) (i : ℕ) where
  pub not-idle : {b : Bool} → b ≡ eqb (kind_no (head_at l i).kind) 0 → b ≡ false → 1 ≤ kind_no (head_at l i).kind
  not-idle q z = let y : kind_no (head_at l i).kind ≢ 0 = eqb-false _ _ (sym q ∙ z) in omega arith

  pub head_open : (h : Head) → h ≡ head_at l i → 1 ≤ kind_no (head_at l i).kind → 1 ≤ kind_no h.kind
  head_open h e k = rw e k

-- a yes to questions 1 to 4: the words of the worker are there
pub three_inside : (w : ℕ) (s : Settings) (i n g k : ℕ) → first_three w s n g k ≡ 0 → i < s.workers → worker_words * i + worker_words ≤ k
unfolding question2
three_inside w s i n g k e h =
    let y = three_yes w s n g k e in
    let q : worker_words * s.workers ≤ k = leb-true _ _ (both_right _ _ (both_right _ _ y.1)) in
    omega arith

pub four_yes : (b : Bool) → ◌≡◌ {A = ℕ} (pick b 0 4) 0 → b ≡ true
unfolding pick
four_yes true e = refl
four_yes false e = absurd (omega arith)

pub four_inside : (w : ℕ) (s : Settings) (i n g k : ℕ) {q : ℕ} → q ≡ first_four w s i n g k → q ≡ 0 → worker_words * i + worker_words ≤ k
unfolding first_four question4
four_inside w s i n g k a e =
    let (y, z) = both_zero (first_three w s n g k) _ (sym a ∙ e) in
    three_inside w s i n g k y (ltb-true _ _ (four_yes _ z))
