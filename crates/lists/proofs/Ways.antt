-- One law for each way through the functions of a list of turns, and through what refuses a turn: its premises are what the callees give and the tests.
-- Relies on the code's cut, on what ties it to the definition, and on that questions 1 to 3 stay answered yes.
use Prim.Native.Nat.{ℕ, zero, suc, ◌+◌, ◌*◌, ◌-◌, ◌≤◌, ◌<◌}
use mathlib.Core.Path.{◌≡◌, refl, sym, ap, subst, ◌∙◌}
use mathlib.Core.Logic.{◌≢◌}
use mathlib.Core.Bool.{Bool, true, false, not}
use mathlib.Core.List.{List, [], ◌∷◌}
use native.Mathlib.Nat.{add-zero}
use native.Mathlib.Decide.{ℕ_discrete}
use native.Mathlib.Omega.{arith}
use lib.Dec.{eqb, ltb}
use lib.ListN.{length, get_or}
use borrow.Author.Tests.{eq-eqb, ne_eqb, eqb-true, eqb-false, lt-ltb, ltb-true}
use Rattle.words.specs.Choice.{pick, both, every, asks, first_no}
use Rattle.words.proofs.Choice.{true_false, pick-both, pick_true, pick_false, both_left, both_right}
use Rattle.settings.specs.Cut.{counted, first_three, Sized}
use Rattle.settings.specs.Sizes.{worker_words, views}
use Rattle.settings.specs.declared.Settings.{Settings}
use Rattle.settings.specs.declared.Refusal.{Refusal}
use Rattle.settings.specs.declared.Refusal.TheVariants.{Memory}
use Rattle.settings.proofs.Refusals.{same_refusal}
use Rattle.settings.proofs.Laws.{three_yes, sized}
use Rattle.areas.specs.Memory.{Areas, areas, memory}
use Rattle.record.specs.declared.Answer.TheVariants.{Nothing}
use Rattle.record.specs.declared.Reply.{Reply}
use Rattle.record.specs.declared.Exchange.{Exchange}
use Rattle.record.specs.declared.Exchange.TheVariants.{None, Failed}
use Rattle.record.specs.declared.Exchange.TheVariants as exchange
use Rattle.record.specs.Kinds.{kind_no}
use Rattle.record.specs.Fits.{answer_fits}
use Rattle.record.specs.Layout.{head_at, load}
use Rattle.rules.specs.Asked.{question4, question4_all, question7, question8}
use Rattle.rules.specs.Operations.{Result, result_of, reply, refused, unless_refused, record_of, turn}
use Rattle.rules.specs.Lists as many
use Rattle.rules.specs.Lists.{State, state, after, list_questions}
use Rattle.rules.specs.Calls.{turns}
use Rattle.rules.specs.Sequences.{list_events}
use Rattle.rules.specs.Exchanges.{exchange_of, exchange_at, done_in, failed_in, total, report, list_report}
use Rattle.rules.proofs.OneTurn.{six-leaves}
use Rattle.rules.proofs.Invariant.{SameSizes}
use Rattle.rules.proofs.Three.{Three, three_stays, sizes_stay}
use Rattle.rules.proofs.Exchanges.{one_exchange}
use Rattle.rules.proofs.Entries.{eight-idle}
use Rattle.table.specs.Cut.{first_four}
use Rattle.table.proofs.Questions.{both_zero}
use Rattle.turns.specs.declared.Done.{Done}
use Rattle.std.specs.Prelude.{Err}
use Rattle.std.specs.List.{fold}
use Rattle.std.specs.Prelude as Res
use Rattle.turns.specs.Cut.{Outcome, done_at, done_of, turn_here, turn_done, Did, did, did_of, did_as}
use Rattle.turns.proofs.Ways as below
use Rattle.turns.proofs.Ways.{three_of, three_inside, here-idle, here-turn, four_yes}
use Rattle.lists.specs.Cut.{Stand, Run, run, counted_by, ran_of, tally, idle_tally, next_tally, open_tally, idle_number, refused_turn, listed, ran_by, ran_entry, ran_list, ran_report}
use Rattle.lists.proofs.ListCut.{stopped, refused_on, list_cut}

-- questions 1 to 3 as the code asks them
pub of_three : (w : ℕ) (s : Settings) (n g k : List ℕ) {workers : ℕ} → Three w workers (state s (areas n g k)) → first_three w s (length n) (length g) (length k) ≡ 0
unfolding first_three first_no pick
of_three w s n g k y = simp (y.one, y.two, y.three)

-- the tally after an entry
module _ (t : Stand) where
  -- by what its exchange came to
  open_on : (d : Outcome) (e : Exchange) → (d.number ≡ 6 → ⊥) → d.exchange ≡ e → next_tally t d (t.done + done_in e) (t.failed + failed_in e) ≡ open_tally t d
  unfolding open_tally
  open_on d e h y = sym (pick_false _ _ _ (ne_eqb _ _ h) ∙ ap (λ (v : Exchange). next_tally t d (t.done + done_in v) (t.failed + failed_in v)) y)

  pub open_none : (d : Outcome) {u : Stand} → u ≡ next_tally t d t.done t.failed → d.exchange ≡ None → (d.number ≡ 6 → ⊥) → u ≡ open_tally t d
  unfolding done_in failed_in
  open_none d a e h = a ∙ rw (add-zero t.done, add-zero t.failed) at (open_on d None h e)

  pub open_done : (d : Outcome) {u : Stand} → u ≡ next_tally t d (t.done + 1) t.failed → d.exchange ≡ exchange.Done → (d.number ≡ 6 → ⊥) → u ≡ open_tally t d
  unfolding done_in failed_in
  open_done d a e h = a ∙ rw add-zero at (open_on d exchange.Done h e)

-- a refusal by another number than 6 is tallied as a turn that makes no exchange
pub open_refused : (t : Stand) (r : Refusal) {u : Stand} → u ≡ tally 0 t.nodes_taken t.levels_taken (t.left - 1) t.done t.failed → (r ≡ Memory → ⊥) → u ≡ open_tally t (done_at t.nodes_taken t.levels_taken (Err r))
open_refused t r a h = open_none t (done_at t.nodes_taken t.levels_taken (Err r)) a refl (λ z. h (same_refusal r Memory z))

-- the settings of a turn that leaves the sizes, by its counts
counted_is : (s n : Settings) → SameSizes s n → counted s n.nodes_taken n.levels_taken ≡ n
unfolding counted
counted_is s n k = rw (← k.width_is, ← k.workers_is, ← k.limit_is, ← k.nodes_is, ← k.viewers_is) refl

same_sizes : (s n : Settings) (i g : ℕ) → SameSizes (counted s i g) n → SameSizes s n
unfolding counted
same_sizes s n i g y = record { width_is = y.width_is; workers_is = y.workers_is; limit_is = y.limit_is; nodes_is = y.nodes_is; viewers_is = y.viewers_is }

-- a worker with a call open is not refused by 8
pub not_eight : (w : ℕ) (s : Settings) (i : ℕ) (n g k : List ℕ) → kind_no (head_at k i).kind ≢ 0 → (turn w s i (areas n g k)).reply.number ≢ 8
unfolding question8 question7 load
not_eight w s i n g k o e =
    let y : not (eqb (kind_no (head_at k i).kind) 0) ≡ false = eight-idle w (state s (areas n g k)) i e in
    true_false (sym (ap not (ne_eqb _ _ o)) ∙ y)

-- one entry of a list that goes on
module _ (w : ℕ) (s : Settings) (t : Stand) (i : ℕ) (n g k : List ℕ) (z : t.number ≡ 0) (h : 1 ≤ t.left) (r : first_three w (counted_by s t) (length n) (length g) (length k) ≡ 0) (l : i < s.workers) where
  abbrev now : Settings
  now = counted_by s t

  abbrev its : Result
  its = turn w (counted_by s t) i (areas n g k)

  abbrev made : Exchange
  made = exchange_at w (turns i) (state now (areas n g k))

  entry_by : ran_entry w (ran_of s t (areas n g k)) i ≡ ran_by (ran_of s t (areas n g k)) made its
  unfolding ran_entry
  entry_by = pick_false _ _ _ (ne_eqb t.left 0 (λ y. omega arith)) ∙ pick_true _ _ _ (eq-eqb _ _ z)

  -- with questions 1 to 4 answered yes, what is left of a turn is the turn
  turn_is : turn_here w now i (areas n g k) ≡ its
  unfolding first_four question4 counted
  turn_is =
      let y : first_four w now i (length n) (length g) (length k) ≡ 0 = pick_true _ _ _ (eq-eqb _ _ r) ∙ pick_true _ 0 4 (lt-ltb i s.workers l) in
      here-turn w now i n g k refl y

  by_six : {u : Run} → its.reply.number ≡ 6 → u ≡ run 6 (state now (areas n g k)) t.left t.done t.failed → u ≡ ran_entry w (ran_of s t (areas n g k)) i
  unfolding ran_by
  by_six y e = e ∙ sym (entry_by ∙ pick_true _ _ _ (eq-eqb _ _ y))

  -- an idle worker
  pub entry_idle : {u : Stand} {looks b : Bool} {v : ℕ} → u ≡ idle_tally looks t v → looks ≡ views s i → v ≡ (head_at k i).answer → b ≡ eqb (kind_no (head_at k i).kind) 0 → b ≡ true → ran_of s u (areas n g k) ≡ ran_entry w (ran_of s t (areas n g k)) i
  unfolding idle_tally ran_by views counted
  entry_idle {u} {looks} {b} {v} f a e q y = by (answer_fits (views s i) v) refl (sym (here-idle w now i n g k e q y) ∙ turn_is)
    where
      fit : {d : Bool} → answer_fits (views s i) v ≡ d → answer_fits looks v ≡ d
      fit d = ap (λ (x : Bool). answer_fits x v) a ∙ d

      by : (d : Bool) → answer_fits (views s i) v ≡ d → pick (answer_fits (views s i) v) (refused 8 now (areas n g k)) (refused 6 now (areas n g k)) ≡ its → ran_of s u (areas n g k) ≡ ran_entry w (ran_of s t (areas n g k)) i
      by true d x =
          let m : its.reply.number ≡ 8 = ap (λ (o : Result). o.reply.number) (sym x ∙ pick_true _ _ _ d) in
          ap (λ (o : Stand). ran_of s o (areas n g k)) (f ∙ pick_true _ _ _ (fit d))
          ∙ sym (entry_by ∙ pick_false _ _ _ (ne_eqb its.reply.number 6 (λ o. omega arith)) ∙ pick_true _ _ _ (eq-eqb _ _ m))
      by false d x =
          let m : its.reply.number ≡ 6 = ap (λ (o : Result). o.reply.number) (sym x ∙ pick_false _ _ _ d) in
          by_six m (ap (λ (o : Stand). ran_of s o (areas n g k)) (f ∙ pick_false _ _ _ (fit d)))

  pub entry_open : {u : Stand} {d : Outcome} {b : Areas} {m : Settings} {looks : Bool} → u ≡ open_tally t d → did d b ≡ did_as m.width looks m i (areas n g k) → m ≡ now → s.width ≡ w → views s i ≡ looks → 1 ≤ kind_no (head_at k i).kind → ran_of s u b ≡ ran_entry w (ran_of s t (areas n g k)) i
  unfolding open_tally ran_by did_of exchange_at counted views
  entry_open {u} {d} {b} {m} {looks} f e p v a o = by (ℕ_discrete its.reply.number 6)
    where
      did_is : did d b ≡ did (turn_done its.reply.number its.reply.settings made) its.areas
      did_is =
          e ∙ ap (λ (y : Settings). did_as y.width looks y i (areas n g k)) p ∙ ap (λ (y : ℕ). did_as y looks now i (areas n g k)) v
          ∙ ap (λ (y : Bool). did_as w y now i (areas n g k)) (sym a)
          ∙ ap (did_of (exchange_of w (record_of (areas n g k) i) (memory n g))) turn_is

      by : Dec (its.reply.number ≡ 6) → ran_of s u b ≡ ran_entry w (ran_of s t (areas n g k)) i
      by (yes y) =
          let c : d.number ≡ 6 = ap (λ (v : Did). v.done.number) did_is ∙ y in
          let a : b ≡ areas n g k = ap (λ (v : Did). v.areas) did_is ∙ ap (λ (v : State). v.areas) (six-leaves w now i (areas n g k) y) in
          by_six y (ap (λ (v : Stand). ran_of s v b) (f ∙ pick_true _ _ _ (eq-eqb _ _ c)) ∙ ap (λ (v : Areas). run 6 (state now v) t.left t.done t.failed) a)
      by (no y) =
          let c : d.number ≡ its.reply.number = ap (λ (v : Did). v.done.number) did_is in
          let q = same_sizes s its.reply.settings _ _ (sizes_stay w (state now (areas n g k)) i) in
          ap (λ (v : Stand). ran_of s v b) (f ∙ pick_false _ _ _ (ne_eqb d.number 6 (λ v. y (sym c ∙ v))))
          ∙ ap (λ (v : Did). ran_of s (next_tally t v.done (t.done + done_in v.done.exchange) (t.failed + failed_in v.done.exchange)) v.areas) did_is
          ∙ ap (λ (v : Settings). run 0 (state v its.areas) (t.left - 1) (t.done + done_in made) (t.failed + failed_in made)) (counted_is s its.reply.settings q)
          ∙ sym (entry_by ∙ pick_false _ _ _ (ne_eqb its.reply.number 6 y) ∙ pick_false _ _ _ (ne_eqb its.reply.number 8 (not_eight w now i n g k (λ z. omega arith))))

  -- the same of the turn's own outcome, begun with the tally's counts
  pub entry_turn : (d : Res.Result Done Refusal) {u : Stand} {b : Areas} {m : Settings} {looks : Bool} → u ≡ open_tally t (done_at t.nodes_taken t.levels_taken d) → did (done_of m d) b ≡ did_as m.width looks m i (areas n g k) → m ≡ now → s.width ≡ w → views s i ≡ looks → 1 ≤ kind_no (head_at k i).kind → ran_of s u b ≡ ran_entry w (ran_of s t (areas n g k)) i
  unfolding counted
  entry_turn d {b = b} f e p v a o = entry_open f (ap (λ (y : Settings). did (done_of y d) b) (sym p) ∙ e) p v a o

-- what was asked of the settings
pub views_so : (s : Settings) (i : ℕ) {v b : Bool} → v ≡ views s i → v ≡ b → views s i ≡ b
views_so s i e y = sym e ∙ y

-- the ways through what refuses a turn before its record is asked further
module _ (w : ℕ) (s : Settings) (i : ℕ) (n g k : List ℕ) where
  abbrev four : ℕ
  four = first_four w s i (length n) (length g) (length k)

  -- a turn that is refused so
  idle_refused : four ≡ 0 → eqb (kind_no (head_at k i).kind) 0 ≡ true → refused (idle_number (views s i) (head_at k i).answer) s (areas n g k) ≡ turn w s i (areas n g k)
  unfolding idle_number pick
  idle_refused z y = by (answer_fits (views s i) (head_at k i).answer) ∙ sym (here-idle w s i n g k refl refl y) ∙ here-turn w s i n g k refl z
    where
      by : (d : Bool) → refused (pick d 8 6) s (areas n g k) ≡ pick d (refused 8 s (areas n g k)) (refused 6 s (areas n g k))
      by true = refl
      by false = refl

  pub turn_refused : {r : Reply} {q : ℕ} → r ≡ reply q Nothing 0 s → q ≡ refused_turn w s i (areas n g k) → (q ≡ 0 → ⊥) → result_of r (areas n g k) ≡ turn w s i (areas n g k)
  unfolding refused_turn
  turn_refused {r} {q} a e z = by (eqb four 0) refl (eqb (kind_no (head_at k i).kind) 0) refl
    where
      by : (x : Bool) → eqb four 0 ≡ x → (y : Bool) → eqb (kind_no (head_at k i).kind) 0 ≡ y → result_of r (areas n g k) ≡ turn w s i (areas n g k)
      by true x true y =
          let v : q ≡ idle_number (views s i) (head_at k i).answer = e ∙ pick_true _ _ _ x ∙ pick_true _ _ _ y in
          rw (a, v) (idle_refused (eqb-true _ _ x) y)
      by true x false y = absurd (z (e ∙ pick_true _ _ _ x ∙ pick_false _ _ _ y))
      by false x y v = below.turn-refused w s i n g k a (e ∙ pick_false _ _ _ x) z

  -- and one that is not: questions 1 to 4 are answered yes, and the worker has a call open
  pub turn_four : refused_turn w s i (areas n g k) ≡ 0 → four ≡ 0
  unfolding refused_turn
  turn_four e = (both_zero (four) _ e).0

  pub turn_open : refused_turn w s i (areas n g k) ≡ 0 → kind_no (head_at k i).kind ≢ 0
  unfolding refused_turn idle_number pick
  turn_open e z = by (answer_fits (views s i) (head_at k i).answer) (sym (pick_true _ (idle_number (views s i) (head_at k i).answer) 0 (eq-eqb _ _ z)) ∙ (both_zero (four) _ e).1)
    where
      by : (d : Bool) → ◌≡◌ {A = ℕ} (pick d 8 6) 0 → ⊥
      by true y = omega arith
      by false y = omega arith

-- where a list begins
module _ (s : Settings) (limit : ℕ) (n g k : List ℕ) where
  begin_is : counted s s.nodes_taken s.levels_taken ≡ s
  unfolding counted
  begin_is = refl

  pub begin_three : first_three s.width s (length n) (length g) (length k) ≡ 0 → Three s.width s.workers (state (counted_by s (tally 0 s.nodes_taken s.levels_taken limit 0 0)) (areas n g k))
  begin_three e = rw begin_is (three_of s.width s n g k e)

  pub begin_list : (l : List ℕ) → ran_list s.width l (ran_of s (tally 0 s.nodes_taken s.levels_taken limit 0 0) (areas n g k)) ≡ ran_list s.width l (run 0 (state s (areas n g k)) limit 0 0)
  begin_list l = ap (λ (x : Settings). ran_list s.width l (run 0 (state x (areas n g k)) limit 0 0)) begin_is

-- an entry's turn has what it requires
module _ (s : Settings) (t : Stand) (i n g k : ℕ) where
  pub entry_sized : {m : Settings} → m ≡ counted_by s t → first_three s.width (counted_by s t) n g k ≡ 0 → Sized m
  unfolding counted
  entry_sized e f = rw e (sized (counted_by s t) n g k f)

  pub entry_viewers : first_three s.width (counted_by s t) n g k ≡ 0 → s.viewers ≤ s.workers
  unfolding counted
  entry_viewers f = (sized (counted_by s t) n g k f).ranges.viewers

  pub entry_inside : first_three s.width (counted_by s t) n g k ≡ 0 → i < s.workers → worker_words * i + worker_words ≤ k
  unfolding counted
  entry_inside f h = three_inside s.width (counted_by s t) i n g k f h

-- what holds of where a list stands, and after a turn done, holds after an entry
ran-both : (P : Run → Type 0) (w : ℕ) (u : Run) (i : ℕ) → P u → P (run 6 u.state' u.left u.done u.failed) → (u.left ≢ 0 → P (run 0 (after (turn w u.state'.settings i u.state'.areas)) (u.left - 1) (u.done + done_in (exchange_at w (turns i) u.state')) (u.failed + failed_in (exchange_at w (turns i) u.state')))) → P (ran_entry w u i)
unfolding ran_entry ran_by
ran-both P w u i stays six done =
    pick-both P _ (λ e. stays)
    (λ e. pick-both P _ (λ f. pick-both P _ (λ p. six) (λ p. pick-both P _ (λ q. stays) (λ q. done (eqb-false _ _ e)))) (λ f. stays))

-- an entry leaves questions 1 to 3 answered yes
pub entry_keeps : (w : ℕ) {workers : ℕ} (s : Settings) (t u : Stand) (i : ℕ) (a b : Areas) → ran_of s u b ≡ ran_entry w (ran_of s t a) i → Three w workers (state (counted_by s t) a) → Three w workers (state (counted_by s u) b)
entry_keeps w {workers} s t u i a b e y = subst (λ (v : Run). Three w workers v.state') (sym e) (ran-both (λ (v : Run). Three w workers v.state') w (ran_of s t a) i y y (λ z. three_stays w (state (counted_by s t) a) i y))

-- the exchanges counted and the turns left do not grow: a turn makes at most one exchange
pub entry_fits : (w m : ℕ) (s : Settings) (t u : Stand) (i : ℕ) (a b : Areas) → ran_of s u b ≡ ran_entry w (ran_of s t a) i → t.done + t.failed + t.left ≤ m → u.done + u.failed + u.left ≤ m
entry_fits w m s t u i a b e y =
    let Fits : Run → Type 0 = λ v. v.done + v.failed + v.left ≤ m in
    subst Fits (sym e) (ran-both Fits w (ran_of s t a) i y y (λ z. let k = one_exchange (exchange_at w (turns i) (state (counted_by s t) a)) in omega arith))

-- the first entry of a list, and those behind it
pub list_on : (w i : ℕ) (l : List ℕ) (u : Run) {v x : Run} → v ≡ ran_entry w u i → ran_list w (i ∷ l) u ≡ x → ran_list w l v ≡ x
unfolding ran_list
list_on w i l u e f = ap (ran_list w l) e ∙ f

pub empty : (l : List ℕ) → length l ≡ 0 → l ≡ []
empty [] e = refl
empty (x ∷ l) e = absurd (omega arith)

pub list_end : (w : ℕ) {u x : Run} → ran_list w [] u ≡ x → u ≡ x
unfolding ran_list
list_end w e = e

module _ (n i : ℕ) (l : List ℕ) (e : every (λ j. ltb j n) (i ∷ l) ≡ true) where
  pub first_below : i < n
  unfolding every
  first_below = ltb-true i n (both_left _ _ e)

  pub rest_below : every (λ j. ltb j n) l ≡ true
  unfolding every
  rest_below = both_right (ltb i n) _ e

-- a list that goes no further
pub list_left : (w : ℕ) (l : List ℕ) (s : Settings) (t : Stand) (a : Areas) {x : Run} → ran_list w l (ran_of s t a) ≡ x → t.left ≡ 0 → ran_of s t a ≡ x
list_left w l s t a e y = sym (stopped w l (ran_of s t a) y) ∙ e

pub list_six : (w : ℕ) (l : List ℕ) (s : Settings) (t : Stand) (a : Areas) {x : Run} → ran_list w l (ran_of s t a) ≡ x → (t.number ≡ 0 → ⊥) → ran_of s t a ≡ x
list_six w l s t a e g = sym (refused_on w l (ran_of s t a) g) ∙ e

-- a test that goes on at each element, begun with b
pub fold_every : (n : ℕ) (b : Bool) (l : List ℕ) → fold (λ b i. both b (ltb i n)) b l ≡ both b (every (λ i. ltb i n) l)
unfolding every both
fold_every n true [] = refl
fold_every n false [] = refl
fold_every n true (x ∷ l) = fold_every n (ltb x n) l
fold_every n false (x ∷ l) = fold_every n false l

-- an entry of a list whose entries are below the number of workers
pub entry_below : (l : List ℕ) (k : ℕ) {n v : ℕ} → every (λ i. ltb i n) l ≡ true → v ≡ get_or l k 0 → k < length l → v < n
unfolding every
entry_below [] k e a h = absurd (omega arith)
entry_below (x ∷ l) zero {n} {v} e a h =
    let q : x < n = ltb-true x n (both_left _ _ e) in
    let d : v ≡ x = a in
    omega arith
entry_below (x ∷ l) (suc k) e a h = entry_below l k (both_right _ _ e) a (omega arith)

-- questions 1 to 3, then 4
by_three : (a b c d : Bool) → let t = first_no (asks 1 a ∷ asks 2 b ∷ asks 3 c ∷ []) in first_no (asks 1 a ∷ asks 2 b ∷ asks 3 c ∷ asks 4 d ∷ []) ≡ pick (eqb t 0) (pick d 0 4) t
unfolding first_no pick
by_three false b c d = refl
by_three true false c d = refl
by_three true true false d = refl
by_three true true true false = refl
by_three true true true true = refl

module _ (w : ℕ) (s : Settings) (l : List ℕ) (n g k : List ℕ) where
  pub list_first : first_no (list_questions w s l (areas n g k)) ≡ pick (eqb (first_three w s (length n) (length g) (length k)) 0) (pick (question4_all s l) 0 4) (first_three w s (length n) (length g) (length k))
  unfolding list_questions first_three
  list_first = by_three _ _ _ _

  -- what a yes to them says
  module _ {q : ℕ} (e : q ≡ first_no (list_questions w s l (areas n g k))) (z : q ≡ 0) where
    pub asked_three : first_three w s (length n) (length g) (length k) ≡ 0
    asked_three = (both_zero (first_three w s (length n) (length g) (length k)) _ (sym list_first ∙ sym e ∙ z)).0

    pub asked_below : every (λ i. ltb i s.workers) l ≡ true
    unfolding question4_all question4
    asked_below = four_yes _ (both_zero (first_three w s (length n) (length g) (length k)) _ (sym list_first ∙ sym e ∙ z)).1

    -- the list is carried out as the code tallies it
    pub list_done : (limit : ℕ) (t : Stand) {x : Areas} → ran_of s t x ≡ ran_list w l (run 0 (state s (areas n g k)) limit 0 0) → listed limit t (counted_by s t) x ≡ list_report w s l limit (areas n g k)
    unfolding list_report many.turns unless_refused list_events ran_report pick question4_all question4
    list_done limit t o =
        let y = three_yes w s (length n) (length g) (length k) asked_three in
        let i : eqb (first_no (list_questions w s l (areas n g k))) 0 ≡ true = eq-eqb _ _ (sym e ∙ z) in
        rw i (ap (ran_report limit) o ∙ list_cut w s l limit (areas n g k) y.0 y.1 y.2 asked_below)

  -- a list that is refused has no turns of its own
  pub list_refused : (limit : ℕ) {q : ℕ} → q ≡ first_no (list_questions w s l (areas n g k)) → (q ≡ 0 → ⊥) → report (refused q s (areas n g k)) 0 0 ≡ list_report w s l limit (areas n g k)
  unfolding list_report many.turns unless_refused list_events total pick
  list_refused limit e z =
      let b : eqb (first_no (list_questions w s l (areas n g k))) 0 ≡ false = ne_eqb _ _ (λ y. z (e ∙ y)) in
      rw b (ap (λ (y : ℕ). report (refused y s (areas n g k)) 0 0) e)
