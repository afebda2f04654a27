-- One turn is a list of one entry: the ways through its functions, and that its reply is the turn's.
-- Relies on Tells for the number that the record tells, on Ways for what refuses a turn before, on rules for its answer and for the numbers of a turn.
use Prim.Native.Nat.{ℕ, ◌+◌, ◌*◌, ◌≤◌, ◌<◌}
use mathlib.Core.Path.{◌≡◌, refl, ap, ap₂, sym, subst, ◌∙◌}
use mathlib.Core.Logic.{◌≢◌}
use mathlib.Core.Bool.{Bool, true, false}
use mathlib.Core.List.{List, [], ◌∷◌}
use native.Mathlib.Omega.{arith}
use lib.Dec.{eqb, ltb}
use lib.ListN.{length}
use borrow.Author.Tests.{ne_eqb, eq-eqb, ltb-true}
use Rattle.words.specs.Choice.{pick, every}
use Rattle.words.proofs.Choice.{pick-both, pick_true, pick_false, both_true}
use Rattle.settings.specs.Sizes.{question1, question3, worker_words, views}
use Rattle.settings.specs.Cut.{counted, first_three, Sized}
use Rattle.settings.specs.declared.Settings.{Settings}
use Rattle.settings.proofs.Laws.{sized}
use Rattle.areas.specs.Memory.{Areas, areas}
use Rattle.record.specs.declared.Answer.{Answer}
use Rattle.record.specs.declared.Answer.TheVariants.{Nothing, Open}
use Rattle.record.specs.declared.Exchange.{Exchange}
use Rattle.record.specs.declared.Reply.{Reply}
use Rattle.record.specs.Kinds.{kind_no, answer_of}
use Rattle.record.specs.Layout.{worker_place, head_at, store}
use Rattle.record.proofs.Records.{head_stored}
use Rattle.rules.specs.Heads.{ended}
use Rattle.rules.specs.Lists.{state, after}
use Rattle.rules.specs.Calls.{turns}
use Rattle.rules.specs.Exchanges.{exchange_at, done_in, failed_in}
use Rattle.rules.specs.Operations.{Result, result_of, reply, refused, record_of, memory_of, full, full_record, taken, turn, turn_questions, question2_of, last_of}
use Rattle.words.specs.Choice.{first_no, asks}
use Rattle.rules.specs.Asked.{question4, question6, question8, question9}
use Rattle.rules.specs.Steps.{Step}
use Rattle.rules.specs.Acts.{act}
use Rattle.rules.proofs.OneTurn.{turn-number, done_number, nine_is_full, turn-refused}
use Rattle.rules.proofs.Questions.{first-later}
use Rattle.rules.proofs.Tells.{Tells, act_tells}
use Rattle.table.specs.Cut.{first_four}
use Rattle.table.proofs.Questions.{both_zero}
use Rattle.turns.specs.Cut.{Outcome, did, did_as}
use Rattle.turns.proofs.Ways.{four_yes, four_inside}
use Rattle.lists.specs.Cut.{Stand, Run, run, tally, counted_by, ran_of, ran_by, ran_entry, ran_list, number_by, told_reply, refused_turn, next_tally, open_tally}
use Rattle.lists.proofs.Tells.{act_number}
use Rattle.lists.proofs.Ways.{not_eight, turn_four, turn_open, entry_open, views_so}

-- the numbers that a turn gives once questions 1 to 4 are answered yes
data Among (n : ℕ) : Type 0 where
  is_none : n ≡ 0 → Among n
  is_six : n ≡ 6 → Among n
  is_eight : n ≡ 8 → Among n
  is_nine : n ≡ 9 → Among n

among :
    (a b c d e f g : Bool)
    → let t = first_no (asks 1 a ∷ asks 2 b ∷ asks 3 c ∷ []) in
    pick (eqb t 0) (pick d 0 4) t ≡ 0 → Among (first_no (asks 1 a ∷ asks 2 b ∷ asks 3 c ∷ asks 4 d ∷ asks 6 e ∷ asks 8 f ∷ asks 9 g ∷ []))
unfolding first_no pick
among false b c d e f g z = absurd (omega arith)
among true false c d e f g z = absurd (omega arith)
among true true false d e f g z = absurd (omega arith)
among true true true false e f g z = absurd (omega arith)
among true true true true false f g z = is_six refl
among true true true true true false g z = is_eight refl
among true true true true true true false z = is_nine refl
among true true true true true true true z = is_none refl

module _ (w : ℕ) (s : Settings) (i : ℕ) (a : Areas) where
  abbrev its : Result
  its = turn w s i a

  abbrev Yes : Type 0
  Yes = first_four w s i (length a.nodes) (length a.levels) (length a.workers) ≡ 0

  first_among : Yes → Among (first_no (turn_questions w s i a))
  unfolding first_four first_three turn_questions
  first_among e =
      among (question1 s) (question2_of w s a) (question3 w s) (question4 s i) (question6 w (views s i) s (record_of a i) (memory_of a)) (question8 (record_of a i))
      (question9 s (record_of a i)) e

  numbers : Yes → Among its.reply.number
  numbers e = subst Among (sym (turn-number w s i a)) (first_among e)

  -- the worker has a call open where its turn was taken
  taken_open : its.reply.number ≡ 0 → question8 (record_of a i) ≡ true
  unfolding turn_questions
  taken_open z =
      let e₀ : first_no (turn_questions w s i a) ≡ 0 = sym (turn-number w s i a) ∙ z in
      let (y₁, e₁) = first-later 1 _ _ (λ y. omega arith) e₀ in
      let (y₂, e₂) = first-later 2 _ _ (λ y. omega arith) e₁ in
      let (y₃, e₃) = first-later 3 _ _ (λ y. omega arith) e₂ in
      let (y₄, e₄) = first-later 4 _ _ (λ y. omega arith) e₃ in
      let (y₆, e₆) = first-later 6 _ _ (λ y. omega arith) e₄ in
      (first-later 8 _ _ (λ y. omega arith) e₆).0

  -- the record tells the reply of a turn that was done
  abbrev IsTold : Result → Type 0
  IsTold r = r.reply ≡ told_reply (head_at r.areas.workers i) r.reply.settings

  taken-told : worker_place i + 10 ≤ length a.workers → question8 (record_of a i) ≡ true → IsTold (taken (act w (views s i) s (record_of a i) (memory_of a)) i a.workers)
  unfolding taken
  taken-told room q =
      let t : Step = act w (views s i) s (record_of a i) (memory_of a) in
      let k : Tells (views s i) t = act_tells w (views s i) s (record_of a i) (memory_of a) q in
      let h : head_at (store t.record' i a.workers) i ≡ t.record'.head = head_stored w t.record' i a.workers room in
      rw (h, act_number w (views s i) s (record_of a i) (memory_of a) q, k.answer_is) refl

  full-told : worker_place i + 10 ≤ length a.workers → IsTold (full s i a)
  unfolding full full_record number_by last_of ended kind_no answer_of pick
  full-told room =
      let h : head_at (store (full_record (record_of a i).head) i a.workers) i ≡ (full_record (record_of a i).head).head =
      head_stored w (full_record (record_of a i).head) i a.workers room
      in
      rw h refl

  reply-told : worker_place i + 10 ≤ length a.workers → Among its.reply.number → its.reply.number ≢ 6 → its.reply.number ≢ 8 → IsTold its
  reply-told room (is_six e) p q = absurd (p e)
  reply-told room (is_eight e) p q = absurd (q e)
  reply-told room (is_none e) p q = subst IsTold (sym (done_number w s i a e)) (taken-told room (taken_open e))
  reply-told room (is_nine e) p q = subst IsTold (sym (nine_is_full w s i a e)) (full-told room)

  -- the list of that entry alone
  abbrev alone : Run
  alone = run 0 (state s a) 1 0 0

  abbrev made : Exchange
  made = exchange_at w (turns i) (state s a)

  abbrev ran : Run
  ran = ran_by alone made its

  ran_one : ran_list w (i ∷ []) alone ≡ ran
  unfolding ran_list ran_entry pick
  ran_one = refl

  refused_is : (n : ℕ) → its.reply.number ≡ n → n ≢ 0 → n ≢ 9 → its ≡ refused n s a
  refused_is n e p q = turn-refused w s i a (λ z. p (sym e ∙ z)) (λ z. q (sym e ∙ z)) ∙ ap (λ (k : ℕ). refused k s a) e

  -- what the tally of that list says of the turn: a 6, or what the record tells, with the tally's counts
  module _ (t : Stand) {x : Areas} (g : ran_of s t x ≡ ran) where
    ran-six : its.reply.number ≡ 6 → ran_of s t x ≡ run 6 (state s a) 1 0 0
    unfolding ran_by
    ran-six n = g ∙ pick_true _ _ _ (eq-eqb _ _ n)

    ran_done : its.reply.number ≢ 6 → its.reply.number ≢ 8 → ran_of s t x ≡ run 0 (after its) 0 (0 + done_in made) (0 + failed_in made)
    unfolding ran_by
    ran_done p q = g ∙ (pick_false _ _ _ (ne_eqb _ _ p) ∙ pick_false _ _ _ (ne_eqb _ _ q))

    one_taken : its.reply.number ≢ 6 → its.reply.number ≢ 8 → IsTold its → result_of (told_reply (head_at x.workers i) (counted_by s t)) x ≡ its
    one_taken p q y =
        let k = ran_done p q in
        let o : counted_by s t ≡ its.reply.settings = ap (λ (v : Run). v.state'.settings) k in
        let v : x ≡ its.areas = ap (λ (v : Run). v.state'.areas) k in
        ap (λ (v : Settings). result_of (told_reply (head_at x.workers i) v) x) o
        ∙ ap (λ (v : Areas). result_of (told_reply (head_at v.workers i) its.reply.settings) v) v
        ∙ ap (λ (v : Reply). result_of v its.areas) (sym y)

    on_six : Among its.reply.number → its.reply.number ≢ 8 → t.number ≡ 6 → refused 6 s x ≡ its
    on_six (is_six n) q e = ap (refused 6 s) (ap (λ (v : Run). v.state'.areas) (ran-six n)) ∙ sym (refused_is 6 n (λ z. omega arith) (λ z. omega arith))
    on_six (is_eight n) q e = absurd (q n)
    on_six (is_none n) q e = let z : t.number ≡ 0 = ap (λ (v : Run). v.number) (ran_done (λ u. omega arith) q) in absurd (omega arith)
    on_six (is_nine n) q e = let z : t.number ≡ 0 = ap (λ (v : Run). v.number) (ran_done (λ u. omega arith) q) in absurd (omega arith)

    on_told : Among its.reply.number → its.reply.number ≢ 8 → worker_place i + 10 ≤ length a.workers → t.number ≢ 6 → result_of (told_reply (head_at x.workers i) (counted_by s t)) x ≡ its
    on_told (is_six n) q room p = absurd (p (ap (λ (v : Run). v.number) (ran-six n)))
    on_told (is_eight n) q room p = absurd (q n)
    on_told (is_none n) q room p = let o : its.reply.number ≢ 6 = λ z. omega arith in one_taken o q (reply-told room (is_none n) o q)
    on_told (is_nine n) q room p = let o : its.reply.number ≢ 6 = λ z. omega arith in one_taken o q (reply-told room (is_nine n) o q)

-- a turn of a worker with a call open, from the tally of a list of it alone
module _ (s : Settings) (i : ℕ) (n g k : List ℕ) (o : refused_turn s.width s i (areas n g k) ≡ 0) where
  four : first_four s.width s i (length n) (length g) (length k) ≡ 0
  four = turn_four s.width s i n g k o

  room : worker_place i + 10 ≤ length k
  unfolding worker_place
  room = let e : worker_words * i + worker_words ≤ length k = four_inside s.width s i (length n) (length g) (length k) refl four in omega arith

  not-idle : (turn s.width s i (areas n g k)).reply.number ≢ 8
  not-idle = not_eight s.width s i n g k (turn_open s.width s i n g k o)

  abbrev asked : Among (turn s.width s i (areas n g k)).reply.number
  asked = numbers s.width s i (areas n g k) four

  -- what a list of it requires
  pub one_three : first_three s.width s (length n) (length g) (length k) ≡ 0
  unfolding first_four
  one_three = (both_zero (first_three s.width s (length n) (length g) (length k)) _ four).0

  pub one_sized : Sized s
  one_sized = sized s (length n) (length g) (length k) one_three

  pub one_below : {l : List ℕ} → l ≡ i ∷ [] → every (λ (j : ℕ). ltb j s.workers) l ≡ true
  unfolding every first_four question4
  one_below e = rw e (both_true (four_yes _ (both_zero (first_three s.width s (length n) (length g) (length k)) _ four).1) refl)

  -- what its entry requires, with nothing tallied yet
  abbrev begun : Stand
  begun = tally 0 s.nodes_taken s.levels_taken 1 0 0

  pub alone_three : first_three s.width (counted_by s begun) (length n) (length g) (length k) ≡ 0
  unfolding counted
  alone_three = one_three

  pub alone_below : i < s.workers
  unfolding first_four question4
  alone_below = ltb-true _ _ (four_yes _ (both_zero (first_three s.width s (length n) (length g) (length k)) _ four).1)

  pub alone_open : 1 ≤ kind_no (head_at k i).kind
  alone_open = let y = turn_open s.width s i n g k o in omega arith

  pub alone-ran : (u : Stand) {x : Areas} → ran_of s u x ≡ ran_entry s.width (ran_of s begun (areas n g k)) i → ran_of s u x ≡ ran_list s.width (i ∷ []) (run 0 (state s (areas n g k)) 1 0 0)
  unfolding ran_list counted
  alone-ran u e = e

  -- what it gives
  module _ (t : Stand) {x : Areas} {l : List ℕ} (p : ran_of s t x ≡ ran_list s.width l (run 0 (state s (areas n g k)) 1 0 0)) (q : l ≡ i ∷ []) where
    ran-alone : ran_of s t x ≡ ran s.width s i (areas n g k)
    ran-alone = p ∙ (ap (λ (y : List ℕ). ran_list s.width y (run 0 (state s (areas n g k)) 1 0 0)) q ∙ ran_one s.width s i (areas n g k))

    pub one_six : {r : Reply} → r ≡ reply 6 Nothing 0 s → t.number ≡ 6 → result_of r x ≡ turn s.width s i (areas n g k)
    one_six e z = rw e (on_six s.width s i (areas n g k) t ran-alone asked not-idle z)

    -- a list has no number but 0 and 6
    one_number : (t.number ≡ 0 → ⊥) → t.number ≡ 6
    unfolding ran_by
    one_number =
        let SixOrNone : Run → Type 0 = λ u. (u.number ≡ 0 → ⊥) → u.number ≡ 6 in
        subst SixOrNone (sym ran-alone) (pick-both SixOrNone _ (λ e z. refl) (λ e. pick-both SixOrNone _ (λ f z. absurd (z refl)) (λ f z. absurd (z refl))))

    pub one_refused : {r : Reply} → r ≡ reply t.number Nothing 0 s → (t.number ≡ 0 → ⊥) → result_of r x ≡ turn s.width s i (areas n g k)
    one_refused e z = let six = one_number z in one_six (e ∙ ap (λ (m : ℕ). reply m Nothing 0 s) six) six

    pub one_told : {r : Reply} {c : Settings} → r ≡ told_reply (head_at x.workers i) c → c ≡ counted_by s t → (t.number ≡ 6 → ⊥) → result_of r x ≡ turn s.width s i (areas n g k)
    one_told e c z = rw (e, c) (on_told s.width s i (areas n g k) t ran-alone asked not-idle room z)

    -- where the call is still open
    pub one_open : {r : Reply} {b : Bool} {c : Settings} → r ≡ reply 0 Open 0 c → b ≡ eqb (kind_no (head_at x.workers i).kind) 0 → b ≡ false → c ≡ counted_by s t → (t.number ≡ 6 → ⊥) → result_of r x ≡ turn s.width s i (areas n g k)
    unfolding number_by last_of
    one_open e f y c z =
        let v : eqb (kind_no (head_at x.workers i).kind) 0 ≡ false = sym f ∙ y in
        rw (e, c) (ap₂ (λ (m : ℕ) (u : Answer). result_of (reply m u 0 (counted_by s t)) x) (sym (pick_false _ _ _ v)) (sym (pick_false _ _ _ v)) ∙ on_told s.width s i (areas n g k) t ran-alone asked not-idle room z)

  -- a viewer's turn, taken apart from a list: it leaves both counts
  module _ (d : Outcome) {x : Areas} (e : did d x ≡ did_as s.width true s i (areas n g k)) {b : Bool} (v : b ≡ views s i) (y : b ≡ true) where
    abbrev viewed : Stand
    viewed = open_tally begun d

    viewed-ran : ran_of s viewed x ≡ ran_list s.width (i ∷ []) (run 0 (state s (areas n g k)) 1 0 0)
    unfolding counted
    viewed-ran = alone-ran viewed (entry_open s.width s begun i n g k refl (omega arith) alone_three alone_below refl e refl refl (views_so s i v y) alone_open)

    pub view_six : {r : Reply} → r ≡ reply 6 Nothing 0 s → d.number ≡ 6 → result_of r x ≡ turn s.width s i (areas n g k)
    unfolding open_tally
    view_six f z = one_six viewed viewed-ran refl f (ap (λ (u : Stand). u.number) (pick_true _ _ _ (eq-eqb _ _ z)))

    pub view_told : {r : Reply} → r ≡ told_reply (head_at x.workers i) s → (d.nodes_taken ≡ s.nodes_taken) × (d.levels_taken ≡ s.levels_taken) → (d.number ≡ 6 → ⊥) → result_of r x ≡ turn s.width s i (areas n g k)
    unfolding open_tally counted
    view_told f c z =
        let o : viewed ≡ next_tally begun d _ _ = pick_false _ _ _ (ne_eqb _ _ z) in
        let p : viewed.nodes_taken ≡ s.nodes_taken = ap (λ (u : Stand). u.nodes_taken) o ∙ c.0 in
        let q : viewed.levels_taken ≡ s.levels_taken = ap (λ (u : Stand). u.levels_taken) o ∙ c.1 in
        let l : viewed.number ≡ 0 = ap (λ (u : Stand). u.number) o in
        one_told viewed viewed-ran refl f (sym (ap₂ (λ (a b : ℕ). counted s a b) p q)) (λ m. omega arith)
