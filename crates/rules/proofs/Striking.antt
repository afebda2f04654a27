-- Striking the viewers' events leaves all else: a viewer's event writes its own words alone, and another's reads none of a viewer's.
-- Relies on the records of the invariant, on the laws of load and store, on demand 1.
use Prim.Native.Nat.{ℕ, zero, suc, ◌*◌, ◌+◌, ◌-◌, ◌≤◌, ◌<◌}
use mathlib.Core.Path.{◌≡◌, refl, sym, ap, ap₂, subst, ◌∙◌}
use mathlib.Core.Logic.{◌⊎◌, inl, inr}
use mathlib.Core.Bool.{Bool, true, false}
use mathlib.Core.List.{List, [], ◌∷◌}
use native.Mathlib.Decide.{ℕ_discrete}
use native.Mathlib.Omega.{arith}
use lib.Dec.{eqb}
use lib.ListN.{get_or, length, set, length-set}
use lib.Seq.{sets}
use borrow.Author.Tests.{ltb-true, leb-true, leb-false, eqb-false}
use Rattle.words.specs.Choice.{pick, both, first_no}
use Rattle.words.proofs.Choice.{pick-both, both_left, both_right}
use Rattle.settings.specs.Sizes.{worker_words, views}
use Rattle.settings.specs.declared.Settings.{Settings}
use Rattle.areas.specs.Memory.{Areas, areas, Memory, memory, is_node}
use Rattle.record.specs.declared.Kind.{Kind}
use Rattle.record.specs.declared.Answer.TheVariants.{Nothing, Full, Open}
use Rattle.record.specs.declared.Reply.{Reply}
use Rattle.record.specs.declared.Head.{Head}
use Rattle.record.specs.declared.Move.{Move}
use Rattle.record.specs.Kinds.{kind_no}
use Rattle.record.specs.Fits.{role_fits}
use Rattle.record.specs.Layout.{Record, head_list, load, store, store_head, store_moves, move_to, worker_place}
use Rattle.record.proofs.Records.{WellFormed, length-store, store_outside, load_same}
use Rattle.record.proofs.Apart.{place_next}
use Rattle.record.proofs.Apart as outside
use Rattle.rules.specs.Steps.{Step}
use Rattle.rules.specs.Searching as searching
use Rattle.rules.specs.Acts.{act_by, act}
use Rattle.rules.specs.Asked.{question4, question7}
use Rattle.rules.specs.Operations.{AtWidth, Result, reply, refused, unless_refused, record_of, memory_of, start_questions, started_areas, start, turn_questions, taken, full, full_record, turn}
use Rattle.rules.specs.Lists as lists
use Rattle.rules.specs.Lists.{State, state}
use Rattle.rules.specs.Calls.{Event, starts, turns, happens, Happened, history, state_after, Call, Opened}
use Rattle.rules.specs.Refusals.{later}
use Rattle.rules.specs.Refusals as first
use Rattle.rules.specs.Striking.{worker_of, of_viewer, struck, struck_from, Alike, StrikingStatement}
use Rattle.trie.proofs.Whole.{Worker}
use Rattle.rules.proofs.Carried.{start_done, opening_done}
use Rattle.rules.proofs.Refused.{refuses-start, refuses-opening}
use Rattle.rules.proofs.OneTurn.{done_number, nine_is_full, turn-leaves, refuses-turn}
use Rattle.rules.proofs.Idle.{busy_of}
use Rattle.rules.proofs.Fitting.{no_moves, well_formed}
use Rattle.rules.proofs.Stored.{moves_few}
use Rattle.rules.proofs.Invariant.{WorldOf, views_same, Fine, at}
use Rattle.rules.proofs.FineQuestions.{yes_1, yes_2, yes_3}
use Rattle.rules.proofs.Dims.{Width}
use Rattle.rules.proofs.Opened.{along_opened}
use Rattle.rules.proofs.Sequence.{event_along}
use Rattle.rules.proofs.Theorem.{opening_yes, opened-width}
use Rattle.rules.proofs.Along.{Along}
use Rattle.rules.proofs.LastAnswers.{turn_yes, alone, full_formed}
use Rattle.rules.proofs.Roles.{Viewing, at_look, at_read, at_tail, at_follow, viewing_kind, of_viewer_lem}

-- a viewer's turn leaves settings, nodes and levels, and no Move
pub record Still (s : Settings) (m : Memory) (t : Step) : Type 0 where
  pub settings_is : t.settings ≡ s
  pub memory_is : t.memory ≡ m
  pub moves_are : t.record'.moves ≡ []

module _ (w : ℕ) (s : Settings) (h : Head) (m : Memory) where
  viewed_still : (h' : Head) → Still s m (searching.viewed true s h' m)
  unfolding searching.viewed
  viewed_still h' = pick-both (Still s m) _ (λ e. record { settings_is = refl; memory_is = refl; moves_are = refl }) (λ e. record { settings_is = refl; memory_is = refl; moves_are = refl })

  met_still : (c g word : ℕ) → Still s m (searching.met s h c g word m)
  unfolding searching.met searching.met_node
  met_still c g word =
      pick-both (Still s m) (is_node word)
      (λ e. pick-both (Still s m) (eqb _ h.pixel) (λ q. record { settings_is = refl; memory_is = refl; moves_are = refl }) (λ q. record { settings_is = refl; memory_is = refl; moves_are = refl }))
      (λ e. record { settings_is = refl; memory_is = refl; moves_are = refl })

  pub viewer_still : {k : Kind} (ms : List Move) → Viewing k → Still s m (act_by k w true s h ms m)
  unfolding act_by searching.look searching.tail searching.read searching.read_word searching.follow searching.follow_word
  viewer_still ms at_look = viewed_still _
  viewer_still ms at_read = met_still _ _ _
  viewer_still ms at_tail = viewed_still _
  viewer_still ms at_follow = met_still _ _ _

-- two lists of one length that agree at a place agree there after the same writes
set_agree : (l l' : List ℕ) (i v k : ℕ) → length l' ≡ length l → get_or l' k 0 ≡ get_or l k 0 → get_or (set l' i v) k 0 ≡ get_or (set l i v) k 0
set_agree [] [] i v k s e = refl
set_agree [] (y ∷ l') i v k s e = absurd (omega arith)
set_agree (x ∷ l) [] i v k s e = absurd (omega arith)
set_agree (x ∷ l) (y ∷ l') zero v zero s e = refl
set_agree (x ∷ l) (y ∷ l') zero v (suc k) s e = e
set_agree (x ∷ l) (y ∷ l') (suc i) v zero s e = e
set_agree (x ∷ l) (y ∷ l') (suc i) v (suc k) s e = set_agree l l' i v k (omega arith) e

record Agree (k : ℕ) (l l' : List ℕ) : Type 0 where
  pub size : length l' ≡ length l
  pub word : get_or l' k 0 ≡ get_or l k 0

sets_agree : {k : ℕ} (vs l l' : List ℕ) (p : ℕ) → Agree k l l' → Agree k (sets l p vs) (sets l' p vs)
sets_agree [] l l' p a = a
sets_agree {k} (v ∷ vs) l l' p a = sets_agree vs (set l p v) (set l' p v) (suc p) (record { size = length-set l' p v ∙ (a.size ∙ sym (length-set l p v)); word = set_agree l l' p v k a.size a.word })

move_agree : {k : ℕ} (v : Move) (p : ℕ) (l l' : List ℕ) → Agree k l l' → Agree k (move_to v p l) (move_to v p l')
unfolding move_to
move_agree v p l l' a = sets_agree v.nodes _ _ (p + 3) (sets_agree (v.home ∷ v.child ∷ v.count ∷ []) l l' p a)

moves_agree : {k : ℕ} (ms : List Move) (i : ℕ) (l l' : List ℕ) → Agree k l l' → Agree k (store_moves ms i l) (store_moves ms i l')
unfolding store_moves
moves_agree [] i l l' a = a
moves_agree (v ∷ ms) i l l' a = moves_agree ms i _ _ (move_agree v _ l l' a)

store_agree : {k : ℕ} (r : Record) (i : ℕ) (l l' : List ℕ) → Agree k l l' → Agree k (store r i l) (store r i l')
unfolding store store_head
store_agree r i l l' a = moves_agree r.moves i _ _ (sets_agree (head_list r.head (length r.moves)) l l' (worker_place i) a)

place-le : {p i : ℕ} → p ≤ i → worker_words * p ≤ worker_words * i
place-le {p} {i} h = by (ℕ_discrete p i)
  where
    by : Dec (p ≡ i) → worker_words * p ≤ worker_words * i
    by (yes e) = rw e (omega arith)
    by (no e) = let l : p < i = omega arith in let q = place_next l in omega arith

module _ {s : Settings} where
  alike_refl : (x : State) → Alike s x x
  alike_refl x = record { settings_same = refl; nodes_same = refl; levels_same = refl; size_same = refl; words_same = λ k h. refl }

  alike_then : {x y z : State} → Alike s x y → Alike s y z → Alike s x z
  alike_then p q =
      record {
        settings_same = q.settings_same ∙ p.settings_same;
        nodes_same = q.nodes_same ∙ p.nodes_same;
        levels_same = q.levels_same ∙ p.levels_same;
        size_same = q.size_same ∙ p.size_same;
        words_same = λ k h. q.words_same k h ∙ p.words_same k h;
      }

-- the event of a viewer
module _ {w : ℕ} {s₀ : Settings} {x : State} {k : ℕ} {os : List Opened} {cs : List Call} (a : Along w s₀ x k os cs) (i : ℕ) (here : i < s₀.workers) (view : views s₀ i ≡ true) where
  first_viewer : s₀.workers - s₀.viewers ≤ i
  unfolding views
  first_viewer = leb-true _ _ view

  -- its own words alone
  own_words : (r : Record) → WellFormed r → (j : ℕ) → (j < worker_words * (s₀.workers - s₀.viewers)) ⊎ (worker_words * s₀.workers ≤ j) → get_or x.areas.workers j 0 ≡ get_or (store r i x.areas.workers) j 0
  unfolding worker_place
  own_words r f j (inl h) = let p = place-le first_viewer in sym (store_outside w r i x.areas.workers f j (outside.before (omega arith)))
  own_words r f j (inr h) = let p = place_next here in sym (store_outside w r i x.areas.workers f j (outside.after (omega arith)))

  own : (r : Record) → WellFormed r → Alike s₀ (state x.settings (areas x.areas.nodes x.areas.levels (store r i x.areas.workers))) x
  own r f = record { settings_same = refl; nodes_same = refl; levels_same = refl; size_same = sym (length-store w r i x.areas.workers); words_same = own_words r f }

  start_own : (looks : Bool) (row column : ℕ) → Alike s₀ (lists.after (start w x.settings looks i row column x.areas)) x
  unfolding started_areas
  start_own looks row column = by (ℕ_discrete (start w x.settings looks i row column x.areas).reply.number 0)
    where
      by : Dec ((start w x.settings looks i row column x.areas).reply.number ≡ 0) → Alike s₀ (lists.after (start w x.settings looks i row column x.areas)) x
      by (yes z) = subst (λ (r : Result). Alike s₀ (lists.after r) x) (sym (start_done w x.settings looks i row column x.areas z)) (own _ (alone _))
      by (no z) = subst (λ (y : State). Alike s₀ y x) (sym ((refuses-start w x.settings looks i row column x.areas).unchanged z).1) (alike_refl x)

  still : (turn w x.settings i x.areas).reply.number ≡ 0 → Still x.settings (memory_of x.areas) (act w (views x.settings i) x.settings (record_of x.areas i) (memory_of x.areas))
  unfolding act question7
  still z =
      let y = turn_yes w x i ((refuses-turn w x.settings i x.areas).numbered.carried.0 z) in
      let b = busy_of (record_of x.areas i) y.open8 in
      let v = viewing_kind (record_of x.areas i).head.kind (of_viewer_lem _ (subst (λ (o : Bool). role_fits o (kind_no (record_of x.areas i).head.kind) ≡ true) view ((a.fine.roles i here).call (eqb-false _ _ b)))) in
      subst (λ (o : Bool). Still x.settings (memory_of x.areas) (act_by (record_of x.areas i).head.kind w o x.settings (record_of x.areas i).head (record_of x.areas i).moves (memory_of x.areas))) (sym (views_same i a.fine.table.same ∙ view))
      (viewer_still w x.settings (record_of x.areas i).head (memory_of x.areas) (record_of x.areas i).moves v)

  turn_own : Alike s₀ (lists.after (turn w x.settings i x.areas)) x
  unfolding taken full full_record
  turn_own = by (ℕ_discrete (turn w x.settings i x.areas).reply.number 0) (ℕ_discrete (turn w x.settings i x.areas).reply.number 9)
    where
      by : Dec ((turn w x.settings i x.areas).reply.number ≡ 0) → Dec ((turn w x.settings i x.areas).reply.number ≡ 9) → Alike s₀ (lists.after (turn w x.settings i x.areas)) x
      by (yes z) d =
          let t = still z in
          let f = no_moves _ t.moves_are in
          subst (λ (r : Result). Alike s₀ (lists.after r) x) (sym (done_number w x.settings i x.areas z))
          (record { settings_same = sym t.settings_is; nodes_same = ap (λ (m : Memory). m.nodes) (sym t.memory_is); levels_same = ap (λ (m : Memory). m.levels) (sym t.memory_is); size_same = sym (length-store w _ i x.areas.workers); words_same = own_words _ f })
      by (no z) (yes y) = subst (λ (r : Result). Alike s₀ (lists.after r) x) (sym (nine_is_full w x.settings i x.areas y)) (own _ (full_formed _))
      by (no z) (no y) = subst (λ (y : State). Alike s₀ y x) (sym (turn-leaves w x.settings i x.areas z y)) (alike_refl x)

-- what a start and a turn of worker i give, by the areas' lengths and the worker's record
pick-reply : (b : Bool) (r r' : Result) → (pick b r r').reply ≡ pick b r.reply r'.reply
unfolding pick
pick-reply true r r' = refl
pick-reply false r r' = refl

module _ (w : ℕ) (s : Settings) (i : ℕ) (n g l l' : List ℕ) (size : length l' ≡ length l) (rec : load l' i ≡ load l i) where
  start_first : (looks : Bool) (row column : ℕ) → first_no (start_questions w s looks i row column (areas n g l')) ≡ first_no (start_questions w s looks i row column (areas n g l))
  unfolding start_questions
  start_first looks row column = rw (size, rec) refl

  start-reply : (looks : Bool) (row column : ℕ) → (start w s looks i row column (areas n g l')).reply ≡ (start w s looks i row column (areas n g l)).reply
  unfolding start unless_refused
  start-reply looks row column =
      pick-reply _ _ _
      ∙ (ap (λ (m : ℕ). pick (eqb m 0) (reply 0 Open 0 s) (reply m Nothing 0 s)) (start_first looks row column)
      ∙ sym (pick-reply _ _ _))

  turn-first : first_no (turn_questions w s i (areas n g l')) ≡ first_no (turn_questions w s i (areas n g l))
  unfolding turn_questions
  turn-first = rw (size, rec) refl

  turn_same : (turn w s i (areas n g l')).reply ≡ (turn w s i (areas n g l)).reply
  unfolding turn unless_refused taken full
  turn_same =
      pick-reply _ _ _
      ∙ (ap (λ (r : Reply). pick (eqb (first_no (turn_questions w s i (areas n g l'))) 9) (reply 9 Full 0 s) r) (pick-reply _ _ _)
      ∙ (ap₂ (λ (m : ℕ) (r : Record). pick (eqb m 9) (reply 9 Full 0 s) (pick (eqb m 0) (reply 0 (act w (views s i) s r (memory n g)).answer 0 (act w (views s i) s r (memory n g)).settings) (reply m Nothing 0 s))) turn-first rec
      ∙ sym (pick-reply _ _ _ ∙ ap (λ (r : Reply). pick (eqb (first_no (turn_questions w s i (areas n g l))) 9) (reply 9 Full 0 s) r) (pick-reply _ _ _))))

-- the event of another worker of the table, in two states that are alike
module _ {w : ℕ} {s₀ : Settings} {x y : State} {k k' : ℕ} {os os' : List Opened} {cs cs' : List Call} (a : Along w s₀ x k os cs) (b : Along w s₀ y k' os' cs') (L : Alike s₀ x y) where
  module _ (i : ℕ) (here : i < s₀.workers) (places : views s₀ i ≡ false) where
    before_viewers : i < s₀.workers - s₀.viewers
    unfolding views
    before_viewers = leb-false _ _ places

    same_record : load y.areas.workers i ≡ load x.areas.workers i
    unfolding worker_place
    same_record =
        load_same y.areas.workers x.areas.workers i
        (λ j h. let p = place_next before_viewers in L.words_same _ (inl (omega arith)))
        (moves_few x.areas.workers i (well_formed (at a.fine i here)))

    -- both states after the same writes
    stored : (s : Settings) (n g : List ℕ) (r : Record) → Alike s₀ (state s (areas n g (store r i x.areas.workers))) (state s (areas n g (store r i y.areas.workers)))
    stored s n g r =
        record {
          settings_same = refl;
          nodes_same = refl;
          levels_same = refl;
          size_same = length-store w r i y.areas.workers ∙ (L.size_same ∙ sym (length-store w r i x.areas.workers));
          words_same = λ j h. (store_agree r i x.areas.workers y.areas.workers (record { size = L.size_same; word = L.words_same j h })).word;
        }

    -- y with the settings, nodes and levels of x
    abbrev its : Areas
    its = areas x.areas.nodes x.areas.levels y.areas.workers

    its_alike : Alike s₀ x (state x.settings its)
    its_alike = record { settings_same = refl; nodes_same = refl; levels_same = refl; size_same = L.size_same; words_same = L.words_same }

    start-both : (looks : Bool) (row column : ℕ) → ((start w x.settings looks i row column its).reply ≡ (start w x.settings looks i row column x.areas).reply) × Alike s₀ (lists.after (start w x.settings looks i row column x.areas)) (lists.after (start w x.settings looks i row column its))
    unfolding started_areas
    start-both looks row column = (e, by (ℕ_discrete (start w x.settings looks i row column x.areas).reply.number 0))
      where
        e : (start w x.settings looks i row column its).reply ≡ (start w x.settings looks i row column x.areas).reply
        e = start-reply w x.settings i x.areas.nodes x.areas.levels x.areas.workers y.areas.workers L.size_same same_record looks row column

        m : (start w x.settings looks i row column its).reply.number ≡ (start w x.settings looks i row column x.areas).reply.number
        m = ap (λ (r : Reply). r.number) e

        by : Dec ((start w x.settings looks i row column x.areas).reply.number ≡ 0) → Alike s₀ (lists.after (start w x.settings looks i row column x.areas)) (lists.after (start w x.settings looks i row column its))
        by (yes z) =
            rw (start_done w x.settings looks i row column x.areas z, start_done w x.settings looks i row column its (m ∙ z), same_record)
            (stored x.settings x.areas.nodes x.areas.levels _)
        by (no z) =
            rw (((refuses-start w x.settings looks i row column x.areas).unchanged z).1, ((refuses-start w x.settings looks i row column its).unchanged (λ o. z (sym m ∙ o))).1)
            its_alike

    turn-both : ((turn w x.settings i its).reply ≡ (turn w x.settings i x.areas).reply) × Alike s₀ (lists.after (turn w x.settings i x.areas)) (lists.after (turn w x.settings i its))
    unfolding taken full full_record
    turn-both = (e, by (ℕ_discrete (turn w x.settings i x.areas).reply.number 0) (ℕ_discrete (turn w x.settings i x.areas).reply.number 9))
      where
        e : (turn w x.settings i its).reply ≡ (turn w x.settings i x.areas).reply
        e = turn_same w x.settings i x.areas.nodes x.areas.levels x.areas.workers y.areas.workers L.size_same same_record

        m : (turn w x.settings i its).reply.number ≡ (turn w x.settings i x.areas).reply.number
        m = ap (λ (r : Reply). r.number) e

        by : Dec ((turn w x.settings i x.areas).reply.number ≡ 0) → Dec ((turn w x.settings i x.areas).reply.number ≡ 9) → Alike s₀ (lists.after (turn w x.settings i x.areas)) (lists.after (turn w x.settings i its))
        by (yes z) d =
            rw (done_number w x.settings i x.areas z, done_number w x.settings i its (m ∙ z), same_record)
            (stored _ _ _ _)
        by (no z) (yes o) =
            rw (nine_is_full w x.settings i x.areas o, nine_is_full w x.settings i its (m ∙ o), same_record)
            (stored x.settings x.areas.nodes x.areas.levels _)
        by (no z) (no o) =
            rw (turn-leaves w x.settings i x.areas z o, turn-leaves w x.settings i its (λ q. z (sym m ∙ q)) (λ q. o (sym m ∙ q)))
            its_alike

-- a worker that the table does not have: every event is refused by 4
module _ {w : ℕ} {s₀ : Settings} {x : State} {W : WorldOf w s₀} {ws : ℕ → Worker} (F : Fine w s₀ x W ws) (i : ℕ) (out : question4 s₀ i ≡ false) where
  outside_4 : question4 x.settings i ≡ false
  unfolding question4
  outside_4 = rw F.table.same.workers_is out

  start_4 : (looks : Bool) (row column : ℕ) → (start w x.settings looks i row column x.areas).reply.number ≡ 4
  unfolding start_questions
  start_4 looks row column = ((refuses-start w x.settings looks i row column x.areas).numbered.refusal 4 (λ z. omega arith)).1 (later (yes_1 F) (later (yes_2 F) (later (yes_3 F) (first.here refl outside_4))))

  start_out : (looks : Bool) (row column : ℕ) → start w x.settings looks i row column x.areas ≡ refused 4 x.settings x.areas
  start_out looks row column =
      let n = start_4 looks row column in
      ((refuses-start w x.settings looks i row column x.areas).unchanged (λ z. omega arith)).0 ∙ ap (λ (k : ℕ). refused k x.settings x.areas) n

  turn_4 : (turn w x.settings i x.areas).reply.number ≡ 4
  unfolding turn_questions
  turn_4 = ((refuses-turn w x.settings i x.areas).numbered.refusal 4 (λ z. omega arith)).1 (later (yes_1 F) (later (yes_2 F) (later (yes_3 F) (first.here refl outside_4))))

  turn_out : turn w x.settings i x.areas ≡ refused 4 x.settings x.areas
  turn_out =
      let n = turn_4 in
      ((refuses-turn w x.settings i x.areas).unchanged (λ z. omega arith) (λ z. omega arith)).0 ∙ ap (λ (k : ℕ). refused k x.settings x.areas) n

-- any event of no viewer
record Same (w : ℕ) (s₀ : Settings) (x y : State) (e : Event) : Type 0 where
  pub reply_same : (happens w e y).reply ≡ (happens w e x).reply
  pub alike : Alike s₀ (lists.after (happens w e x)) (lists.after (happens w e y))

module _ {w : ℕ} {s₀ : Settings} {x y : State} {k k' : ℕ} {os os' : List Opened} {cs cs' : List Call} (a : Along w s₀ x k os cs) (b : Along w s₀ y k' os' cs') (L : Alike s₀ x y) where
  y_is : state x.settings (areas x.areas.nodes x.areas.levels y.areas.workers) ≡ y
  y_is = rw (← L.settings_same, ← L.nodes_same, ← L.levels_same) refl

  event_in : (e : Event) → question4 s₀ (worker_of e) ≡ true → views s₀ (worker_of e) ≡ false → Same w s₀ x y e
  unfolding worker_of happens question4
  event_in (starts looks i row column) q v =
      let t = start-both a b L i (ltb-true _ _ q) v looks row column in
      subst (λ (z : State). Same w s₀ x z (starts looks i row column)) y_is (record { reply_same = t.0; alike = t.1 })
  event_in (turns i) q v =
      let t = turn-both a b L i (ltb-true _ _ q) v in
      subst (λ (z : State). Same w s₀ x z (turns i)) y_is (record { reply_same = t.0; alike = t.1 })

  event_out : (e : Event) → question4 s₀ (worker_of e) ≡ false → Same w s₀ x y e
  unfolding worker_of happens
  event_out (starts looks i row column) q =
      let p = start_out a.fine i q looks row column in
      let r = start_out b.fine i q looks row column in
      record { reply_same = rw (p, r, L.settings_same) refl; alike = rw (p, r) L }
  event_out (turns i) q =
      let p = turn_out a.fine i q in
      let r = turn_out b.fine i q in
      record { reply_same = rw (p, r, L.settings_same) refl; alike = rw (p, r) L }

  event_same : (e : Event) → of_viewer s₀ e ≡ false → Same w s₀ x y e
  unfolding of_viewer both
  event_same e = by (question4 s₀ (worker_of e)) refl
    where
      by : (o : Bool) → question4 s₀ (worker_of e) ≡ o → both o (views s₀ (worker_of e)) ≡ false → Same w s₀ x y e
      by true q v = event_in e q v
      by false q v = event_out e q

  -- a viewer's event
  event_own : (e : Event) → of_viewer s₀ e ≡ true → Alike s₀ (lists.after (happens w e x)) x
  unfolding of_viewer worker_of happens question4
  event_own (starts looks i row column) v = start_own a i (ltb-true _ _ (both_left _ _ v)) (both_right _ _ v) looks row column
  event_own (turns i) v = turn_own a i (ltb-true _ _ (both_left _ _ v)) (both_right _ _ v)

-- what is left of the events es, from x on, and of their history, by a sequence without the viewers' from y on
abbrev Strikes : ℕ → Settings → List Event → State → State → Type 0
Strikes w s₀ es x y = (history w (struck s₀ es) y ≡ struck_from s₀ (history w es x)) × Alike s₀ (state_after w es x) (state_after w (struck s₀ es) y)

pub strikes : {w : ℕ} {s₀ : Settings} (es : List Event) (x y : State) {k k' : ℕ} {os os' : List Opened} {cs cs' : List Call} → Along w s₀ x k os cs → Along w s₀ y k' os' cs' → Alike s₀ x y → Strikes w s₀ es x y
unfolding history struck struck_from state_after pick
strikes [] x y a b L = (refl, L)
strikes {w} {s₀} (e ∷ es) x y a b L =
    by (λ M. strikes es (lists.after (happens w e x)) y (event_along a e) b M)
    (λ M. strikes es (lists.after (happens w e x)) (lists.after (happens w e y)) (event_along a e) (event_along b e) M)
    (of_viewer s₀ e) refl
  where
    by : (Alike s₀ (lists.after (happens w e x)) y → Strikes w s₀ es (lists.after (happens w e x)) y) → (Alike s₀ (lists.after (happens w e x)) (lists.after (happens w e y)) → Strikes w s₀ es (lists.after (happens w e x)) (lists.after (happens w e y))) → (o : Bool) → of_viewer s₀ e ≡ o → (history w (pick (of_viewer s₀ e) (struck s₀ es) (e ∷ struck s₀ es)) y ≡ pick (of_viewer s₀ e) (struck_from s₀ (history w es (lists.after (happens w e x)))) (record { event = e; reply = (happens w e x).reply } ∷ struck_from s₀ (history w es (lists.after (happens w e x))))) × Alike s₀ (state_after w es (lists.after (happens w e x))) (state_after w (pick (of_viewer s₀ e) (struck s₀ es) (e ∷ struck s₀ es)) y)
    by f g true v = rw v (f (alike_then (event_own a b L e v) L))
    by f g false v =
        let t = event_same a b L e v in
        let (h, z) = g t.alike in
        rw v (ap₂ (λ (r : Reply) (hs : List Happened). record { event = e; reply = r } ∷ hs) t.reply_same h, z)

pub striking : (w : ℕ) → Width w → (s : Settings) → StrikingStatement w s
striking w width s a z es =
    let q = (refuses-opening w s a).numbered.carried.0 z in
    let b = along_opened width s a (opening_yes w s a q).0 (opening_yes w s a q).1 in
    rw (opening_done w s a z) (let t = strikes es _ _ b b (alike_refl _) in record { replies = t.0; states = t.1 })

-- document 02's tables, each at the width that its settings give
pub striking_all : AtWidth StrikingStatement
striking_all s a z = striking s.width (opened-width s.width s a z) s a z
