-- Along any sequence of starts and turns a worker's record says of its call what the history says: whether it is open, and its pixel.
-- Relies on what a last answer tells along a sequence, and on that a turn keeps the pixel.
use Prim.Native.Nat.{ℕ, zero, suc, ◌<◌}
use mathlib.Core.Path.{◌≡◌, refl, sym, ap, subst, ◌∙◌}
use mathlib.Core.Logic.{◌≢◌}
use mathlib.Core.Bool.{Bool, true, false}
use mathlib.Core.List.{List, [], ◌∷◌}
use native.Mathlib.Decide.{ℕ_discrete}
use native.Mathlib.Omega.{arith}
use lib.Dec.{eqb}
use borrow.Author.Tests.{eq-eqb, ne_eqb}
use Rattle.words.specs.Choice.{pick, every}
use Rattle.words.specs.Digits.{pixel_number}
use Rattle.words.proofs.Choice.{pick-both, pick_true, pick_false, both_left, both_right}
use Rattle.settings.specs.Sizes.{question1, views}
use Rattle.settings.specs.declared.Settings.{Settings}
use Rattle.areas.specs.Memory.{Memory, is_node, cell_at}
use Rattle.areas.specs.declared.Cell.{Cell}
use Rattle.areas.specs.declared.Cell.TheVariants.{Next}
use Rattle.record.specs.declared.Answer.TheVariants.{Open}
use Rattle.record.specs.declared.Kind.{Kind}
use Rattle.record.specs.declared.Kind.TheVariants.{Idle, Look, Take, Put, Read, Tail, TakeTail, Append, Level, Close, Follow, ChainHead, ChainNext, SetNext, SetLook, SetPut, SetRead, SetTail, SetAppend, SetLevel, SetClose, SetFollow, MoveEnd, Unknown}
use Rattle.record.specs.declared.Head.{Head}
use Rattle.record.specs.declared.Move.{Move}
use Rattle.record.specs.declared.Reply.{Reply}
use Rattle.record.specs.Kinds.{kind_no, answer_of}
use Rattle.record.specs.Layout.{Record}
use Rattle.rules.specs.Heads.{to, to_level, to_node, holding_node, holding_level, started, ended}
use Rattle.rules.specs.Steps.{Step, peeked, with_node, take_node, with_level, take_level, closed}
use Rattle.rules.specs.Searching as searching
use Rattle.rules.specs.Moving as moving
use Rattle.rules.specs.Acts.{act_by, act}
use Rattle.rules.specs.Asked.{question7}
use Rattle.rules.specs.Operations.{AtWidth, Result, result_of, reply, record_of, memory_of, question2_of, opening_questions, started_areas, start, taken, full, full_record, turn, last_of}
use Rattle.rules.specs.Lists.{State, after}
use Rattle.rules.specs.Calls.{Event, starts, turns, happens, history, state_after, Call, Opened}
use Rattle.rules.specs.LastAnswers.{told}
use Rattle.rules.specs.OpenCalls.{pixel_by, pixel_told, OpenCalls}
use Rattle.rules.proofs.Exchanging.{exchange-both}
use Rattle.rules.proofs.Dims.{Width}
use Rattle.rules.proofs.Carried.{opening_done, start_done}
use Rattle.rules.proofs.OneTurn.{done_number, nine_is_full, turn-refused, refuses-turn}
use Rattle.rules.proofs.Refused.{refuses-opening, refuses-start}
use Rattle.rules.proofs.Along.{Along}
use Rattle.rules.proofs.Opened.{opened_record, along_opened}
use Rattle.rules.proofs.Sequence.{event_along}
use Rattle.rules.proofs.LastAnswers.{own_head, other_head, idle_tells, busy_tells, alone, full_formed, TurnYes, turn_yes, place_room, formed, sequence_told}
use Rattle.rules.proofs.Theorem.{opened-width}

-- a turn keeps the pixel, by kind
module _ (w : ℕ) (looks : Bool) (s : Settings) (h : Head) (m : Memory) where
  abbrev Keeps : Step → Type 0
  Keeps t = t.record'.head.pixel ≡ h.pixel

  placed_keeps : (failed : ℕ → Memory → Step) (x : Cell) → Keeps (failed (cell_at w m x) m) → Keeps (searching.placed w failed s h x m)
  unfolding searching.placed ended
  placed_keeps failed x f = exchange-both Keeps w h x _ _ _ m (λ e. refl) (λ e. f)

  met_keeps : (c g word : ℕ) → Keeps (searching.met s h c g word m)
  unfolding searching.met searching.met_node ended to_node to_level
  met_keeps c g word = pick-both Keeps (is_node word) (λ e. pick-both Keeps (eqb _ h.pixel) (λ q. refl) (λ q. refl)) (λ e. refl)

  viewed_keeps : (h' : Head) → h'.pixel ≡ h.pixel → Keeps (searching.viewed looks s h' m)
  unfolding searching.viewed ended
  viewed_keeps h' e = pick-both Keeps _ (λ y. e) (λ y. e)

  take_keeps : (k : Kind) → Keeps (take_node k s h m)
  unfolding take_node with_node holding_node
  take_keeps k = pick-both Keeps (eqb h.held_node 0) (λ e. refl) (λ e. refl)

  level_keeps : (k : Kind) (ms : List Move) → Keeps (take_level w k s h ms m)
  unfolding take_level with_level holding_level
  level_keeps k ms = pick-both Keeps (eqb h.held_level 0) (λ e. refl) (λ e. refl)

  closed_keeps : (failed : ℕ → Memory → Step) (ms : List Move) → Keeps (failed (cell_at w m (Next h.node)) m) → Keeps (closed w failed s h ms m)
  unfolding closed holding_level
  closed_keeps failed ms f = exchange-both Keeps w h (Next h.node) _ _ _ m (λ e. refl) (λ e. f)

  last_keeps : (v : Move) (os : List Move) (m' : Memory) → Keeps (moving.set_last s h v os m')
  unfolding moving.set_last to to_level
  last_keeps v os m' = pick-both (λ (x : Head). x.pixel ≡ h.pixel) (eqb v.count 0) (λ e. refl) (λ e. refl)

  chain_keeps : (v : Move) (os : List Move) (word : ℕ) → Keeps (moving.chain_word s h v os word m)
  unfolding moving.chain_word to
  chain_keeps v os word = pick-both Keeps (is_node word) (λ e. refl) (λ e. last_keeps v os m)

  again_keeps : (v : Move) (os : List Move) (c g word : ℕ) → Keeps (moving.set_met s h v os c g word m)
  unfolding moving.set_met to_node to_level
  again_keeps v os c g word = pick-both (λ (x : Head). x.pixel ≡ h.pixel) (is_node word) (λ e. refl) (λ e. refl)

  set_keeps : (failed : ℕ → Memory → Step) (v : Move) (os : List Move) (x : Cell) → Keeps (failed (cell_at w m x) m) → Keeps (moving.set_node w failed s h v os x m)
  unfolding moving.set_node
  set_keeps failed v os x f = exchange-both Keeps w h x _ _ _ m (λ e. last_keeps _ os _) (λ e. f)

  after_keeps : (g : ℕ) (os : List Move) → (moving.after_move h g os).pixel ≡ h.pixel
  unfolding moving.after_move to_level
  after_keeps g [] = refl
  after_keeps g (o ∷ os) = refl

  kind_keeps : (k : Kind) (ms : List Move) → Keeps (act_by k w looks s h ms m)
  unfolding act_by to peeked searching.look searching.take searching.put searching.read searching.read_word searching.tail searching.take_tail searching.append searching.level searching.close searching.follow searching.follow_word moving.chain_head moving.chain_next moving.set_next moving.set_look moving.set_put moving.set_read moving.set_read_word moving.set_tail moving.set_append moving.set_level moving.set_close moving.set_follow moving.set_follow_word moving.move_end
  kind_keeps Idle ms = refl
  kind_keeps Look ms = viewed_keeps _ refl
  kind_keeps Take ms = take_keeps Put
  kind_keeps Put ms = placed_keeps _ _ (met_keeps _ _ _)
  kind_keeps Read ms = met_keeps _ _ _
  kind_keeps Tail ms = viewed_keeps _ refl
  kind_keeps TakeTail ms = take_keeps Append
  kind_keeps Append ms = placed_keeps _ _ (met_keeps _ _ _)
  kind_keeps Level ms = level_keeps Close []
  kind_keeps Close ms = closed_keeps _ [] (met_keeps _ _ _)
  kind_keeps Follow ms = met_keeps _ _ _
  kind_keeps ChainHead ms = chain_keeps _ _ _
  kind_keeps ChainNext ms = chain_keeps _ _ _
  kind_keeps SetNext ms = refl
  kind_keeps SetLook ms = refl
  kind_keeps SetPut ms = set_keeps _ _ _ _ (again_keeps _ _ _ _ _)
  kind_keeps SetRead ms = again_keeps _ _ _ _ _
  kind_keeps SetTail ms = refl
  kind_keeps SetAppend ms = set_keeps _ _ _ _ (again_keeps _ _ _ _ _)
  kind_keeps SetLevel ms = level_keeps SetClose _
  kind_keeps SetClose ms = closed_keeps _ _ (again_keeps _ _ _ _ _)
  kind_keeps SetFollow ms = again_keeps _ _ _ _ _
  kind_keeps MoveEnd ms = after_keeps _ _
  kind_keeps Unknown ms = refl

act_keeps : (w : ℕ) (looks : Bool) (s : Settings) (r : Record) (m : Memory) → (act w looks s r m).record'.head.pixel ≡ r.head.pixel
unfolding act
act_keeps w looks s r m = kind_keeps w looks s r.head m r.head.kind r.moves

full_keeps : (h : Head) → (full_record h).head.pixel ≡ h.pixel
unfolding full_record ended
full_keeps h = refl

started_pixel : (p : ℕ) (h : Head) → (started p h).pixel ≡ p
unfolding started
started_pixel p h = refl

-- the pixel after an event, by cases
module _ (i j : ℕ) (r : Reply) (b : ℕ) where
  pixel_start : (looks : Bool) (row column : ℕ) → j ≡ i → r.number ≡ 0 → pixel_by i (starts looks j row column) r b ≡ pixel_number row column
  unfolding pixel_by
  pixel_start looks row column e z = pick_true _ _ _ (eq-eqb _ _ e) ∙ pick_true _ _ _ (eq-eqb _ _ z)

  pixel_other : (looks : Bool) (row column : ℕ) → j ≢ i → pixel_by i (starts looks j row column) r b ≡ b
  unfolding pixel_by
  pixel_other looks row column d = pick_false _ _ _ (ne_eqb _ _ d)

  pixel_refused : (looks : Bool) (row column : ℕ) → r.number ≢ 0 → pixel_by i (starts looks j row column) r b ≡ b
  unfolding pixel_by
  pixel_refused looks row column z = pick-both (λ (c : ℕ). c ≡ b) _ (λ e. pick_false _ _ _ (ne_eqb _ _ z)) (λ e. refl)

  pixel_turn : pixel_by i (turns j) r b ≡ b
  unfolding pixel_by
  pixel_turn = refl

module _ {w : ℕ} {s₀ : Settings} {x : State} {k : ℕ} {os : List Opened} {cs : List Call} (a : Along w s₀ x k os cs) (i : ℕ) (here : i < s₀.workers) where
  abbrev pixel_of : State → ℕ
  pixel_of y = (record_of y.areas i).head.pixel

  abbrev PixelAfter : Event → Result → Type 0
  PixelAfter e r = pixel_of (after r) ≡ pixel_by i e r.reply (pixel_of x)

  -- a start
  module _ (looks : Bool) (j row column : ℕ) where
    start_done_pixel : Dec (j ≡ i) → PixelAfter (starts looks j row column) (result_of (reply 0 Open 0 x.settings) (started_areas j row column x.areas))
    unfolding started_areas
    start_done_pixel (yes e) =
        ap (λ (h : Head). h.pixel) (own_head w _ i j x.areas.workers e (place_room a i here)) ∙ (started_pixel _ _ ∙ sym (pixel_start i j _ _ looks row column e refl))
    start_done_pixel (no d) = ap (λ (h : Head). h.pixel) (other_head w _ i j x.areas.workers (alone _) d) ∙ sym (pixel_other i j _ _ looks row column d)

    start_pixel : PixelAfter (starts looks j row column) (start w x.settings looks j row column x.areas)
    start_pixel = by (ℕ_discrete (start w x.settings looks j row column x.areas).reply.number 0)
      where
        by : Dec ((start w x.settings looks j row column x.areas).reply.number ≡ 0) → PixelAfter (starts looks j row column) (start w x.settings looks j row column x.areas)
        by (yes z) = subst (PixelAfter (starts looks j row column)) (sym (start_done w x.settings looks j row column x.areas z)) (start_done_pixel (ℕ_discrete j i))
        by (no z) = subst (PixelAfter (starts looks j row column)) (sym ((refuses-start w x.settings looks j row column x.areas).unchanged z).0) (sym (pixel_refused i j _ _ looks row column z))

  -- a turn
  module _ (j : ℕ) where
    own_pixel : (p : ℕ) → j ≡ i → p ≡ (record_of x.areas j).head.pixel → p ≡ pixel_of x
    own_pixel p e q = q ∙ ap (λ n. (record_of x.areas n).head.pixel) e

    full_pixel : Dec (j ≡ i) → PixelAfter (turns j) (full x.settings j x.areas)
    unfolding full pixel_by
    full_pixel (yes e) = ap (λ (h : Head). h.pixel) (own_head w _ i j x.areas.workers e (place_room a i here)) ∙ own_pixel _ e (full_keeps _)
    full_pixel (no d) = ap (λ (h : Head). h.pixel) (other_head w _ i j x.areas.workers (full_formed _) d)

    taken_pixel : TurnYes w x j → Dec (j ≡ i) → PixelAfter (turns j) (taken (act w (views x.settings j) x.settings (record_of x.areas j) (memory_of x.areas)) j x.areas.workers)
    unfolding taken pixel_by
    taken_pixel y (yes e) =
        ap (λ (h : Head). h.pixel) (own_head w _ i j x.areas.workers e (place_room a i here)) ∙ own_pixel _ e (act_keeps w (views x.settings j) x.settings (record_of x.areas j) (memory_of x.areas))
    taken_pixel y (no d) = ap (λ (h : Head). h.pixel) (other_head w _ i j x.areas.workers (formed a i here j y) d)

    turn_pixel : PixelAfter (turns j) (turn w x.settings j x.areas)
    turn_pixel = by (ℕ_discrete (turn w x.settings j x.areas).reply.number 0) (ℕ_discrete (turn w x.settings j x.areas).reply.number 9)
      where
        by : Dec ((turn w x.settings j x.areas).reply.number ≡ 0) → Dec ((turn w x.settings j x.areas).reply.number ≡ 9) → PixelAfter (turns j) (turn w x.settings j x.areas)
        by (yes z) d =
            subst (PixelAfter (turns j)) (sym (done_number w x.settings j x.areas z))
            (taken_pixel (turn_yes w x j ((refuses-turn w x.settings j x.areas).numbered.carried.0 z)) (ℕ_discrete j i))
        by (no z) (yes y) = subst (PixelAfter (turns j)) (sym (nine_is_full w x.settings j x.areas y)) (full_pixel (ℕ_discrete j i))
        by (no z) (no y) = subst (PixelAfter (turns j)) (sym (turn-refused w x.settings j x.areas z y)) (sym (pixel_turn i j _ _))

  event_pixel : (e : Event) → PixelAfter e (happens w e x)
  unfolding happens
  event_pixel (starts looks j row column) = start_pixel looks j row column
  event_pixel (turns j) = turn_pixel j

-- any events more
sequence_pixel : {w : ℕ} {s₀ : Settings} (es : List Event) (x : State) {k : ℕ} {os : List Opened} {cs : List Call} → Along w s₀ x k os cs → (i : ℕ) → i < s₀.workers → (record_of (state_after w es x).areas i).head.pixel ≡ pixel_told i (history w es x) (record_of x.areas i).head.pixel
unfolding state_after history pixel_told
sequence_pixel [] x a i h = refl
sequence_pixel {w} (e ∷ es) x a i h =
    sequence_pixel es (after (happens w e x)) (event_along a e) i h
    ∙ ap (pixel_told i (history w es (after (happens w e x)))) (event_pixel a i h e)

-- an idle record tells no open call
answer_closed : (c n : ℕ) → answer_of c n ≢ Open
unfolding answer_of
answer_closed zero n e = let y : ◌≡◌ {A = ℕ} 0 1 = cc in omega arith
answer_closed (suc zero) n e = let y : ◌≡◌ {A = ℕ} 0 1 = cc in omega arith
answer_closed (suc (suc zero)) n e = let y : ◌≡◌ {A = ℕ} 0 1 = cc in omega arith
answer_closed (suc (suc (suc zero))) n e = let y : ◌≡◌ {A = ℕ} 0 1 = cc in omega arith
answer_closed (suc (suc (suc (suc zero)))) n e = let y : ◌≡◌ {A = ℕ} 0 1 = cc in omega arith
answer_closed (suc (suc (suc (suc (suc zero))))) n e = let y : ◌≡◌ {A = ℕ} 0 1 = cc in omega arith
answer_closed (suc (suc (suc (suc (suc (suc c)))))) n e = let y : ◌≡◌ {A = ℕ} 0 1 = cc in omega arith

open_busy : (r : Record) → last_of r.head ≡ Open → question7 r ≡ false
unfolding last_of question7 pick
open_busy r = by (eqb (kind_no r.head.kind) 0)
  where
    by : (b : Bool) → pick b (answer_of r.head.answer r.head.answer_node) Open ≡ Open → b ≡ false
    by true e = absurd (answer_closed _ _ e)
    by false e = refl

-- over every width whose digits fit the pixel numbers
pub open_calls : (w : ℕ) → Width w → (s : Settings) → OpenCalls w s
unfolding opening_questions every
open_calls w width s a z es i h =
    let y = (refuses-opening w s a).numbered.carried.0 z in
    let y₁ : question1 s ≡ true = both_left _ _ y in
    let y₂ : question2_of w s a ≡ true = both_left _ _ (both_right _ _ y) in
    let A = along_opened width s a y₁ y₂ in
    let o = opened_record w s a i h y₂ in
    let l = sequence_told es _ A i h ∙ ap (told i (history w es _)) (ap (λ (r : Record). last_of r.head) o ∙ idle_tells) in
    rw (opening_done w s a z)
    record {
      open_told = (λ b. sym l ∙ busy_tells _ b, λ t. open_busy _ (l ∙ t));
      tells_pixel = sequence_pixel es _ A i h ∙ ap (pixel_told i (history w es _)) (ap (λ (r : Record). r.head.pixel) o);
    }

-- document 02's tables, each at the width that its settings give
pub open_calls-all : AtWidth OpenCalls
open_calls-all s a z = open_calls s.width (opened-width s.width s a z) s a z
