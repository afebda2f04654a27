-- What a turn answers, over settings and memory of any content: a node that is taken, of a worker below workers, whose call's pixel fits.
-- Relies on the definitions of the turns and of question 6.
use Prim.Native.Nat.{ℕ, ◌≤◌, ◌<◌}
use mathlib.Core.Path.{◌≡◌, sym, ◌∙◌}
use mathlib.Core.Bool.{Bool, true, false}
use mathlib.Core.List.{List, []}
use native.Mathlib.Omega.{arith}
use lib.Dec.{eqb, leb}
use borrow.Author.Tests.{ltb-true, leb-true}
use Rattle.words.specs.Choice.{both}
use Rattle.words.specs.Digits.{max_pixel}
use Rattle.words.proofs.Choice.{true_false, pick-both, pick_true, pick_false, both_left, both_right}
use Rattle.settings.specs.Sizes.{views}
use Rattle.settings.specs.declared.Settings.{Settings}
use Rattle.areas.specs.Memory.{Areas, Memory, is_node, cell_at, node_taken}
use Rattle.areas.specs.declared.Cell.{Cell}
use Rattle.areas.specs.declared.Cell.TheVariants.{Next}
use Rattle.record.specs.declared.Answer.{Answer}
use Rattle.record.specs.declared.Answer.TheVariants.{Nothing, New, Found, Full, Open, Absent}
use Rattle.record.specs.declared.Kind.{Kind}
use Rattle.record.specs.declared.Kind.TheVariants.{Idle, Look, Take, Put, Read, Tail, TakeTail, Append, Level, Close, Follow, ChainHead, ChainNext, SetNext, SetLook, SetPut, SetRead, SetTail, SetAppend, SetLevel, SetClose, SetFollow, MoveEnd, Unknown}
use Rattle.record.specs.declared.Head.{Head}
use Rattle.record.specs.declared.Move.{Move}
use Rattle.record.specs.Kinds.{kind_no}
use Rattle.record.specs.Layout.{Record}
use Rattle.record.specs.Fits.{call_fits, fits_by, fits}
use Rattle.rules.specs.Steps.{Step, expected, with_node, take_node, with_level, take_level, closed}
use Rattle.rules.specs.Searching as searching
use Rattle.rules.specs.Moving as moving
use Rattle.rules.specs.Acts.{act_by, act}
use Rattle.rules.specs.Asked.{in_hand, pixel_fits, compares_ref, follows_ref, exchanges, stands_with, picks_with, puts, reads, appends, closes, follows, reads_by, question6, question7}
use Rattle.rules.specs.Operations.{record_of, memory_of}
use Rattle.rules.proofs.Exchanging.{exchange-both}
use Rattle.rules.proofs.TurnAsked.{TurnAsked}

-- the node of an answer is below n
unfoldable pub NodeBelow : ℕ → Answer → Type 0
NodeBelow n Nothing = Unit
NodeBelow n (New i) = i < n
NodeBelow n (Found i) = i < n
NodeBelow n Full = Unit
NodeBelow n Open = Unit
NodeBelow n Absent = Unit

module _ (w : ℕ) (s : Settings) (h : Head) (m : Memory) where
  abbrev Below : Step → Type 0
  Below t = NodeBelow s.nodes_taken t.answer

  -- Read, Follow: the node met is taken
  met_below : (c g word : ℕ) → compares_ref s word m.nodes ≡ true → Below (searching.met s h c g word m)
  unfolding NodeBelow searching.met searching.met_node compares_ref pixel_fits node_taken
  met_below c g word y =
      pick-both Below (is_node word)
      (λ e. pick-both Below (eqb _ h.pixel) (λ q. ltb-true _ _ (both_left _ _ (sym (pick_true _ _ _ e) ∙ y))) (λ q. tt))
      (λ e. tt)

  -- the word of a failed exchange is asked
  word-asked : (x : Cell) (asks : ℕ → Bool) → exchanges w h x true asks m ≡ true → expected h (cell_at w m x) ≡ false → asks (cell_at w m x) ≡ true
  unfolding exchanges
  word-asked x asks y e = sym (pick_false _ _ _ e) ∙ y

  -- Put, Append: the node in hand is taken
  placed_below : (failed : ℕ → Memory → Step) (x : Cell) → in_hand h.held_node s.nodes_taken ≡ true → (expected h (cell_at w m x) ≡ false → Below (failed (cell_at w m x) m)) → Below (searching.placed w failed s h x m)
  unfolding NodeBelow searching.placed in_hand
  placed_below failed x y f =
      let l : 1 ≤ h.held_node = leb-true _ _ (both_left _ _ y) in
      let u : h.held_node ≤ s.nodes_taken = leb-true _ _ (both_right (leb 1 h.held_node) _ y) in
      exchange-both Below w h x _ _ failed m (λ e. omega arith) f

  take_below : (k : Kind) → Below (take_node k s h m)
  unfolding NodeBelow take_node with_node
  take_below k = pick-both Below (eqb h.held_node 0) (λ e. tt) (λ e. tt)

  level_below : (k : Kind) (ms : List Move) → Below (take_level w k s h ms m)
  unfolding NodeBelow take_level with_level
  level_below k ms = pick-both Below (eqb h.held_level 0) (λ e. tt) (λ e. tt)

  closed_below : (failed : ℕ → Memory → Step) (ms : List Move) → (expected h (cell_at w m (Next h.node)) ≡ false → Below (failed (cell_at w m (Next h.node)) m)) → Below (closed w failed s h ms m)
  unfolding NodeBelow closed
  closed_below failed ms f = exchange-both Below w h (Next h.node) _ _ failed m (λ e. tt) f

  chain_below : (v : Move) (os : List Move) (word : ℕ) → Below (moving.chain_word s h v os word m)
  unfolding NodeBelow moving.chain_word moving.set_last
  chain_below v os word = pick-both Below (is_node word) (λ e. tt) (λ e. tt)

  set_below : (failed : ℕ → Memory → Step) (v : Move) (os : List Move) (x : Cell) → Below (failed (cell_at w m x) m) → Below (moving.set_node w failed s h v os x m)
  unfolding NodeBelow moving.set_node moving.set_last
  set_below failed v os x f = exchange-both Below w h x _ _ failed m (λ e. tt) (λ e. f)

  -- by kind
  viewed_below : (looks : Bool) (h' : Head) → Below (searching.viewed looks s h' m)
  unfolding NodeBelow searching.viewed
  viewed_below looks h' = pick-both Below _ (λ e. tt) (λ e. tt)

  kind_below : (looks : Bool) (k : Kind) (ms : List Move) → reads_by k w s h ms m ≡ true → Below (act_by k w looks s h ms m)
  unfolding NodeBelow act_by reads_by puts picks_with reads appends closes follows stands_with follows_ref searching.look searching.take searching.put searching.read searching.read_word searching.tail searching.take_tail searching.append searching.level searching.close searching.follow searching.follow_word moving.chain_head moving.chain_next moving.set_next moving.set_look moving.set_put moving.set_read moving.set_read_word moving.set_met moving.set_tail moving.set_append moving.set_level moving.set_close moving.set_follow moving.set_follow_word moving.move_end
  kind_below looks Idle ms y = tt
  kind_below looks Look ms y = viewed_below looks _
  kind_below looks Take ms y = take_below Put
  kind_below looks Put ms y = placed_below _ _ (both_right _ _ (both_left _ _ y)) (λ e. met_below 1 _ _ (word-asked _ _ (both_right _ _ y) e))
  kind_below looks Read ms y = met_below 1 _ _ (both_right _ _ y)
  kind_below looks Tail ms y = viewed_below looks _
  kind_below looks TakeTail ms y = take_below Append
  kind_below looks Append ms y = placed_below _ _ (both_right _ _ (both_left _ _ y)) (λ e. met_below _ _ _ (both_left _ _ (word-asked _ _ (both_right _ _ y) e)))
  kind_below looks Level ms y = level_below Close []
  kind_below looks Close ms y = closed_below _ [] (λ e. met_below _ _ _ (both_left _ _ (word-asked _ _ (both_right _ _ y) e)))
  kind_below looks Follow ms y = met_below _ _ _ (both_left _ _ (both_right _ _ y))
  kind_below looks ChainHead ms y = chain_below _ _ _
  kind_below looks ChainNext ms y = chain_below _ _ _
  kind_below looks SetNext ms y = tt
  kind_below looks SetLook ms y = tt
  kind_below looks SetPut ms y = set_below _ _ _ _ tt
  kind_below looks SetRead ms y = tt
  kind_below looks SetTail ms y = tt
  kind_below looks SetAppend ms y = set_below _ _ _ _ tt
  kind_below looks SetLevel ms y = level_below SetClose _
  kind_below looks SetClose ms y = closed_below _ _ (λ e. tt)
  kind_below looks SetFollow ms y = tt
  kind_below looks MoveEnd ms y = tt
  kind_below looks Unknown ms y = tt

-- the call of a worker that is not idle has a pixel
pixel_fits_lem : (w : ℕ) (v : Bool) (s : Settings) (r : Record) (k : ℕ) → eqb k 0 ≡ false → fits_by w v s k r ≡ true → r.head.pixel ≤ max_pixel
unfolding fits_by call_fits
pixel_fits_lem w v s r k i =
    pick-both Fits (eqb k 0) (λ e y. absurd (true_false (sym e ∙ i)))
    (λ e y. pick-both Fits (leb k 10) (λ f. call _) (λ f. pick-both Fits (leb k 22) (λ g. call _) (λ g y. absurd (true_false (sym y)))) (both_right _ _ y))
  where
    Fits : Bool → Type 0
    Fits b = b ≡ true → r.head.pixel ≤ max_pixel

    call : (b : Bool) → both (call_fits s k r.head) b ≡ true → r.head.pixel ≤ max_pixel
    call b y = leb-true _ _ (both_left _ _ (both_left _ _ y))

-- the pixel of the call of a turn that was asked question 9
pub asked_pixel : {w : ℕ} {s : Settings} {i : ℕ} {a : Areas} {n : ℕ} → TurnAsked w s i a n → (record_of a i).head.pixel ≤ max_pixel
unfolding question6 question7 fits
asked_pixel {w} {s} {i} {a} y = pixel_fits_lem w (views s i) s (record_of a i) (kind_no (record_of a i).head.kind) y.busy (both_left _ _ y.six)

-- the answer of a turn that is carried out
pub act_below : {w : ℕ} {s : Settings} {i : ℕ} {a : Areas} {n : ℕ} → TurnAsked w s i a n → NodeBelow s.nodes_taken (act w (views s i) s (record_of a i) (memory_of a)).answer
unfolding act question6
act_below {w} {s} {i} {a} y = kind_below w s (record_of a i).head (memory_of a) (views s i) (record_of a i).head.kind (record_of a i).moves (both_right _ _ y.six)
