-- That what the code gives is the moving turn, whatever the Moves are besides what a turn needs of them.
-- Relies on Asked for the Moves, on Bounds, on steps for levels taken and for exchanges.
use mathlib.Core.Path.{◌≡◌, refl, ap, sym, subst, ◌∙◌}
use mathlib.Core.Bool.{Bool, true, false, not}
use mathlib.Core.List.{List, [], ◌∷◌}
use Prim.Native.Nat.{ℕ, suc, ◌+◌, ◌*◌, ◌-◌, ◌≤◌, ◌<◌}
use lib.Dec.{eqb, leb}
use lib.ListN.{length, set}
use borrow.Author.Tests.{eq-eqb, ne_eqb, lt-ltb, le-ltb}
use native.Mathlib.Omega.{arith}
use Rattle.words.specs.Digits.{depths}
use Rattle.words.specs.Choice.{pick, both}
use Rattle.words.proofs.Choice.{via, both_false_left}
use Rattle.settings.specs.declared.Settings.{Settings}
use Rattle.areas.specs.declared.Cell.{Cell}
use Rattle.areas.specs.declared.Cell.TheVariants.{Next}
use Rattle.areas.specs.Memory.{Memory, memory, level_ref, node_ref, is_node, named, next_at, cell_at, set_cell, exchanged, exchange, ref_taken}
use Rattle.record.specs.declared.Kind.{Kind}
use Rattle.record.specs.declared.Kind.TheVariants.{ChainNext, SetLook, SetPut, SetRead, SetAppend, SetLevel, SetFollow}
use Rattle.record.specs.declared.Head.{Head}
use Rattle.record.specs.declared.Move.{Move}
use Rattle.record.specs.Kinds.{kind_no}
use Rattle.rules.specs.Heads.{to, holding_level, last_node, remember, forget}
use Rattle.rules.specs.Steps.{Step, going, expected, peeked, by_count, take_level, exchanging, closed, begins_move}
use Rattle.rules.specs.Moving.{home_cell, set_cell_of, set_last, chain_word, set_met, set_read_word, set_follow_word, set_node, set_next, set_look, set_put, set_read, set_tail, set_append, set_close, set_follow, after_move, move_end}
use Rattle.rules.specs.Asked.{reads_ref, exchanges, move_left, tails, stands_at, stands_setting, stands_with, set_entry, set_follows_ref, set_looks, set_puts, set_appends, set_closes, set_follows, reads_by}
use Rattle.rules.specs.Acts.{act_by}
use Rattle.steps.specs.Tried.{Tried, tried, unless_six, exchange_tried}
use Rattle.steps.specs.Cut.{level_cut, level_counted, take_level_cut}
use Rattle.steps.proofs.Ties.{take-level_cut}
use Rattle.steps.proofs.Exchanges.{exchange-tried}
use Rattle.mover.specs.declared.Inner.{Inner}
use Rattle.mover.specs.declared.Mover.{Mover}
use Rattle.mover.specs.Cut.{stays, refuses, remember_in, forget_in, home_cut, last_head, word_head, word_inner, met_head, follow_head, set_done, peek_met, read_met, follow_met, put_met, next_met, begun_cut, end_head, ends, is_moving}
use Rattle.mover.specs.Moved.{Gave, Around, move_after, list_after, moved, Gives}
use Rattle.mover.proofs.Asked.{last_is, home_is, cell_is, left_true, left_false, puts_asked, appends_asked}
use Rattle.mover.proofs.Bounds.{Bounded, bounded_refused, bounded_done, bounded_begun, bounded_word, bounded_met}

module _ (w : ℕ) (v : Mover) (a : Move) (os : List Move) (m : Memory) (r : Around v a os) where
  pub home_word : {word : ℕ} {x : Cell} → word ≡ cell_at w m x → x ≡ home_cut w v m → word ≡ cell_at w m (home_cell w v.head a os m)
  home_word p q = p ∙ ap (cell_at w m) (q ∙ home_is w v a os r m)

pub last_word :
    (v : Mover) (a : Move) (os : List Move) (nodes : List ℕ) {word : ℕ} → Around v a os → word ≡ next_at nodes v.inner.last → word ≡ next_at nodes (last_node a)
last_word v a os nodes r p = p ∙ ap (next_at nodes) (last_is v a os r)

-- question 6: no leaves everything, yes goes on
pub six_yes : (q : Bool) (s : Settings) (h : Head) (ms : List Move) (m : Memory) {t u : Tried} → t ≡ u → q ≡ true → t ≡ unless_six q s h ms m u
unfolding unless_six pick
six_yes q s h ms m a e = simp (e, a)

-- the Move after a turn: as it was, with one node more, with one less
fewer : (u : Inner) (a : Move) → u.count ≤ a.count → move_after u a ≡ record { home = a.home; child = a.child; count = u.count; nodes = a.nodes }
unfolding move_after pick
fewer u a h = simp (le-ltb a.count u.count h)

pub same_after : (v : Mover) (a : Move) (os : List Move) → Around v a os → move_after v.inner a ≡ a
same_after v a os o =
    let c : v.inner.count ≡ a.count = ap (λ (i : Inner). i.count) o.inner_is in
    fewer v.inner a (omega arith) ∙ ap (λ (n : ℕ). record { home = a.home; child = a.child; count = n; nodes = a.nodes }) c

pub remember-after : (v : Mover) (a : Move) (os : List Move) (n : ℕ) → Around v a os → move_after (remember_in n v.inner) a ≡ remember n a
unfolding move_after remember_in remember pick
remember-after v a os n o =
    let e : a.count + 1 - 1 ≡ a.count = omega arith in
    simp (o.inner_is, lt-ltb a.count (a.count + 1) (omega arith), e)

pub forget-after : (v : Mover) (a : Move) (os : List Move) → Around v a os → move_after (forget_in v.inner) a ≡ forget a
unfolding forget_in forget
forget-after v a os o =
    let c : v.inner.count ≡ a.count = ap (λ (i : Inner). i.count) o.inner_is in
    fewer (forget_in v.inner) a (omega arith) ∙ ap (λ (n : ℕ). record { home = a.home; child = a.child; count = n - 1; nodes = a.nodes }) c

pub six_no :
    (v : Mover) (q : Bool) (s : Settings) (a : Move) (os : List Move) (m : Memory) (u : Tried) {r : Gave}
    → Around v a os → r ≡ refuses v s → q ≡ false → moved v r a os m ≡ unless_six q s v.head (a ∷ os) m u
unfolding unless_six list_after pick
six_no v q s a os m u o p e = simp (e, p, eq-eqb v.moves v.moves refl, same_after v a os o)

pub stay_is :
    (v : Mover) (s : Settings) (a : Move) (os : List Move) (m : Memory) {r : Gave} {h : Head} {i : Inner}
    → r ≡ stays v s h i → moved v r a os m ≡ tried 0 (going s h (move_after i a ∷ os) m)
unfolding list_after pick
stay_is v s a os m p = simp (p, eq-eqb v.moves v.moves refl)

pub same_is :
    (v : Mover) (s : Settings) (a : Move) (os : List Move) (m : Memory) {r : Gave} {h : Head}
    → Around v a os → r ≡ stays v s h v.inner → moved v r a os m ≡ tried 0 (going s h (a ∷ os) m)
same_is v s a os m {r} {h} o p = stay_is v s a os m p ∙ ap (λ (x : Move). tried 0 (going s h (x ∷ os) m)) (same_after v a os o)

-- after a Move
end_head_lem : (v : Mover) (a : Move) (os : List Move) → Around v a os → end_head v ≡ after_move v.head a.child os
unfolding end_head after_move pick
end_head_lem v a [] o = simp (o.count, o.inner_is)
end_head_lem v a (x ∷ os) o =
    let n : v.moves ≡ suc (suc (length os)) = o.count in
    simp (ne_eqb v.moves 1 (λ e. omega arith), o.inner_is)

module _ (v : Mover) (s : Settings) (a : Move) (os : List Move) (o : Around v a os) where
  -- a node is set, or a chain has ended: the next node, or the Move's end
  last_step : (m : Memory) (i : Inner) (b : Move) → i.count ≡ b.count → i.child ≡ b.child → going s (last_head v.head i) (b ∷ os) m ≡ set_last s v.head b os m
  unfolding last_head set_last
  last_step m i b p q = simp (p, q)

  -- a word of the chain is read
  pick_word :
      (m : Memory) (word : ℕ) (b : Bool)
      → going s (pick b (to ChainNext v.head) (last_head v.head v.inner)) (move_after (pick b (remember_in (named word) v.inner) v.inner) a ∷ os) m
      ≡ pick b (going s (to ChainNext v.head) (remember (named word) a ∷ os) m) (set_last s v.head a os m)
  unfolding pick
  pick_word m word true = ap (λ (x : Move). going s (to ChainNext v.head) (x ∷ os) m) (remember-after v a os (named word) o)
  pick_word m word false =
      ap (λ (x : Move). going s (last_head v.head v.inner) (x ∷ os) m) (same_after v a os o)
      ∙ last_step m v.inner a (ap (λ (i : Inner). i.count) o.inner_is) (ap (λ (i : Inner). i.child) o.inner_is)

  word-step : (m : Memory) (word : ℕ) → going s (word_head v.head v.inner word) (move_after (word_inner v.inner word) a ∷ os) m ≡ chain_word s v.head a os word m
  unfolding word_head word_inner chain_word
  word-step m word = pick_word m word (is_node word)

  pub word_is :
      (m : Memory) (u : ℕ) {r : Gave} {word : ℕ}
      → r ≡ stays v s (word_head v.head v.inner word) (word_inner v.inner word) → word ≡ u
      → moved v r a os m ≡ tried 0 (chain_word s v.head a os u m)
  word_is m u {word} p b =
      stay_is v s a os m p ∙ (ap (λ (t : Step). tried 0 t) (word-step m word) ∙ ap (λ (x : ℕ). tried 0 (chain_word s v.head a os x m)) b)

  -- a word is read again
  pub read_is :
      (m : Memory) (u : ℕ) {r : Gave} {h : Head} {g word : ℕ}
      → r ≡ stays v s h v.inner → h ≡ met_head v.head 1 g word → g ≡ named word → word ≡ u
      → moved v r a os m ≡ tried 0 (set_read_word s v.head a os u m)
  unfolding set_read_word set_met met_head
  read_is m u p b c d = same_is v s a os m o p ∙ (simp (b, c, d))

  pub follow_is :
      (w : ℕ) (m : Memory) (u : ℕ) {r : Gave} {h : Head} {word : ℕ}
      → r ≡ stays v s h v.inner → h ≡ follow_head w s v.head word m.levels → word ≡ u
      → moved v r a os m ≡ tried 0 (set_follow_word w s v.head a os u m)
  unfolding set_follow_word set_met follow_head met_head
  follow_is w m u p b c = same_is v s a os m o p ∙ (simp (b, c))

  -- the next of the node remembered last is written
  pub next_is :
      (w : ℕ) (nodes levels : List ℕ) {r : Gave} {h : Head} {n : List ℕ} {t : ℕ}
      → r ≡ stays v s h v.inner → h ≡ to SetLook v.head → n ≡ set nodes (2 * v.inner.last + 1) t → t ≡ level_ref v.head.level
      → moved v r a os (memory n levels) ≡ tried 0 (set_next w s v.head a os (memory nodes levels))
  unfolding set_next set_cell
  next_is w nodes levels {n} p b c e = same_is v s a os (memory n levels) o p ∙ (simp (b, c, e, last_is v a os o))

  -- the node is set
  set-step :
      (m : Memory) → going s (last_head v.head (forget_in v.inner)) (move_after (forget_in v.inner) a ∷ os) m ≡ set_last s v.head (forget a) os m
  unfolding forget_in forget
  set-step m =
      ap (λ (x : Move). going s (last_head v.head (forget_in v.inner)) (x ∷ os) m) (forget-after v a os o)
      ∙ last_step m (forget_in v.inner) (forget a) (ap (λ (i : Inner). i.count - 1) o.inner_is) (ap (λ (i : Inner). i.child) o.inner_is)

  done_is : (m : Memory) → moved v (set_done v s) a os m ≡ tried 0 (set_last s v.head (forget a) os m)
  done_is m = stay_is v s a os m refl ∙ ap (λ (t : Step). tried 0 t) (set-step m)

  -- a Move has begun inside
  begun_is : (m : Memory) → moved v (begun_cut v s) a os m ≡ tried 0 (begins_move s v.head (a ∷ os) m)
  unfolding list_after pick
  begun_is m = simp (ne_eqb (v.moves + 1) v.moves (λ q. omega arith), lt-ltb v.moves (v.moves + 1) (omega arith))

  -- question 6 of a word that was read, or met by a failed exchange, and what is done with it
  met_is : (q : Bool) (m : Memory) (failed : Step) (y : Gave) {r : Gave} → r ≡ pick q y (refuses v s) → moved v y a os m ≡ tried 0 failed → moved v r a os m ≡ unless_six q s v.head (a ∷ os) m (tried 0 failed)
  unfolding unless_six pick
  met_is true m failed y p e = ap (λ (x : Gave). moved v x a os m) p ∙ e
  met_is false m failed y p e = six_no v false s a os m (tried 0 failed) o p refl

  peek_met_lem : (before : Bool) (m : Memory) (word : ℕ) (here other : Kind) {r : Gave} → r ≡ peek_met before v s word here other → moved v r a os m ≡ unless_six (both before (ref_taken s word)) s v.head (a ∷ os) m (tried 0 (going s (peeked v.head word here other) (a ∷ os) m))
  unfolding peek_met
  peek_met_lem before m word here other p = met_is (both before (ref_taken s word)) m _ _ p (same_is v s a os m o refl)

  read-met : (before : Bool) (m : Memory) (word : ℕ) {r : Gave} → r ≡ read_met before v s word → moved v r a os m ≡ unless_six (both before (ref_taken s word)) s v.head (a ∷ os) m (tried 0 (set_read_word s v.head a os word m))
  unfolding read_met
  read-met before m word p = met_is (both before (ref_taken s word)) m _ _ p (read_is m word refl refl refl refl)

  follow-met : (before : Bool) (w : ℕ) (m : Memory) (word : ℕ) {r : Gave} → r ≡ follow_met before w v s word m.levels → moved v r a os m ≡ unless_six (both before (set_follows_ref w s v.head word m.levels)) s v.head (a ∷ os) m (tried 0 (set_follow_word w s v.head a os word m))
  unfolding follow_met
  follow-met before w m word p = met_is (both before (set_follows_ref w s v.head word m.levels)) m _ _ p (follow_is w m word refl refl refl)

  -- what is made of the word that an exchange met
  exchange_is :
      (e : Bool) (m : Memory) (done : Step) (x y : Gave) (u : Tried) {r : Gave}
      → r ≡ pick e x y → moved v x a os m ≡ tried 0 done → moved v y a os m ≡ u → moved v r a os m ≡ pick e (tried 0 done) u
  unfolding pick
  exchange_is true m done x y u p d f = ap (λ (z : Gave). moved v z a os m) p ∙ d
  exchange_is false m done x y u p d f = ap (λ (z : Gave). moved v z a os m) p ∙ f

  put_is :
      (m : Memory) (word : ℕ) {r : Gave}
      → r ≡ put_met v s word
      → moved v r a os m ≡ exchange_tried s v.head (a ∷ os) word m (set_last s v.head (forget a) os m) (ref_taken s word) (set_read_word s v.head a os word m)
  unfolding put_met both
  put_is m word p = exchange_is (expected v.head word) m _ _ _ _ p (done_is m) (read-met true m word refl)

  append_is :
      (w : ℕ) (m : Memory) (word : ℕ) {r : Gave}
      → r ≡ next_met (set_done v s) w v s word m.levels
      → moved v r a os m ≡ exchange_tried s v.head (a ∷ os) word m (set_last s v.head (forget a) os m) (set_follows_ref w s v.head word m.levels) (set_follow_word w s v.head a os word m)
  unfolding next_met both
  append_is w m word p = exchange_is (expected v.head word) m _ _ _ _ p (done_is m) (follow-met true w m word refl)

  close_is :
      (w : ℕ) (m : Memory) (word : ℕ) {r : Gave}
      → r ≡ next_met (begun_cut v s) w v s word m.levels
      → moved v r a os m ≡ exchange_tried s v.head (a ∷ os) word m (begins_move s v.head (a ∷ os) m) (set_follows_ref w s v.head word m.levels) (set_follow_word w s v.head a os word m)
  unfolding next_met both
  close_is w m word p = exchange_is (expected v.head word) m _ _ _ _ p (begun_is m) (follow-met true w m word refl)

  -- SetClose where no Move more has room: R's next is read and not exchanged
  no_room_is :
      (w : ℕ) (m : Memory) (q : Bool) {r : Gave}
      → eqb (next_at m.nodes v.head.node) (level_ref v.head.level) ≡ q → r ≡ next_met (refuses v s) w v s (next_at m.nodes v.head.node) m.levels
      → move_left w (a ∷ os) ≡ false → stands_with s v.head v.head.held_level s.levels_taken ≡ true
      → moved v r a os m ≡ unless_six (set_closes w s v.head (a ∷ os) m) s v.head (a ∷ os) m (tried 0 (set_close w s v.head a os m))
  unfolding next_met set_closes set_close closed exchanges exchanging exchange cell_at expected both pick
  no_room_is w m true e p f g = six_no v _ s a os m _ o (p ∙ simp e) (simp (e, f, g))
  no_room_is w m false e p f g = follow-met true w m (next_at m.nodes v.head.node) (p ∙ simp e) ∙ simp (e, f, g)

  -- a level is taken
  pub level_is :
      (w : ℕ) (k : Kind) (nodes levels : List ℕ) {r : Gave} {s' : Settings} {h : Head} {g : ℕ} {l : List ℕ}
      → r ≡ stays v s' h v.inner → h ≡ holding_level k (g + 1) v.head → s' ≡ level_counted s v.head.held_level
      → level_cut g l ≡ take_level_cut w s.levels_taken v.head.held_level v.head.level levels
      → moved v r a os (memory nodes l) ≡ tried 0 (take_level w k s v.head (a ∷ os) (memory nodes levels))
  level_is w k nodes levels {s'} {h} {l} p b c e =
      same_is v s' a os (memory nodes l) o p ∙ (simp (b, c, take-level_cut w s v.head (a ∷ os) (memory nodes levels) k, ← e))

  -- the Move has ended
  pub end_is :
      (w : ℕ) (m : Memory) {r : Gave} {m' : Memory} {x : Cell} {t : ℕ}
      → r ≡ ends v s → m' ≡ set_cell w m x t → x ≡ home_cut w v m → t ≡ level_ref v.inner.child
      → moved v r a os m' ≡ tried 0 (move_end w s v.head a os m)
  unfolding move_end list_after pick
  end_is w m p b c d =
      let n : v.moves ≡ suc (length os) = o.count in
      let g : v.inner.child ≡ a.child = ap (λ (i : Inner). i.child) o.inner_is in
      simp
      (p, b, c, d, g, home_is w v a os o m, end_head_lem v a os o, ne_eqb (v.moves - 1) v.moves (λ e. omega arith), le-ltb v.moves (v.moves - 1) (omega arith))

-- What a method gives: a refusal leaves everything, and a turn that is done is the step
module _ (v : Mover) (s : Settings) (m : Memory) {asks : Move → List Move → Bool} {acts : Move → List Move → Step} where
  pub refused_gives : ((a : Move) (os : List Move) → Around v a os → asks a os ≡ false) → Gives v s m (refuses v s) m asks acts
  refused_gives q = let k = bounded_refused v s in record { gives = λ a os o. six_no v _ s a os m _ o refl (q a os o); counts = k.counts; most = k.most }

  pub done_gives :
      {m' : Memory} {r : Gave}
      → Bounded v r → ((a : Move) (os : List Move) → Around v a os → asks a os ≡ true) → ((a : Move) (os : List Move) → Around v a os → moved v r a os m' ≡ tried 0 (acts a os))
      → Gives v s m r m' asks acts
  done_gives k q r = record { gives = λ a os o. six_yes _ s v.head (a ∷ os) m (r a os o) (q a os o); counts = k.counts; most = k.most }

-- What a method gives, at the width of its settings. SetLook, SetTail, SetRead, SetFollow: a word is read
module _ (v : Mover) (s : Settings) (nodes levels : List ℕ) {r : Gave} {word : ℕ} {q : Bool} where
  pub look_gives :
      {x : Cell}
      → r ≡ peek_met q v s word SetPut SetRead → word ≡ cell_at s.width (memory nodes levels) x → x ≡ set_cell_of s.width v.head v.inner.last (memory nodes levels)
      → q ≡ set_entry s.width s v.head v.inner.last (memory nodes levels)
      → Gives v s (memory nodes levels) r (memory nodes levels) (λ a os. set_looks s.width s v.head (last_node a) (memory nodes levels)) (λ a os. set_look s.width s v.head a os (memory nodes levels))
  unfolding set_looks set_look reads_ref peek_met
  look_gives p e x-is q =
      let m = memory nodes levels in
      let k = bounded_word v s _ _ p in
      record {
        gives = λ a os o. peek_met_lem v s a os o _ m _ SetPut SetRead p ∙ simp (e, x-is, q, last_is v a os o);
        counts = k.counts;
        most = k.most;
      }

  pub tail_gives :
      {n : Kind}
      → r ≡ peek_met q v s word n SetFollow → word ≡ next_at nodes v.head.node → n ≡ by_count s v.head.count SetAppend SetLevel SetFollow → q ≡ stands_at s v.head
      → Gives v s (memory nodes levels) r (memory nodes levels) (λ a os. tails s v.head nodes) (λ a os. set_tail s.width s v.head a os (memory nodes levels))
  unfolding tails set_tail peek_met
  tail_gives {n} p e k-is q =
      let k = bounded_word v s _ _ p in
      record { gives = λ a os o. peek_met_lem v s a os o _ (memory nodes levels) _ n SetFollow p ∙ simp (e, k-is, q); counts = k.counts; most = k.most }

  pub read_gives :
      {x : Cell}
      → r ≡ read_met q v s word → word ≡ cell_at s.width (memory nodes levels) x → x ≡ set_cell_of s.width v.head v.inner.last (memory nodes levels)
      → q ≡ set_entry s.width s v.head v.inner.last (memory nodes levels)
      → Gives v s (memory nodes levels) r (memory nodes levels) (λ a os. set_looks s.width s v.head (last_node a) (memory nodes levels)) (λ a os. set_read s.width s v.head a os (memory nodes levels))
  unfolding set_looks set_read reads_ref read_met
  read_gives p e x-is q =
      let m = memory nodes levels in
      let k = bounded_word v s _ _ p in
      record {
        gives = λ a os o. read-met v s a os o _ m _ p ∙ simp (e, x-is, q, last_is v a os o);
        counts = k.counts;
        most = k.most;
      }

  pub follow_gives :
      r ≡ follow_met q s.width v s word levels → word ≡ next_at nodes v.head.node → q ≡ stands_at s v.head
      → Gives v s (memory nodes levels) r (memory nodes levels) (λ a os. set_follows s.width s v.head (memory nodes levels)) (λ a os. set_follow s.width s v.head a os (memory nodes levels))
  unfolding set_follows set_follow follow_met
  follow_gives p e q =
      let k = bounded_word v s _ _ p in
      record { gives = λ a os o. follow-met v s a os o _ s.width (memory nodes levels) _ p ∙ simp (e, q); counts = k.counts; most = k.most }

-- SetPut, SetAppend: the exchange, and what is made of the word that it met
module _ (v : Mover) (s : Settings) (nodes levels : List ℕ) {r : Gave} {n l : List ℕ} {word b : ℕ} where
  pub put_gives :
      {x : Cell} {q : Bool}
      → r ≡ put_met v s word → exchanged word (memory n l) ≡ exchange s.width (memory nodes levels) x (level_ref v.head.level) b → b ≡ node_ref v.inner.last
      → x ≡ set_cell_of s.width v.head v.inner.last (memory nodes levels) → q ≡ set_entry s.width s v.head v.inner.last (memory nodes levels) → q ≡ true
      → Gives v s (memory nodes levels) r (memory n l) (λ a os. set_puts s.width s v.head (last_node a) (memory nodes levels)) (λ a os. set_put s.width s v.head a os (memory nodes levels))
  unfolding set_puts set_put set_node put_met read_met
  put_gives p e b-is x-is q q-yes =
      let m = memory nodes levels in
      let k = bounded_met v s _ _ _ p (bounded_done v s) in
      record {
        gives = λ a os o.
            exchange-tried s.width s v.head (a ∷ os) m _ true (set_cell_of s.width v.head (last_node a) m) (node_ref (last_node a)) (set_last s v.head (forget a) os) (set_read_word s v.head a os) (λ u z. ref_taken s u)
            (put_is v s a os o _ _ p) e (x-is ∙ cell_is s.width s v a os o m) (b-is ∙ ap node_ref (last_is v a os o)) (puts_asked s.width s v a os o m q q-yes) refl;
        counts = k.counts;
        most = k.most;
      }

  pub append_gives :
      {q : Bool} {d : Gave}
      → r ≡ next_met d s.width v s word l → d ≡ set_done v s → exchanged word (memory n l) ≡ exchange s.width (memory nodes levels) (Next v.head.node) (level_ref v.head.level) b → b ≡ node_ref v.inner.last
      → q ≡ stands_setting s v.head v.inner.last → q ≡ true
      → Gives v s (memory nodes levels) r (memory n l) (λ a os. set_appends s.width s v.head (last_node a) (memory nodes levels)) (λ a os. set_append s.width s v.head a os (memory nodes levels))
  unfolding set_appends set_append set_node next_met follow_met
  append_gives p d-is e b-is q q-yes =
      let m = memory nodes levels in
      let met : r ≡ next_met (set_done v s) s.width v s word l = p ∙ ap (λ (x : Gave). next_met x s.width v s word l) d-is in
      let k = bounded_met v s _ _ _ met (bounded_done v s) in
      record {
        gives = λ a os o.
            exchange-tried s.width s v.head (a ∷ os) m _ true (Next v.head.node) (node_ref (last_node a)) (set_last s v.head (forget a) os) (set_follow_word s.width s v.head a os) (λ u z. set_follows_ref s.width s v.head u z.levels)
            (append_is v s a os o s.width _ _ met) e refl (b-is ∙ ap node_ref (last_is v a os o)) (appends_asked s.width s v a os o q q-yes) refl;
        counts = k.counts;
        most = k.most;
      }

-- SetClose: the exchange where a Move more has room, and R's next read where none has
module _ (v : Mover) (s : Settings) (nodes levels : List ℕ) {r : Gave} {q : Bool} {most : ℕ} where
  pub close_gives :
      {n l : List ℕ} {word b : ℕ} {d : Gave}
      → r ≡ next_met d s.width v s word l → d ≡ begun_cut v s → exchanged word (memory n l) ≡ exchange s.width (memory nodes levels) (Next v.head.node) (level_ref v.head.level) b → b ≡ level_ref (v.head.held_level - 1)
      → most ≡ depths s.width - 1 → v.moves < most → q ≡ stands_with s v.head v.head.held_level s.levels_taken → q ≡ true
      → Gives v s (memory nodes levels) r (memory n l) (λ a os. set_closes s.width s v.head (a ∷ os) (memory nodes levels)) (λ a os. set_close s.width s v.head a os (memory nodes levels))
  unfolding set_closes set_close closed next_met follow_met
  close_gives {l} {word} p d-is e b-is m-is room q q-yes =
      let m = memory nodes levels in
      let met : r ≡ next_met (begun_cut v s) s.width v s word l = p ∙ ap (λ (x : Gave). next_met x s.width v s word l) d-is in
      let k = bounded_met v s _ _ _ met (bounded_begun v s) in
      record {
        gives = λ a os o.
            exchange-tried s.width s v.head (a ∷ os) m _ (move_left s.width (a ∷ os)) (Next v.head.node) (level_ref (v.head.held_level - 1)) (begins_move s v.head (a ∷ os)) (set_follow_word s.width s v.head a os) (λ u z. set_follows_ref s.width s v.head u z.levels)
            (close_is v s a os o s.width _ _ met) e refl b-is (via q q-yes) (left_true s.width m-is v a os o room);
        counts = k.counts;
        most = k.most;
      }

  pub no_room_gives :
      {word : ℕ}
      → r ≡ next_met (refuses v s) s.width v s word levels → word ≡ next_at nodes v.head.node → most ≡ depths s.width - 1 → most ≤ v.moves → q ≡ stands_with s v.head v.head.held_level s.levels_taken → q ≡ true
      → Gives v s (memory nodes levels) r (memory nodes levels) (λ a os. set_closes s.width s v.head (a ∷ os) (memory nodes levels)) (λ a os. set_close s.width s v.head a os (memory nodes levels))
  unfolding next_met follow_met
  no_room_gives p e m-is full q q-yes =
      let met : r ≡ next_met (refuses v s) s.width v s (next_at nodes v.head.node) levels = p ∙ ap (λ (x : ℕ). next_met (refuses v s) s.width v s x levels) e in
      let k = bounded_met v s _ _ _ met (bounded_refused v s) in
      record { gives = λ a os o. no_room_is v s a os o s.width (memory nodes levels) _ refl met (left_false s.width m-is v a os o full) (via q q-yes); counts = k.counts; most = k.most }

-- a kind that is none of a Move is not asked
not_true : (x : Bool) → not x ≡ true → x ≡ false
not_true true e = cc
not_true false e = refl

-- the turn by its kind
module _ (v : Mover) (s : Settings) (m : Memory) where
  abbrev pub GivesBy : Kind → Gave → Memory → Type 0
  GivesBy k r m' =
      Gives v s m r m' (λ a os. both (is_moving k) (reads_by k s.width s v.head (a ∷ os) m)) (λ a os. act_by k s.width false s v.head (a ∷ os) m)

  pub turn_kind : (k : Kind) (r : Gave) (m' : Memory) → GivesBy k r m' → v.head.kind ≡ k → GivesBy v.head.kind r m'
  turn_kind k r m' a e = subst (λ (x : Kind). GivesBy x r m') (sym e) a

  pub turn_other : not (both (leb 11 (kind_no v.head.kind)) (leb (kind_no v.head.kind) 22)) ≡ true → GivesBy v.head.kind (refuses v s) m
  unfolding is_moving
  turn_other e = refused_gives v s m (λ a os o. both_false_left _ (not_true _ e))
