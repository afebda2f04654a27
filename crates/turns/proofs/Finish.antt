-- The ways in which a turn ends: refused by 6, or its record stored.
-- Relies on the code's cut of a turn, on the laws of a record's store, on what an exchange came to.
use Prim.Native.Nat.{ℕ, ◌-◌, ◌≤◌}
use mathlib.Core.Path.{◌≡◌, refl, sym, ap, ◌∙◌}
use mathlib.Core.Logic.{◌≢◌}
use mathlib.Core.Bool.{Bool}
use mathlib.Core.List.{List, [], ◌∷◌}
use native.Mathlib.Omega.{arith}
use borrow.Author.Tests.{eq-eqb, ne_eqb}
use lib.Dec.{eqb}
use Rattle.words.specs.Choice.{pick}
use Rattle.words.proofs.Choice.{pick-both, pick_true, pick_false}
use Rattle.settings.specs.declared.Settings.{Settings}
use Rattle.settings.specs.declared.Refusal.{Refusal}
use Rattle.settings.specs.Refusals.{refusal_no}
use Rattle.settings.proofs.Refusals.{refusal_positive}
use Rattle.areas.specs.Memory.{Memory, memory, Areas, areas}
use Rattle.record.specs.declared.Exchange.{Exchange}
use Rattle.record.specs.declared.Answer.{Answer}
use Rattle.record.specs.declared.Answer.TheVariants.{Nothing, New, Found, Full, Open, Absent}
use Rattle.std.specs.Prelude.{Some, None, Ok, Err}
use Rattle.record.specs.declared.Exchange.TheVariants as Exchanges
use Rattle.record.specs.declared.Head.{Head}
use Rattle.record.specs.declared.Move.{Move}
use Rattle.record.specs.Kinds.{kind_no, answer_no}
use Rattle.record.specs.Layout.{Record, record', store, store_head, store_moves, move_to, move_place, new_move}
use Rattle.record.proofs.Records.{store-none}
use Rattle.rules.specs.Steps.{Step, step}
use Rattle.rules.specs.Asked.{reads_by, question9}
use Rattle.rules.specs.Acts.{inner}
use Rattle.rules.specs.Operations.{refused}
use Rattle.rules.specs.Exchanges.{exchange_of}
use Rattle.steps.specs.Cut.{begun}
use Rattle.steps.specs.Tried.{Tried, tried, unless_six, unless_nine}
use Rattle.worker.specs.declared.Turned.{Turned}
use Rattle.worker.specs.Tried.{turned, done_no}
use Rattle.worker.specs.Searching.{search_tried}
use Rattle.worker.proofs.Turns.{search_tried_lem}
use Rattle.turns.specs.Cut.{Outcome, tried_of, finished, turn_done, did, did_of, came_to}
use Rattle.turns.proofs.Exchanged.{tried_came}

-- a head, with no Move or the one that has begun
pub keep_none : (h : Head) (i : ℕ) (l : List ℕ) {l' : List ℕ} → l' ≡ store_head h 0 i l → l' ≡ store (record' h (begun h.level None [])) i l
keep_none h i l e = e ∙ sym (store-none h i l)

pub keep_begun : (h : Head) (i c : ℕ) (l : List ℕ) {l' l'' : List ℕ} {v : Move} → l'' ≡ move_to v (move_place i 0) l' → v ≡ new_move h.level c → l' ≡ store_head h 1 i l → l'' ≡ store (record' h (begun h.level (Some c) [])) i l
unfolding store store_moves
keep_begun h i c l a b e = rw (a, b, e) refl

-- refused by 6: no exchange
pub did-six : (s : Settings) (e : Exchange) (a : Areas) → did_of e (refused 6 s a) ≡ did (turn_done 6 s Exchanges.None) a
unfolding did_of pick
did-six s e a = refl

module _ (w : ℕ) (i : ℕ) (s : Settings) (nodes levels workers : List ℕ) (x : Tried) (e : Exchange) where
  -- refused by 6: nothing has changed
  pub finish_six :
      (t : Step) {n : ℕ} {d : Outcome} → d ≡ turn_done 6 s Exchanges.None → tried n t ≡ x → n ≡ 6 → (x.number ≡ 6 → x.step'.memory ≡ memory nodes levels)
      → did d (areas t.memory.nodes t.memory.levels workers) ≡ did_of e (finished x i s (areas nodes levels workers))
  unfolding finished
  finish_six t a f z k =
      let q : x.number ≡ 6 = sym (ap (λ u. u.number) f) ∙ z in
      let p : t.memory ≡ memory nodes levels = ap (λ u. u.step'.memory) f ∙ k q in
      rw (a, p, pick_true _ (refused 6 s (areas nodes levels workers)) _ (eq-eqb x.number 6 q)) (sym (did-six s e (areas nodes levels workers)))

  -- any other number: the record is stored
  pub finish_done :
      (t : Step) {n : ℕ} {d : Outcome} {y : Exchange} {l : List ℕ} → d ≡ turn_done n t.settings y → y ≡ pick (eqb x.number 0) e Exchanges.None → l ≡ store t.record' i workers → tried n t ≡ x → (n ≡ 6 → ⊥)
      → did d (areas t.memory.nodes t.memory.levels l) ≡ did_of e (finished x i s (areas nodes levels workers))
  unfolding finished did_of
  finish_done t {n} a b f q z = rw (← q, pick_false _ (refused 6 s (areas nodes levels workers)) _ (ne_eqb n 6 z), a, b, f) (rw (← q) refl)

-- a method that gives 6 has changed nothing
not-six : (q : Bool) (s : Settings) (h : Head) (m : Memory) (t : Step) → (unless_nine q s h m t).number ≢ 6
unfolding unless_nine
not-six q s h m t = pick-both (λ (u : Tried). u.number ≢ 6) q (λ e z. omega arith) (λ e z. omega arith)

six-memory : (q : Bool) (s : Settings) (h : Head) (ms : List Move) (m : Memory) (t : Tried) → t.number ≢ 6 → (unless_six q s h ms m t).number ≡ 6 → (unless_six q s h ms m t).step'.memory ≡ m
unfolding unless_six
six-memory q s h ms m t n = pick-both (λ (u : Tried). u.number ≡ 6 → u.step'.memory ≡ m) q (λ e z. absurd (n z)) (λ e z. refl)

pub tried-memory : (w : ℕ) (v : Bool) (s : Settings) (r : Record) (m : Memory) → (tried_of w v s r m).number ≡ 6 → (tried_of w v s r m).step'.memory ≡ m
unfolding tried_of
tried-memory w v s r m = six-memory _ s r.head r.moves m _ (not-six _ s r.head m _)

-- the ways through the questions: 6 keeps everything, 9 gives "full" and keeps the settings, 0 is another
pub data Way (s : Settings) (t : Tried) : Type 0 where
  by_six : t.number ≡ 6 → Way s t
  by_nine : t.number ≡ 9 → t.step'.answer ≡ Full → t.step'.settings ≡ s → Way s t
  by_none : t.number ≡ 0 → Way s t

pub tried_way : (w : ℕ) (v : Bool) (s : Settings) (r : Record) (m : Memory) → Way s (tried_of w v s r m)
unfolding tried_of unless_six unless_nine
tried_way w v s r m =
    pick-both (Way s) (reads_by r.head.kind w s r.head r.moves m)
    (λ e. pick-both (Way s) (question9 s r) (λ f. by_none refl) (λ f. by_nine refl refl refl))
    (λ e. by_six refl)

-- a refusal that is handed on is a 6: 0 is none, and 9 has an answer
pub refused_six :
    (w : ℕ) (v : Bool) (s : Settings) (r : Record) (m m' : Memory) (h : Head) (ms : List Move) (q : Refusal)
    → tried (refusal_no q) (step Nothing s h ms m') ≡ tried_of w v s r m → refusal_no q ≡ 6
unfolding answer_no
refused_six w v s r m m' h ms q e = by (tried_way w v s r m)
  where
    apart : Nothing ≡ Full → ⊥
    apart f = let z : ◌≡◌ {A = ℕ} 0 3 = ap answer_no f in omega arith

    by : Way s (tried_of w v s r m) → refusal_no q ≡ 6
    by (by_six z) = ap (λ (t : Tried). t.number) e ∙ z
    by (by_nine z f g) = absurd (apart (ap (λ (t : Tried). t.step'.answer) e ∙ f))
    by (by_none z) = absurd (refusal_positive q (ap (λ (t : Tried). t.number) e ∙ z))

pub not_full : (a : Answer) → (a ≡ Full → ⊥) → done_no a ≡ 0
not_full Nothing n = refl
not_full (New i) n = refl
not_full (Found i) n = refl
not_full Full n = absurd (n refl)
not_full Open n = refl
not_full Absent n = refl

module _ (w : ℕ) (i : ℕ) (s : Settings) (h : Head) (nodes levels workers : List ℕ) where
  -- a searching method gives what the definitions say
  pub search_is : (v : Bool) (x : Tried) → x ≡ search_tried h.kind w v s h (memory nodes levels) → 1 ≤ kind_no h.kind → kind_no h.kind ≤ 10 → x ≡ tried_of w v s (record' h []) (memory nodes levels)
  unfolding tried_of
  search_is v x e low high = e ∙ search_tried_lem w v s h (memory nodes levels) low high

  -- what its exchange came to: it has no Move
  search_came : (v : Bool) (x : Tried) → x ≡ tried_of w v s (record' h []) (memory nodes levels) → (x.number ≡ 6 → ⊥) → kind_no h.kind ≤ 10
      → came_to (kind_no h.kind) x.step'.record'.head 0 0 ≡ pick (eqb (tried_of w v s (record' h []) (memory nodes levels)).number 0) (exchange_of w (record' h []) (memory nodes levels)) Exchanges.None
  unfolding inner new_move
  search_came v x e z high =
      let p : x.step'.record'.head ≡ (tried_of w v s (record' h []) (memory nodes levels)).step'.record'.head = ap (λ u. u.step'.record'.head) e in
      let q : x.number ≡ (tried_of w v s (record' h []) (memory nodes levels)).number = ap (λ u. u.number) e in
      ap (λ (y : Head). came_to (kind_no h.kind) y 0 0) p ∙ tried_came w v s h [] (memory nodes levels) 0 (λ low. absurd (omega arith)) (λ low. absurd (omega arith)) (λ y. z (q ∙ y))

  -- what is left to show of a searching turn
  abbrev pub Searched : Bool → Outcome → Areas → Type 0
  Searched v d a = did d a ≡ did_of (exchange_of w (record' h []) (memory nodes levels)) (finished (tried_of w v s (record' h []) (memory nodes levels)) i s (areas nodes levels workers))

  pub search_done :
      (v : Bool) (x : Tried) {d : Outcome} {y : Exchange} {l : List ℕ} → d ≡ turn_done x.number x.step'.settings y → y ≡ came_to (kind_no h.kind) x.step'.record'.head 0 0 → l ≡ store x.step'.record' i workers → x ≡ search_tried h.kind w v s h (memory nodes levels) → (x.number ≡ 6 → ⊥) → 1 ≤ kind_no h.kind → kind_no h.kind ≤ 10
      → Searched v d (areas x.step'.memory.nodes x.step'.memory.levels l)
  search_done v x a b f e z low high =
      let q : x ≡ tried_of w v s (record' h []) (memory nodes levels) = search_is v x e low high in
      finish_done w i s nodes levels workers (tried_of w v s (record' h []) (memory nodes levels)) _ x.step' a (b ∙ search_came v x q z high) f q z

  nine_keeps : (v : Bool) → (tried_of w v s (record' h []) (memory nodes levels)).number ≡ 9 → (tried_of w v s (record' h []) (memory nodes levels)).step'.settings ≡ s
  nine_keeps v e = by (tried_way w v s (record' h []) (memory nodes levels))
    where
      by : Way s (tried_of w v s (record' h []) (memory nodes levels)) → (tried_of w v s (record' h []) (memory nodes levels)).step'.settings ≡ s
      by (by_six z) = let o : ◌≡◌ {A = ℕ} 9 6 = sym e ∙ z in absurd (omega arith)
      by (by_nine z f g) = g
      by (by_none z) = let o : ◌≡◌ {A = ℕ} 9 0 = sym e ∙ z in absurd (omega arith)

  module _ (v : Bool) {n g : List ℕ} (low : 1 ≤ kind_no h.kind) (high : kind_no h.kind ≤ 10) where
    -- refused
    pub search_refused :
        (r : Refusal) → turned s h (Err r) (memory n g) ≡ search_tried h.kind w v s h (memory nodes levels)
        → Searched v (turn_done (refusal_no r) s Exchanges.None) (areas n g workers)
    search_refused r e =
        let q = search_is v (turned s h (Err r) (memory n g)) e low high in
        let six : refusal_no r ≡ 6 = refused_six w v s (record' h []) (memory nodes levels) (memory n g) h [] r q in
        finish_six w i s nodes levels workers (tried_of w v s (record' h []) (memory nodes levels)) _ (turned s h (Err r) (memory n g)).step' (ap (λ (k : ℕ). turn_done k s Exchanges.None) six) q six (tried-memory w v s (record' h []) (memory nodes levels))

    -- done: its call has ended "full", or not
    pub search_full :
        (t : Turned) {l : List ℕ} → t.answer ≡ Full → l ≡ store (record' t.worker.head (begun t.worker.head.level t.child [])) i workers → turned s h (Ok t) (memory n g) ≡ search_tried h.kind w v s h (memory nodes levels)
        → Searched v (turn_done 9 s Exchanges.None) (areas n g l)
    search_full t {l} a f e =
        let x = tried_of w v s (record' h []) (memory nodes levels) in
        let q : turned s h (Ok t) (memory n g) ≡ x = search_is v (turned s h (Ok t) (memory n g)) e low high in
        let nine : done_no t.answer ≡ 9 = ap done_no a in
        let number : x.number ≡ 9 = sym (ap (λ (u : Tried). u.number) q) ∙ nine in
        let same : t.settings ≡ s = ap (λ (u : Tried). u.step'.settings) q ∙ nine_keeps v number in
        finish_done w i s nodes levels workers x _ (turned s h (Ok t) (memory n g)).step'
        (ap (λ (k : ℕ). turn_done k s Exchanges.None) (sym nine) ∙ ap (λ (u : Settings). turn_done (done_no t.answer) u Exchanges.None) (sym same))
        (sym (pick_false _ _ _ (ne_eqb x.number 0 (λ z. let o : ◌≡◌ {A = ℕ} 9 0 = sym number ∙ z in omega arith)))) f q
        (λ z. let o : ◌≡◌ {A = ℕ} 9 6 = sym nine ∙ z in omega arith)

    pub search_open :
        (t : Turned) {y : Exchange} {l : List ℕ} → (t.answer ≡ Full → ⊥) → y ≡ came_to (kind_no h.kind) t.worker.head 0 0 → l ≡ store (record' t.worker.head (begun t.worker.head.level t.child [])) i workers → turned s h (Ok t) (memory n g) ≡ search_tried h.kind w v s h (memory nodes levels)
        → Searched v (turn_done 0 t.settings y) (areas n g l)
    search_open t {y} a b f e =
        let zero : done_no t.answer ≡ 0 = not_full t.answer a in
        search_done v (turned s h (Ok t) (memory n g)) (ap (λ (k : ℕ). turn_done k t.settings y) (sym zero)) b f e (λ z. let o : ◌≡◌ {A = ℕ} 0 6 = sym zero ∙ z in omega arith) low high
