-- What is counted is the exchange that the turn makes, for each of the six kinds; and a list counts at most one in each of its turns done.
-- Relies on the turns' definitions and on the laws of the entries reached.
use Prim.Native.Nat.{ℕ, zero, suc, ◌+◌, ◌≤◌}
use mathlib.Core.Path.{◌≡◌, refl, ap, ◌∙◌}
use mathlib.Core.Logic.{inl}
use mathlib.Core.Bool.{Bool}
use mathlib.Core.List.{List, [], ◌∷◌}
use native.Mathlib.Decide.{ℕ_discrete}
use native.Mathlib.Omega.{arith}
use lib.Dec.{eqb}
use borrow.Author.Tests.{eqb-true}
use Rattle.words.specs.Choice.{pick, first_no}
use Rattle.words.proofs.Choice.{pick-both, pick_true, pick_false}
use Rattle.settings.specs.declared.Settings.{Settings}
use Rattle.areas.specs.Memory.{Memory, is_node, cell_at, set_cell}
use Rattle.areas.specs.declared.Cell.{Cell}
use Rattle.record.specs.declared.Kind.{Kind}
use Rattle.record.specs.declared.Kind.TheVariants.{Idle, Look, Take, Put, Read, Tail, TakeTail, Append, Level, Close, Follow, ChainHead, ChainNext, SetNext, SetLook, SetPut, SetRead, SetTail, SetAppend, SetLevel, SetClose, SetFollow, MoveEnd, Unknown}
use Rattle.record.specs.declared.Exchange.TheVariants.{None}
use Rattle.record.specs.declared.Head.{Head}
use Rattle.record.specs.declared.Move.{Move}
use Rattle.record.specs.Layout.{record'}
use Rattle.rules.specs.Heads.{to}
use Rattle.rules.specs.Steps.{Step, expected, exchanging, closed}
use Rattle.rules.specs.Searching as searching
use Rattle.rules.specs.Moving as moving
use Rattle.rules.specs.Acts.{act_by, act}
use Rattle.rules.specs.Operations.{turn}
use Rattle.rules.specs.Lists as many
use Rattle.rules.specs.Lists.{State, state, after, visit, turn_at, left_after, visits, counts, turns_done, turns_result, list_questions}
use Rattle.rules.specs.Calls.{turns, happens}
use Rattle.rules.specs.Sequences.{turns_at, list_events}
use Rattle.rules.specs.Exchanges.{now, commits, exchange_by, exchange_of, exchange_at, done_in, failed_in, total, successes, failures, list_report}
use Rattle.rules.specs.OwnExchange.{Makes, put, append, close, set-put, set-append, set-close, Own, OwnStatement, OneATurn}
use Rattle.rules.proofs.Exchanging.{exchange_done, exchange_failed}
use Rattle.rules.proofs.ManyTurns.{list_carried}
use Rattle.rules.proofs.Exchanges.{one_exchange, none_done, none_failed}
use Rattle.rules.proofs.Entries.{done_open, open_counted}

-- reading again writes nothing
met-leaves : (s : Settings) (h : Head) (c g word : ℕ) (m : Memory) → (searching.met s h c g word m).memory ≡ m
unfolding searching.met searching.met_node
met-leaves s h c g word m =
    let Left : Step → Type 0 = λ t. t.memory ≡ m in
    pick-both Left (is_node word) (λ e. pick-both Left (eqb _ h.pixel) (λ q. refl) (λ q. refl)) (λ e. refl)

-- a kind whose turn is an exchange of the cell to which it is committed
own_by :
    (w : ℕ) (looks : Bool) (s : Settings) (h : Head) (ms : List Move) (m : Memory) (k : Kind) (x : Cell) (b : ℕ) (done : Memory → Step) (failed : ℕ → Memory → Step)
    → commits k w (to k h) ms m ≡ now x → act w looks s (record' (to k h) ms) m ≡ exchanging w (to k h) x b done failed m
    → (done (set_cell w m x b)).memory ≡ set_cell w m x b → (failed (cell_at w m x) m).memory ≡ m → Own w looks s h ms m k x b
unfolding exchange_by expected to
own_by w looks s h ms m k x b done failed c a d f =
    record {
      done = λ e. (ap (exchange_by w (to k h) m) c ∙ pick_true _ _ _ e, ap (λ (t : Step). t.memory) a ∙ exchange_done (λ (t : Step). t.memory ≡ set_cell w m x b) w (to k h) x b done failed m d e);
      failed = λ e. (ap (exchange_by w (to k h) m) c ∙ pick_false _ _ _ e, ap (λ (t : Step). t.memory) a ∙ exchange_failed (λ (t : Step). t.memory ≡ m) w (to k h) x b done failed m f e);
    }

makes_own : (w : ℕ) (looks : Bool) (s : Settings) (h : Head) (ms : List Move) (m : Memory) (k : Kind) (x : Cell) (b : ℕ) → Makes w h ms m k x b → Own w looks s h ms m k x b
unfolding commits to act act_by closed searching.entry_of searching.put searching.append searching.close searching.placed searching.read_word searching.follow_word moving.set_cell_of moving.set_put moving.set_append moving.set_close moving.set_node moving.set_last moving.set_read_word moving.set_follow_word moving.set_met
makes_own w looks s h ms m k x b put = own_by w looks s h ms m k x b _ _ refl refl refl (met-leaves s (to k h) _ _ _ m)
makes_own w looks s h ms m k x b append = own_by w looks s h ms m k x b _ _ refl refl refl (met-leaves s (to k h) _ _ _ m)
makes_own w looks s h ms m k x b close = own_by w looks s h ms m k x b _ _ refl refl refl (met-leaves s (to k h) _ _ _ m)
makes_own w looks s h ms m k x b set-put = own_by w looks s h ms m k x b _ _ refl refl refl refl
makes_own w looks s h ms m k x b set-append = own_by w looks s h ms m k x b _ _ refl refl refl refl
makes_own w looks s h ms m k x b set-close = own_by w looks s h ms m k x b _ _ refl refl refl refl

others-none : (w : ℕ) (h : Head) (ms : List Move) (m : Memory) (k : Kind) → ((x : Cell) (b : ℕ) → Makes w h ms m k x b → ⊥) → exchange_of w (record' (to k h) ms) m ≡ None
unfolding commits exchange_by to
others-none w h ms m Idle n = refl
others-none w h ms m Look n = refl
others-none w h ms m Take n = refl
others-none w h ms m Put n = absurd (n _ _ put)
others-none w h ms m Read n = refl
others-none w h ms m Tail n = refl
others-none w h ms m TakeTail n = refl
others-none w h ms m Append n = absurd (n _ _ append)
others-none w h ms m Level n = refl
others-none w h ms m Close n = absurd (n _ _ close)
others-none w h ms m Follow n = refl
others-none w h ms m ChainHead n = refl
others-none w h ms m ChainNext n = refl
others-none w h ms m SetNext n = refl
others-none w h ms m SetLook n = refl
others-none w h ms m SetPut n = absurd (n _ _ set-put)
others-none w h ms m SetRead n = refl
others-none w h ms m SetTail n = refl
others-none w h ms m SetAppend n = absurd (n _ _ set-append)
others-none w h ms m SetLevel n = refl
others-none w h ms m SetClose n = absurd (n _ _ set-close)
others-none w h ms m SetFollow n = refl
others-none w h ms m MoveEnd n = refl
others-none w h ms m Unknown n = refl

pub own_exchange : (w : ℕ) → OwnStatement w
own_exchange w = record { makes = makes_own w; others = others-none w }

-- only a turn that counts makes one
entry_few : (w i : ℕ) (x : State) → done_in (exchange_at w (turns i) x) + failed_in (exchange_at w (turns i) x) ≤ pick (counts w (visit i x)) 1 0
entry_few w i x = by (ℕ_discrete (turn w x.settings i x.areas).reply.number 0)
  where
    by : Dec ((turn w x.settings i x.areas).reply.number ≡ 0) → done_in (exchange_at w (turns i) x) + failed_in (exchange_at w (turns i) x) ≤ pick (counts w (visit i x)) 1 0
    by (yes z) = rw (pick_true {A = ℕ} (counts w (visit i x)) 1 0 (open_counted w x i (done_open w x i (inl z)) (λ q. omega arith))) (one_exchange (exchange_at w (turns i) x))
    by (no z) = omega (arith, none_done w i x z, none_failed w i x z)

visits_few : (w : ℕ) (l : List ℕ) (n : ℕ) (x : State) → successes w (turns_at (visits w l n x)) x + failures w (turns_at (visits w l n x)) x ≤ turns_done w (visits w l n x)
unfolding visits turns_at turns_done total happens
visits_few w [] n x = omega arith
visits_few w (i ∷ l) zero x = omega arith
visits_few w (i ∷ l) (suc n) x =
    let e = entry_few w i x in
    let h = visits_few w l (left_after (turn_at w (visit i x)).reply.number n) (after (turn_at w (visit i x))) in
    omega arith

done_few : (w : ℕ) (l : List ℕ) (n : ℕ) (x : State) → successes w (turns_at (visits w l n x)) x + failures w (turns_at (visits w l n x)) x ≤ (turns_result w x (visits w l n x)).reply.turns
unfolding turns_result
done_few w l n x = visits_few w l n x

none_few : (w : ℕ) (x : State) {n : ℕ} → successes w [] x + failures w [] x ≤ n
unfolding total
none_few w x = omega arith

pub list_one_a_turn : (w : ℕ) → OneATurn w
unfolding list_report list_events
list_one_a_turn w s l limit a =
    pick-both (λ es. successes w es (state s a) + failures w es (state s a) ≤ (many.turns w s l limit a).reply.turns) (eqb (first_no (list_questions w s l a)) 0)
    (λ e. rw (list_carried w s l limit a (eqb-true _ _ e)) (done_few w l limit (state s a)))
    (λ e. none_few w (state s a))
