-- Along any sequence of starts and turns: what holds before an event holds after it.
-- Relies on the events of a start and of a turn.
use Prim.Native.Nat.{ℕ, suc, ◌<◌}
use mathlib.Core.Path.{◌≡◌, refl, sym, ◌∙◌}
use mathlib.Core.Logic.{◌⊎◌, inl, inr}
use mathlib.Core.Bool.{true}
use mathlib.Core.List.{List, [], ◌∷◌, ◌++◌, append-nil, append_assoc}
use lib.ListN.{length, length-append}
use borrow.Author.Tests.{ltb-true, eq-eqb}
use Rattle.words.proofs.Choice.{both_right, pick_true}
use Rattle.settings.specs.Sizes.{level_count}
use Rattle.settings.specs.declared.Settings.{Settings}
use Rattle.areas.specs.Memory.{Memory}
use Rattle.record.specs.declared.Kind.{Kind}
use Rattle.record.specs.declared.Kind.TheVariants.{Level, SetLevel}
use Rattle.record.specs.declared.Head.{Head}
use Rattle.record.specs.Layout.{Record}
use Rattle.rules.specs.Asked.{reads_by, takes_level, level_left, question6}
use Rattle.rules.specs.Operations.{record_of, memory_of}
use Rattle.rules.specs.Lists.{State, after}
use Rattle.rules.specs.Calls.{Event, starts, turns, happens, history, state_after, Call, Opened, opens, ends, calls_from, ending, endings}
use Rattle.rules.specs.Demands.{EventOk, LevelLeft}
use Rattle.rules.proofs.Invariant.{at}
use Rattle.rules.proofs.Asking.{asks_ok}
use Rattle.rules.proofs.Along.{Along}
use Rattle.rules.proofs.StartEvent.{start_along, start_event}
use Rattle.rules.proofs.TurnEvent.{turn_along, turn-ends, turn_event}

-- question 6 of Level and SetLevel with nothing spare
level-left : (w : ℕ) (s : Settings) (h : Head) (levels : List ℕ) → h.held_level ≡ 0 → takes_level w s h levels ≡ true → s.levels_taken < level_count w s
unfolding takes_level level_left
level-left w s h levels z q =
    ltb-true _ _ (sym (pick_true _ _ _ (eq-eqb _ _ z)) ∙ both_right _ _ (both_right _ _ (both_right _ _ q)))

level-reads : (k : Kind) (w : ℕ) (s : Settings) (r : Record) (m : Memory) → (k ≡ Level) ⊎ (k ≡ SetLevel) → reads_by k w s r.head r.moves m ≡ true → takes_level w s r.head m.levels ≡ true
unfolding reads_by
level-reads k w s r m (inl e) q = rw (e, reads_by) at q
level-reads k w s r m (inr e) q = rw (e, reads_by) at q

module _ {w : ℕ} {s₀ : Settings} {x : State} {k : ℕ} {os : List Opened} {cs : List Call} (a : Along w s₀ x k os cs) where
  pub event_along : (e : Event) → Along w s₀ (after (happens w e x)) (suc k) (opens e k (happens w e x).reply os) (cs ++ ends e k (happens w e x).reply os)
  unfolding happens
  event_along (starts looks i row column) = start_along a looks i row column
  event_along (turns i) = turn_along a i

  -- the calls that the event ended
  event_ends : (e : Event) → length (ends e k (happens w e x).reply os) ≡ ending e (happens w e x).reply
  unfolding happens ends ending
  event_ends (starts looks i row column) = refl
  event_ends (turns i) = turn-ends a i

  pub event_ok : (e : Event) → EventOk w e x
  event_ok (starts looks i row column) = start_event a looks i row column
  event_ok (turns i) = turn_event a i

  -- Level and SetLevel: question 6 says that a level is left
  pub left_over : (i : ℕ) → i < s₀.workers → LevelLeft w i x
  unfolding question6
  left_over i h =
      record {
        left = λ n z. level-left w x.settings (record_of x.areas i).head x.areas.levels z (level-reads _ w x.settings (record_of x.areas i) (memory_of x.areas) n (both_right _ _ (asks_ok (at a.fine i h))));
      }

-- the state after the events of two lists
pub after-append : (w : ℕ) (es fs : List Event) (x : State) → state_after w (es ++ fs) x ≡ state_after w fs (state_after w es x)
unfolding state_after
after-append w [] fs x = refl
after-append w (e ∷ es) fs x = after-append w es fs (after (happens w e x))

-- the events of a sequence
pub record AtEnd (w : ℕ) (s₀ : Settings) (x : State) (cs : List Call) : Type 0 where
  pub events : ℕ
  pub opened : List Opened
  pub along : Along w s₀ x events opened cs

run_none : {w : ℕ} {s₀ : Settings} {x : State} {k : ℕ} {os : List Opened} {cs : List Call} → Along w s₀ x k os cs → AtEnd w s₀ (state_after w [] x) (cs ++ calls_from k os (history w [] x))
unfolding state_after history calls_from
run_none {k = k} {os = os} a = record { events = k; opened = os; along = rw append-nil a }

run_more : (w : ℕ) (s₀ : Settings) (e : Event) (es : List Event) (x : State) (k : ℕ) (os : List Opened) (cs : List Call) → AtEnd w s₀ (state_after w es (after (happens w e x))) ((cs ++ ends e k (happens w e x).reply os) ++ calls_from (suc k) (opens e k (happens w e x).reply os) (history w es (after (happens w e x)))) → AtEnd w s₀ (state_after w (e ∷ es) x) (cs ++ calls_from k os (history w (e ∷ es) x))
unfolding state_after history calls_from
run_more w s₀ e es x k os cs a = rw append_assoc at a

pub run_along : {w : ℕ} {s₀ : Settings} (es : List Event) (x : State) (k : ℕ) (os : List Opened) (cs : List Call) → Along w s₀ x k os cs → AtEnd w s₀ (state_after w es x) (cs ++ calls_from k os (history w es x))
run_along [] x k os cs a = run_none a
run_along {w} {s₀} (e ∷ es) x k os cs a =
    run_more w s₀ e es x k os cs (run_along es (after (happens w e x)) (suc k) (opens e k (happens w e x).reply os) (cs ++ ends e k (happens w e x).reply os) (event_along a e))

-- each turn answered "new", "found" or "full" ended one call
pub run_ends : {w : ℕ} {s₀ : Settings} (es : List Event) (x : State) {k : ℕ} {os : List Opened} {cs : List Call} → Along w s₀ x k os cs → length (calls_from k os (history w es x)) ≡ endings (history w es x)
unfolding history calls_from endings
run_ends [] x a = refl
run_ends {w} (e ∷ es) x {k} {os} a = rw (length-append, event_ends a e, run_ends es (after (happens w e x)) (event_along a e)) refl
