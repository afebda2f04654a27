-- A call with all turns to itself: its turns up to the one that ends it, and how many these are at most.
-- Relies on the definitions of a turn and of a sequence. What is quoted is document 02, request 13.
use Rattle.std.specs.Prelude.{ℕ, zero, suc, ◌+◌, ◌*◌, ◌<◌, ◌≡◌, Bool, true, false, List, replicate}
use Rattle.words.specs.Choice.{pick}
use Rattle.words.specs.Digits.{depths}
use Rattle.settings.specs.Sizes.{level_count}
use Rattle.settings.specs.declared.Settings.{Settings}
use Rattle.areas.specs.Memory.{Areas}
use Rattle.record.specs.declared.Answer.{Answer}
use Rattle.record.specs.declared.Answer.TheVariants.{Nothing, New, Found, Full, Open, Absent}
use Rattle.rules.specs.Asked.{question8}
use Rattle.rules.specs.Operations.{Result, result_of, reply, record_of, opening, turn}
use Rattle.rules.specs.Lists.{State, after}
use Rattle.rules.specs.Calls.{Event, turns, happens, state_after, ending_answer}

-- the call goes on after this answer
unfoldable pub goes_on : Answer → Bool
goes_on Nothing = false
goes_on (New n) = false
goes_on (Found n) = false
goes_on Full = false
goes_on Open = true
goes_on Absent = false

-- at most n turns of worker i, until one is not answered "open": what that turn gave and left
unfoldable pub run_alone : ℕ → ℕ → ℕ → State → Result
run_alone w zero i x = result_of (reply 0 Open 0 x.settings) x.areas
run_alone w (suc n) i x =
    pick (goes_on (turn w x.settings i x.areas).reply.answer)
    (run_alone w n i (after (turn w x.settings i x.areas)))
    (turn w x.settings i x.areas)

-- Turns that are enough: for each level of the table and one more, at each depth and two more, for each node of a chain and one more, a walk at each depth and
-- one more, of four turns at each place and six more
unfoldable pub alone_turns : ℕ → Settings → ℕ
alone_turns w s =
    (depths w + 2) * ((4 * (s.limit * depths w) + 6) * (depths w + 1) * (s.limit + 1)) * (level_count w s + 1)

-- k turns of worker i
abbrev pub turns_of : ℕ → ℕ → List Event
turns_of i k = replicate k (turns i)

-- from state x the call of worker i ends within n of its turns, if it has all turns
pub record EndsAlone (w n i : ℕ) (x : State) : Type 0 where
  -- the turns before the last
  pub before : ℕ
  pub few : before < n
  -- excludes: a machine whose call is refused amid its turns
  pub goes : (k : ℕ) → k < before → (happens w (turns i) (state_after w (turns_of i k) x)).reply.answer ≡ Open
  -- excludes: a machine whose call goes round in a ring of levels for ever
  pub ends : ending_answer (happens w (turns i) (state_after w (turns_of i before) x)).reply.answer ≡ 1
  pub run_is : run_alone w n i x ≡ happens w (turns i) (state_after w (turns_of i before) x)

-- "That a call with all turns to itself ends, from every state a sequence can reach, is part of the work."
abbrev pub AloneStatement : ℕ → Settings → Type 0
AloneStatement w s =
    (a : Areas) → (opening w s a).reply.number ≡ 0
    → (es : List Event) (i : ℕ) → i < s.workers
    → question8 (record_of (state_after w es (after (opening w s a))).areas i) ≡ true
    → EndsAlone w (alone_turns w s) i (state_after w es (after (opening w s a)))
