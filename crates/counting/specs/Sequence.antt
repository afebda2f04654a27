-- The flagged count along a sequence from a fresh table: it is never refused, and it is the number of the placed pixels.
-- Relies on Count for one count, on rules for sequences and their row of calls, on listing for what a listing gives.
use Rattle.std.specs.Prelude.{ℕ, ◌+◌, ◌≡◌, None, Some, Ok, List, [], ◌∷◌, length}
use Rattle.settings.specs.declared.Settings.{Settings}
use Rattle.areas.specs.Memory.{Areas, Memory}
use Rattle.record.specs.declared.Answer.{Answer}
use Rattle.record.specs.declared.Answer.TheVariants.{Nothing, New, Found, Full, Open, Absent}
use Rattle.rules.specs.Operations.{opening, memory_of}
use Rattle.rules.specs.Lists.{State, after}
use Rattle.rules.specs.Calls.{Event, Call, calls, history, state_after}
use Rattle.rules.specs.Demands.{Row}
use Rattle.listing.specs.Next.{Next, moved}
use Rattle.counting.specs.Count.{Count, Counted}

-- a call that ended "new" counts
unfoldable pub new_one : Answer → ℕ
new_one Nothing = 0
new_one (New n) = 1
new_one (Found n) = 0
new_one Full = 0
new_one Open = 0
new_one Absent = 0

-- how many calls of a list ended "new"
unfoldable pub new_calls : List Call → ℕ
new_calls [] = 0
new_calls (c ∷ cs) = new_one c.answer + new_calls cs

-- the pixels that a listing gives from a place to its "end", while no start or turn comes between
pub data GivesFrom (w : ℕ) (s : Settings) (m : Memory) : ℕ → List ℕ → Type 0 where
  ends : {place after : ℕ} → Next w s m place (moved (Ok None) after) → GivesFrom w s m place []
  gives : {place after p : ℕ} {ps : List ℕ} → Next w s m place (moved (Ok (Some p)) after) → GivesFrom w s m after ps → GivesFrom w s m place (p ∷ ps)

-- what holds of the count after a sequence es from a state x that a carried out opening left
pub record CountMeets (w : ℕ) (x : State) (es : List Event) (r : Count) : Type 0 where
  -- excludes: a count that gives 6 amid a Move; one that gives 3 once every node is taken
  pub carried : r.number ≡ 0
  -- "After the whole sequence the reached nodes, each with its pixel, are exactly the pairs in the book": it is the book's length
  -- excludes: nodes taken, which has a spare node too; nodes taken less the spare ones, which has a node in hand that is not placed yet
  pub in_book : (R : Row w x es) → r.count ≡ length R.book
  -- it is the number of calls that ended "new"
  -- excludes: a count that grows with a "found"; one that counts a call whose node is in hand
  pub news : r.count ≡ new_calls (calls (history w es x))
  -- "A panel went to test with a count one higher than its list": a listing that begins now comes to its "end", and the count is the number of pixels that it gives
  -- excludes: a listing that is refused there; one that never ends
  pub comes_to-end : (ps : List ℕ) × GivesFrom w (state_after w es x).settings (memory_of (state_after w es x).areas) 0 ps
  -- excludes: a count that is one higher; one that passes over what hangs by a previous word
  pub listed : (ps : List ℕ) → GivesFrom w (state_after w es x).settings (memory_of (state_after w es x).areas) 0 ps → r.count ≡ length ps

-- along every sequence from a carried out opening
abbrev pub CountStatement : ℕ → Settings → Type 0
CountStatement w s =
    (a : Areas) → (opening w s a).reply.number ≡ 0 → (es : List Event) (r : Count)
    → Counted w (state_after w es (after (opening w s a))).settings (memory_of (state_after w es (after (opening w s a))).areas) r
    → CountMeets w (after (opening w s a)) es r
