-- Document 01's "Bench cases (P: in the proved table)", and rows of document 02. Each row opens a table over words that are all 7, and says what must be answered.
-- Document 01's rows are at width 3 and without viewers; rows at the other widths and rows with viewers follow them. Relies on the operations' definitions.
use Rattle.std.specs.Prelude.{ℕ, zero, suc, ◌*◌, Bool, true, false, List, [], ◌∷◌, ◌++◌, eqb, length, replicate}
use Rattle.words.specs.Choice.{both}
use Rattle.settings.specs.Sizes.{node_words, level_words, worker_words, level_count}
use Rattle.settings.specs.declared.Settings.{Settings}
use Rattle.areas.specs.Memory.{Areas, areas}
use Rattle.record.specs.declared.Answer.{Answer}
use Rattle.record.specs.declared.Answer.TheVariants.{Nothing, New, Found, Full, Open, Absent}
use Rattle.record.specs.declared.Reply.{Reply}
use Rattle.record.specs.Kinds.{answer_no, answer_node}
use Rattle.rules.specs.Operations.{opening}
use Rattle.rules.specs.Lists.{State, after}
use Rattle.rules.specs.Calls.{starts, turns, happens}
use Rattle.rules.specs.Exchanges.{list_report}

-- A line of a row.
--   start i r c n: a placing start of worker i for row r and column c has number n
--   view i r c n: the same of a looking start
--   runs i k n a: worker i has k turns; before the last one the call goes on, and the last one has number n and answer a
--   lists l d f: a list of turns l does all of them, and reports d exchanges done and f failed
--   taken n g: nodes taken and levels taken
pub data Line : Type 0 where
  start : ℕ → ℕ → ℕ → ℕ → Line
  view : ℕ → ℕ → ℕ → ℕ → Line
  runs : ℕ → ℕ → ℕ → Answer → Line
  lists : List ℕ → ℕ → ℕ → Line
  taken : ℕ → ℕ → Line

-- width, workers, how many of them are viewers, chain limit, nodes, the number that the opening has, and the lines after it
pub record Row : Type 0 where
  pub width : ℕ
  pub workers : ℕ
  pub viewers : ℕ
  pub limit : ℕ
  pub nodes : ℕ
  pub number : ℕ
  pub lines : List Line

abbrev pub row_at : ℕ → ℕ → ℕ → ℕ → ℕ → List Line → Row
row_at w k l n q ls = record { width = w; workers = k; viewers = 0; limit = l; nodes = n; number = q; lines = ls }

-- document 01's width
abbrev pub row : ℕ → ℕ → ℕ → ℕ → List Line → Row
row = row_at 3

-- with viewers, at document 01's width
abbrev pub row_of : ℕ → ℕ → ℕ → ℕ → ℕ → List Line → Row
row_of k v l n q ls = record { width = 3; workers = k; viewers = v; limit = l; nodes = n; number = q; lines = ls }

-- (0,0) is new 0 after 3 turns
abbrev pub first : List Line
first = start 0 0 0 0 ∷ runs 0 3 0 (New 0) ∷ []

-- the printed race
abbrev pub race : List Line
race =
    start 0 0 0 0
    ∷ start 1 0 0 0
    ∷ runs 0 1 0 Open
    ∷ runs 1 1 0 Open
    ∷ runs 0 1 0 Open
    ∷ runs 1 1 0 Open
    ∷ runs 0 1 0 (New 0)
    ∷ runs 1 1 0 (Found 0)
    ∷ []

-- a turn of each of four workers
abbrev pub fours : List ℕ
fours = 0 ∷ 1 ∷ 2 ∷ 3 ∷ []

-- the table in parts, each of which is computed by itself: P1 to P5
unfoldable pub first_rows : List Row
first_rows =
    -- P1 Fresh, limit 4: (0,0) is new 0 after 3 turns.
    row 1 4 8 0 (start 0 0 0 0 ∷ runs 0 3 0 (New 0) ∷ taken 1 1 ∷ [])
    -- P2 Again: found 0 after 2.
    ∷ row 1 4 8 0 (first ++ start 0 0 0 0 ∷ runs 0 2 0 (Found 0) ∷ taken 1 1 ∷ [])
    -- P3 Then (0,1): new 1 after 5.
    ∷ row 1 4 8 0 (first ++ start 0 0 1 0 ∷ runs 0 5 0 (New 1) ∷ taken 2 1 ∷ [])
    -- P4 The race printed above: 2 nodes taken. Document 02: worker 1 ends a turn earlier, and its turn of line 10 is refused by 8.
    ∷ row 2 4 8 0 (race ++ runs 1 1 8 Nothing ∷ taken 2 1 ∷ [])
    -- P5 Worker 1 then places (512,0): new 1, its spare.
    ∷ row 2 4 8 0 (race ++ start 1 512 0 0 ∷ runs 1 3 0 (New 1) ∷ taken 2 1 ∷ [])
    ∷ []

-- P6
unfoldable pub move_rows : List Row
move_rows =
    -- P6 One worker, limit 1, nodes 2: (0,0), then (0,1) is new 1 after 80 turns, levels taken 8.
    row 1 1 2 0 (first ++ start 0 0 1 0 ∷ runs 0 80 0 (New 1) ∷ taken 2 8 ∷ [])
    ∷ []

-- P7 to P11
unfoldable pub full_rows : List Row
full_rows =
    -- P7 Nodes 1, limit 4, (0,0) placed: (1,1) is full on turn 4;
    row 1 4 1 0 (first ++ start 0 1 1 0 ∷ runs 0 4 9 Full ∷ taken 1 1 ∷ [])
    -- P8 (512,0) on turn 2;
    ∷ row 1 4 1 0 (first ++ start 0 512 0 0 ∷ runs 0 2 9 Full ∷ taken 1 1 ∷ [])
    -- P9 (0,0) found 0.
    ∷ row 1 4 1 0 (first ++ start 0 0 0 0 ∷ runs 0 2 0 (Found 0) ∷ [])
    -- P10 Row 4,095 passes, 4,096 gives 5.
    ∷ row 1 4 1 0 (start 0 4096 0 5 ∷ start 0 4095 0 0 ∷ runs 0 3 0 (New 0) ∷ [])
    -- P11 Limit 8 passes, 0 and 9 give 1.
    ∷ row 1 8 1 0 (first ++ [])
    ∷ row 1 0 1 1 []
    ∷ row 1 9 1 1 []
    ∷ []

-- P12 Worker 15 of 16 passes, 16 gives 4.
abbrev pub worker_row : Row
worker_row = row 16 8 1 0 (start 16 0 0 4 ∷ start 15 0 0 0 ∷ runs 15 3 0 (New 0) ∷ [])

-- document 02, how often exchanges fail
unfoldable pub exchange_rows : List Row
exchange_rows =
    -- four workers race for one pixel, one exchange is done and three fail, which is the bound
    row 4 4 8 0 (start 0 0 0 0 ∷ start 1 0 0 0 ∷ start 2 0 0 0 ∷ start 3 0 0 0 ∷ lists (fours ++ fours ++ fours) 1 3 ∷ taken 4 1 ∷ [])
    -- P6 as lists: the second call closes seven chains, each Move sets one node, and the call puts its own: 15 exchanges, none fails
    ∷ row 1 1 2 0 (start 0 0 0 0 ∷ lists (replicate 3 0) 1 0 ∷ start 0 0 1 0 ∷ lists (replicate 80 0) 15 0 ∷ taken 2 8 ∷ [])
    ∷ []

-- P6 at the other widths: 11 turns a level and 3. Width 2
unfoldable pub narrow_rows : List Row
narrow_rows =
    row_at 2 1 1 2 0 (first ++ start 0 0 1 0 ∷ runs 0 124 0 (New 1) ∷ taken 2 12 ∷ [])
    ∷ []

-- widths 4 and 6
unfoldable pub wide_rows : List Row
wide_rows =
    row_at 4 1 1 2 0 (first ++ start 0 0 1 0 ∷ runs 0 58 0 (New 1) ∷ taken 2 6 ∷ [])
    ∷ row_at 6 1 1 2 0 (first ++ start 0 0 1 0 ∷ runs 0 36 0 (New 1) ∷ taken 2 4 ∷ [])
    ∷ []

-- document 02: "another width is refusal 1"
unfoldable pub other_widths : List Row
other_widths =
    row_at 0 1 1 2 1 []
    ∷ row_at 1 1 1 2 1 []
    ∷ row_at 5 1 1 2 1 []
    ∷ row_at 7 1 1 2 1 []
    ∷ []

-- document 02, viewers
unfoldable pub viewer_rows : List Row
viewer_rows =
    -- "Where a worker would go to Take, TakeTail or Level, it ends "absent"": on an empty table in Look, at the end of a chain in Tail, below the limit and at it
    row_of 2 1 2 8 0 (view 1 0 0 0 ∷ runs 1 1 0 Absent ∷ first ++ view 1 0 1 0 ∷ runs 1 3 0 Absent ∷ taken 1 1 ∷ [])
    ∷ row_of 2 1 1 8 0 (first ++ view 1 0 1 0 ∷ runs 1 3 0 Absent ∷ taken 1 1 ∷ [])
    -- and a pixel that is there is found
    ∷ row_of 2 1 2 8 0 (first ++ view 1 0 0 0 ∷ runs 1 2 0 (Found 0) ∷ taken 1 1 ∷ [])
    -- "a placing call on a viewer, a looking call on another worker", the busy one's too
    ∷ row_of 2 1 2 8 0 (start 1 0 0 17 ∷ view 0 0 0 17 ∷ view 1 0 0 0 ∷ start 1 0 0 17 ∷ view 1 0 0 7 ∷ start 1 4096 0 5 ∷ [])
    -- "0 up to all of them, and more is refusal 1"
    ∷ row_of 1 1 1 1 0 (start 0 0 0 17 ∷ view 0 0 0 0 ∷ runs 0 1 0 Absent ∷ taken 0 1 ∷ [])
    ∷ row_of 1 2 1 1 1 []
    ∷ []

unfoldable pub table : List Row
table = first_rows ++ (move_rows ++ (full_rows ++ ((worker_row ∷ []) ++ (exchange_rows ++ (narrow_rows ++ (wide_rows ++ (other_widths ++ viewer_rows)))))))

-- the settings and areas that a row's opening is given: every word, also nodes taken and levels taken, is 7
abbrev pub given : Row → Settings
given r = record { workers = r.workers; limit = r.limit; nodes = r.nodes; nodes_taken = 7; levels_taken = 7; viewers = r.viewers; width = r.width }

unfoldable pub lent : Row → Areas
lent r =
    areas (replicate (node_words * r.nodes) 7)
    (replicate (level_words r.width * level_count r.width (given r)) 7)
    (replicate (worker_words * r.workers) 7)

-- a reply has the number and the answer
unfoldable pub gives : Reply → ℕ → Answer → Bool
gives r n a = both (eqb r.number n) (both (eqb (answer_no r.answer) (answer_no a)) (eqb (answer_node r.answer) (answer_node a)))

-- k turns of worker i: each but the last goes on
unfoldable pub runs_of : ℕ → ℕ → ℕ → Answer → State → Bool × State
runs_of i zero n a x = (false, x)
runs_of i (suc zero) n a x = (gives (happens x.settings.width (turns i) x).reply n a, after (happens x.settings.width (turns i) x))
runs_of i (suc (suc k)) n a x = more (runs_of i (suc k) n a (after (happens x.settings.width (turns i) x)))
  where
    more : Bool × State → Bool × State
    more (b, y) = (both (gives (happens x.settings.width (turns i) x).reply 0 Open) b, y)

unfoldable pub line_of : Line → State → Bool × State
line_of (start i r c n) x = (eqb (happens x.settings.width (starts false i r c) x).reply.number n, after (happens x.settings.width (starts false i r c) x))
line_of (view i r c n) x = (eqb (happens x.settings.width (starts true i r c) x).reply.number n, after (happens x.settings.width (starts true i r c) x))
line_of (runs i k n a) x = runs_of i k n a x
line_of (lists l d f) x =
    let r = list_report x.settings.width x.settings l (length l) x.areas in
    (both (both (eqb r.result.reply.number 0) (eqb r.result.reply.turns (length l))) (both (eqb r.done d) (eqb r.failed f)), after r.result)
line_of (taken n g) x = (both (eqb x.settings.nodes_taken n) (eqb x.settings.levels_taken g), x)

unfoldable pub lines_pass : List Line → State → Bool
lines_pass [] x = true
lines_pass (l ∷ ls) x = let r = line_of l x in both r.0 (lines_pass ls r.1)

unfoldable pub passes : Row → Bool
passes r =
    let o = opening r.width (given r) (lent r) in
    both (eqb o.reply.number r.number) (lines_pass r.lines (after o))
