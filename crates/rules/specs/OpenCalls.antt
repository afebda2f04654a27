-- What a worker's record says of its call is what the history says: whether one is open ("is the worker idle?", "has it a call open?"), and its pixel
-- ("A start that is carried out opens a call for its pixel."). Relies on the operations and on the sequence of starts and turns.
use Rattle.std.specs.Prelude.{ℕ, ◌<◌, ◌≡◌, false, List, [], ◌∷◌, eqb}
use Rattle.words.specs.Choice.{pick}
use Rattle.words.specs.Digits.{pixel_number}
use Rattle.settings.specs.declared.Settings.{Settings}
use Rattle.areas.specs.Memory.{Areas}
use Rattle.record.specs.declared.Answer.TheVariants.{Nothing, Open}
use Rattle.record.specs.declared.Reply.{Reply}
use Rattle.rules.specs.Asked.{question7}
use Rattle.rules.specs.Operations.{opening, record_of}
use Rattle.rules.specs.Lists.{State, after}
use Rattle.rules.specs.Calls.{Event, starts, turns, Happened, history, state_after}
use Rattle.rules.specs.Refusals.{Iff}
use Rattle.rules.specs.LastAnswers.{told}

-- the pixel of worker i's newest start that was carried out, after an event with its reply
unfoldable pub pixel_by : ℕ → Event → Reply → ℕ → ℕ
pixel_by i (starts looks j row column) r before = pick (eqb j i) (pick (eqb r.number 0) (pixel_number row column) before) before
pixel_by i (turns j) r before = before

-- after a history
unfoldable pub pixel_told : ℕ → List Happened → ℕ → ℕ
pixel_told i [] before = before
pixel_told i (h ∷ hs) before = pixel_told i hs (pixel_by i h.event h.reply before)

pub record OpenCall (w : ℕ) (x : State) (es : List Event) (i : ℕ) : Type 0 where
  -- a start is refused by 7, and a turn is not by 8, exactly while the history has a call of the worker open
  -- excludes: a machine that idles a worker without an answer; one that answers and leaves the call open
  pub open_told : Iff (question7 (record_of (state_after w es x).areas i) ≡ false) (told i (history w es x) Nothing ≡ Open)
  -- "A call's row is printed .. with the call's pixel."
  -- excludes: a machine whose record has another pixel than its start's, amid a Move or after it
  pub tells_pixel : (record_of (state_after w es x).areas i).head.pixel ≡ pixel_told i (history w es x) 0

-- for every carried out opening, every sequence of starts and turns, and every worker of the table
abbrev pub OpenCalls : ℕ → Settings → Type 0
OpenCalls w s = (a : Areas) → (opening w s a).reply.number ≡ 0 → (es : List Event) (i : ℕ) → i < s.workers → OpenCall w (after (opening w s a)) es i
