-- The parts in which the code carries out start and last answer. They follow the code's cut and are tied to the operations' definitions
-- by lemmas. Relies on rules for the questions and the operations.
use Rattle.settings.specs.Sizes.{views}
use Rattle.std.specs.Prelude.{Bool, ℕ, List, eqb, ⊤, Result, Ok, Err}
use Rattle.words.specs.Choice.{pick}
use Rattle.words.specs.Digits.{pixel_number}
use Rattle.settings.specs.Cut.{first_three}
use Rattle.settings.specs.declared.Settings.{Settings}
use Rattle.settings.specs.declared.Refusal.{Refusal}
use Rattle.settings.specs.Refusals.{refusal_no}
use Rattle.record.specs.declared.Answer.TheVariants.{Nothing, Open}
use Rattle.record.specs.declared.Reply.{Reply}
use Rattle.record.specs.Layout.{Record, head_at, store_head}
use Rattle.record.specs.Fits.{fits}
use Rattle.rules.specs.Heads.{started}
use Rattle.rules.specs.Asked.{question4, question17, question7}
use Rattle.rules.specs.Operations.{reply}

-- questions 1 to 4 of worker i
unfoldable pub first_four : ℕ → Settings → ℕ → ℕ → ℕ → ℕ → ℕ
first_four w s i n g k = pick (eqb (first_three w s n g k) 0) (pick (question4 s i) 0 4) (first_three w s n g k)

-- questions 17, 6 and 7 of a start
unfoldable pub after_five : ℕ → Settings → Bool → ℕ → Record → ℕ
after_five w s looks i r = pick (question17 s looks i) (pick (fits w (views s i) s r) (pick (question7 r) 0 7) 6) 17

-- the workers' words with the record of a call that starts
unfoldable pub begun : ℕ → ℕ → ℕ → List ℕ → List ℕ
begun i row column k = store_head (started (pixel_number row column) (head_at k i)) 0 i k

-- the reply of a start with this outcome
abbrev pub start_reply : Result ⊤ Refusal → Settings → Reply
start_reply (Ok x) s = reply 0 Open 0 s
start_reply (Err r) s = reply (refusal_no r) Nothing 0 s
