-- A placing call that starts with no spare node and has all turns to itself: its answer by the pixels placed before, and what it leaves. A viewer's call: its answer.
-- Relies on the run of a call alone and on what is shown from the root.
use Rattle.std.specs.Prelude.{ℕ, suc, ◌<◌, ◌≡◌, ◌⊎◌, Bool, true, false, List, ◌∷◌, ◌++◌}
use Rattle.words.specs.Digits.{pixel_number}
use Rattle.settings.specs.declared.Settings.{Settings}
use Rattle.areas.specs.Memory.{Areas}
use Rattle.record.specs.declared.Answer.TheVariants.{New, Found, Full, Absent}
use Rattle.rules.specs.Asked.{question5, question17, question7}
use Rattle.rules.specs.Operations.{Result, record_of, opening, start}
use Rattle.rules.specs.Lists.{State, after}
use Rattle.rules.specs.Calls.{Event, starts, state_after}
use Rattle.rules.specs.Refusals.{Iff}
use Rattle.rules.specs.Consequences.{Shown}
use Rattle.rules.specs.Alone.{run_alone, alone_turns, turns_of}

-- worker i holds no node
abbrev pub NoSpare : State → ℕ → Type 0
NoSpare x i = (record_of x.areas i).head.held_node ≡ 0

-- pixel p is not placed
abbrev pub NotShown : ℕ → State → ℕ → Type 0
NotShown w x p = (n : ℕ) → ¬ (Shown w x p n)

-- the same pixels are placed, at the same nodes
abbrev pub ShowsSame : ℕ → State → State → Type 0
ShowsSame w x y = (q m : ℕ) → Iff (Shown w y q m) (Shown w x q m)

-- the same, and pixel p at node n
abbrev pub ShowsMore : ℕ → State → State → ℕ → ℕ → Type 0
ShowsMore w x y p n = (q m : ℕ) → Iff (Shown w y q m) (Shown w x q m ⊎ ((q ≡ p) × (m ≡ n)))

-- what the last turn of the call for pixel p, which started in state x, gives and leaves
pub data AnswersAlone (w p : ℕ) (x : State) (r : Result) : Type 0 where
  -- excludes: a call alone that answers "full" or "new" for a placed pixel, or takes a node for it
  finds : (n : ℕ) → Shown w x p n → r.reply.answer ≡ Found n → r.reply.settings.nodes_taken ≡ x.settings.nodes_taken → ShowsSame w x (after r) → AnswersAlone w p x r
  -- excludes: a call alone that leaves out a number, or takes two
  places : NotShown w x p → x.settings.nodes_taken < x.settings.nodes → r.reply.answer ≡ New x.settings.nodes_taken → r.reply.settings.nodes_taken ≡ suc x.settings.nodes_taken → ShowsMore w x (after r) p x.settings.nodes_taken → AnswersAlone w p x r
  -- excludes: a call alone that answers "full" with a node left
  lacks : NotShown w x p → x.settings.nodes_taken ≡ x.settings.nodes → r.reply.answer ≡ Full → r.reply.settings.nodes_taken ≡ x.settings.nodes_taken → ShowsSame w x (after r) → AnswersAlone w p x r

-- the same, and what it leaves its worker: a call may start again as this one did
pub record CallAlone (w i p : ℕ) (x : State) (r : Result) : Type 0 where
  pub answers : AnswersAlone w p x r
  -- excludes: a call alone that leaves a node spare
  pub no_spare : NoSpare (after r) i
  -- excludes: a call whose worker cannot start again
  pub idle : question7 (record_of (after r).areas i) ≡ true

-- for every state x that a sequence reaches, and every placing start in it that is carried out on a worker without a spare node
abbrev pub AnswersStatement : ℕ → Settings → Type 0
AnswersStatement w s =
    (a : Areas) → (opening w s a).reply.number ≡ 0
    → (es : List Event) (i row column : ℕ)
    → (start w (state_after w es (after (opening w s a))).settings false i row column (state_after w es (after (opening w s a))).areas).reply.number ≡ 0
    → NoSpare (state_after w es (after (opening w s a))) i
    → CallAlone w i (pixel_number row column) (state_after w es (after (opening w s a)))
    (run_alone w (alone_turns w s) i (after (start w (state_after w es (after (opening w s a))).settings false i row column (state_after w es (after (opening w s a))).areas)))

-- an idle worker of the table may start a call of its own sort (a viewer looks, another places) for any pixel, in every state that a sequence reaches
abbrev pub StartsStatement : ℕ → Settings → Type 0
StartsStatement w s =
    (a : Areas) → (opening w s a).reply.number ≡ 0
    → (es : List Event) (looks : Bool) (i row column : ℕ) → i < s.workers → question17 s looks i ≡ true → question5 row column ≡ true
    → question7 (record_of (state_after w es (after (opening w s a))).areas i) ≡ true
    → (start w (state_after w es (after (opening w s a))).settings looks i row column (state_after w es (after (opening w s a))).areas).reply.number ≡ 0

-- and a call that has all turns to itself leaves a state that a sequence reaches, so that the next one may follow
abbrev pub ReachesStatement : ℕ → Settings → Type 0
ReachesStatement w s =
    (a : Areas) → (opening w s a).reply.number ≡ 0
    → (es : List Event) (looks : Bool) (i row column : ℕ)
    → (start w (state_after w es (after (opening w s a))).settings looks i row column (state_after w es (after (opening w s a))).areas).reply.number ≡ 0
    → (k : ℕ)
    × (state_after w (es ++ starts looks i row column ∷ turns_of i k) (after (opening w s a))
    ≡ after (run_alone w (alone_turns w s) i (after (start w (state_after w es (after (opening w s a))).settings looks i row column (state_after w es (after (opening w s a))).areas))))

-- what the last turn of a viewer's call for pixel p, which started in state x and has all turns to itself, gives; it leaves settings, nodes and levels (Viewers.ViewersLook)
pub data ViewsAlone (w p : ℕ) (x : State) (r : Result) : Type 0 where
  -- excludes: a viewer's call alone that ends "absent" for a placed pixel, or names another node
  finds : (n : ℕ) → Shown w x p n → r.reply.answer ≡ Found n → ViewsAlone w p x r
  -- excludes: a viewer's call alone that names a node for a pixel that is not placed; one that ends "full" where no node is left
  misses : NotShown w x p → r.reply.answer ≡ Absent → ViewsAlone w p x r

-- for every state x that a sequence reaches, and every looking start in it that is carried out
abbrev pub ViewsStatement : ℕ → Settings → Type 0
ViewsStatement w s =
    (a : Areas) → (opening w s a).reply.number ≡ 0
    → (es : List Event) (i row column : ℕ)
    → (start w (state_after w es (after (opening w s a))).settings true i row column (state_after w es (after (opening w s a))).areas).reply.number ≡ 0
    → ViewsAlone w (pixel_number row column) (state_after w es (after (opening w s a)))
    (run_alone w (alone_turns w s) i (after (start w (state_after w es (after (opening w s a))).settings true i row column (state_after w es (after (opening w s a))).areas)))
