-- Every number that is printed has at most five digits: what holds of the settings from line to line, and of what each line prints.
-- Relies on rules for the questions, on turns for what a turn keeps, on what a turn answers.
use Prim.Native.Nat.{ℕ, suc, ◌+◌, ◌≤◌, ◌<◌}
use mathlib.Core.Path.{◌≡◌, refl, sym, ap, subst, ◌∙◌}
use mathlib.Core.Bool.{Bool, true, false}
use mathlib.Core.List.{List, [], ◌∷◌}
use native.Mathlib.Omega.{arith}
use native.Mathlib.Decide.{ℕ_discrete}
use lib.Dec.{eqb, leb}
use lib.ListN.{length}
use borrow.Author.Tests.{leb-true, ltb-true, le-leb, eqb-true}
use Rattle.words.specs.Choice.{every}
use Rattle.words.proofs.Choice.{pick-both, both_left, both_right, both_true}
use Rattle.settings.specs.Sizes.{level_count, fresh, views, within, question1, question3}
use Rattle.settings.specs.Cut.{Sized}
use Rattle.settings.specs.declared.Settings.{Settings}
use Rattle.settings.proofs.Laws.{counts_sized}
use Rattle.areas.specs.Memory.{Areas}
use Rattle.record.specs.declared.Answer.{Answer}
use Rattle.record.specs.declared.Answer.TheVariants as answer
use Rattle.rules.specs.Opening.{opened_settings}
use Rattle.rules.specs.Acts.{act}
use Rattle.rules.specs.Asked.{question4}
use Rattle.rules.specs.Operations.{Result, unless_refused, record_of, memory_of, opening, opening_questions, start, turn, turn_questions, taken, full}
use Rattle.rules.specs.Lists.{State, state, after}
use Rattle.rules.proofs.OneTurn.{turn-number, done_number, nine_is_full, turn-refused, refuses-turn}
use Rattle.rules.proofs.TurnAsked.{TurnAsked, turn-asked}
use Rattle.rules.proofs.Refused.{refuses-opening}
use Rattle.rules.proofs.Carried.{opening_done}
use Rattle.rules.proofs.Three.{Three, sizes_stay, three_stays}
use Rattle.text.specs.Parts.{line_end, longer, split}
use Rattle.text.specs.Commands.{command}
use Rattle.std.specs.Prelude.{Option, Some, None}
use Rattle.text.specs.declared.Command.{Command}
use Rattle.text.specs.declared.Command.TheVariants.{Sizes, Starts, Views, Turns}
use Rattle.run.specs.Program.{width, most_nodes, start_line, turn_prints, turn_line, carried, first_line, rest_prints, lines_print, opened_prints, input_prints, prints}
use Rattle.run.specs.Numbers.{Five, FiveCall, Small, AllSmall, NumbersSmall}
use Rattle.run.proofs.Given.{given_most, opening-gives, start_gives, turn-gives}
use Rattle.run.proofs.Answers.{NodeBelow, asked_pixel, act_below}

-- what holds of the settings from line to line: questions 1 and 3
record Sound (s : Settings) : Type 0 where
  one : question1 s ≡ true
  three : question3 s.width s ≡ true

-- a turn: where it is carried out its questions were answered yes, else it keeps the settings
turn_sound : (s : Settings) (i : ℕ) (a : Areas) → Sound s → Sound (turn s.width s i a).reply.settings
unfolding turn_questions every full
turn_sound s i a y = by (ℕ_discrete (turn s.width s i a).reply.number 0) (ℕ_discrete (turn s.width s i a).reply.number 9)
  where
    by : Dec ((turn s.width s i a).reply.number ≡ 0) → Dec ((turn s.width s i a).reply.number ≡ 9) → Sound (turn s.width s i a).reply.settings
    by (yes z) d =
        let all = (refuses-turn s.width s i a).numbered.carried.0 z in
        let x : Three s.width s.workers (state s a) =
        record {
          workers_is = refl;
          one = both_left _ _ all;
          two = both_left _ _ (both_right _ _ all);
          three = both_left _ _ (both_right _ _ (both_right _ _ all));
        }
        in
        let t = three_stays s.width (state s a) i x in
        let r : Settings = (turn s.width s i a).reply.settings in
        record { one = t.one; three = subst (λ v. question3 v r ≡ true) (sym (sizes_stay s.width (state s a) i).width_is) t.three }
    by (no z) (yes e) = rw (nine_is_full s.width s i a e, full) y
    by (no z) (no e) = rw (turn-refused s.width s i a z e) y

-- a start keeps the settings
start_sound : (s : Settings) (looks : Bool) (i row column : ℕ) (a : Areas) → Sound s → Sound (start s.width s looks i row column a).reply.settings
unfolding start unless_refused
start_sound s looks i row column a y = pick-both (λ (r : Result). Sound r.reply.settings) _ (λ e. y) (λ e. y)

-- an opening that is carried out
opening_sound : (workers limit nodes viewers : ℕ) (a : Areas) → (opening width (fresh workers limit nodes viewers width) a).reply.number ≡ 0 → Sound (opening width (fresh workers limit nodes viewers width) a).reply.settings
unfolding opening_questions every question3 within level_count opened_settings fresh
opening_sound workers limit nodes viewers a z =
    rw (opening_done width (fresh workers limit nodes viewers width) a z)
    (record {
      one = both_left _ _ ((refuses-opening width (fresh workers limit nodes viewers width) a).numbered.carried.0 z);
      three = both_true (le-leb 0 nodes (omega arith)) (both_true (le-leb 1 1 (omega arith)) (le-leb 1 (level_count width (fresh workers limit nodes viewers width)) (omega arith)));
    })

-- what that says of the numbers
sized : (s : Settings) → Sound s → Sized s
sized s y = counts_sized s y.one y.three

-- the fields of a call that ended
call_five : (s : Settings) (i : ℕ) (a : Areas) {n : ℕ} → TurnAsked s.width s i a n → FiveCall i (record_of a i).head.pixel
unfolding question4
call_five s i a y =
    let l : i < s.workers = ltb-true _ _ y.four in
    let c : Sized s = sized s (record { one = y.one; three = y.three }) in
    let p : (record_of a i).head.pixel ≤ 16777215 = asked_pixel y in
    (omega arith, omega arith, omega arith)

-- what a turn prints
answer_five : (n i pixel number taken : ℕ) (x : Answer) → Five n → Five number → FiveCall i pixel → taken ≤ 4096 → NodeBelow taken x → Small (turn_prints n i pixel number x)
unfolding Small turn_prints NodeBelow
answer_five n i pixel number taken answer.Nothing l k c t b = (l, k)
answer_five n i pixel number taken (answer.New m) l k c t b = (c, omega arith)
answer_five n i pixel number taken (answer.Found m) l k c t b = (c, omega arith)
answer_five n i pixel number taken answer.Full l k c t b = c
answer_five n i pixel number taken answer.Open l k c t b = tt
answer_five n i pixel number taken answer.Absent l k c t b = c

turn_five : (n : ℕ) (s : Settings) (i : ℕ) (a : Areas) → Five n → Small (turn_prints n i (record_of a i).head.pixel (turn s.width s i a).reply.number (turn s.width s i a).reply.answer)
unfolding taken full Small turn_prints
turn_five n s i a l = by (ℕ_discrete (turn s.width s i a).reply.number 0) (ℕ_discrete (turn s.width s i a).reply.number 9)
  where
    by : Dec ((turn s.width s i a).reply.number ≡ 0) → Dec ((turn s.width s i a).reply.number ≡ 9) → Small (turn_prints n i (record_of a i).head.pixel (turn s.width s i a).reply.number (turn s.width s i a).reply.answer)
    by (yes z) d =
        let y = turn-asked s.width s i a (λ k l h e. omega arith) (sym (turn-number s.width s i a) ∙ z) in
        let c : Sized s = sized s (record { one = y.one; three = y.three }) in
        rw (done_number s.width s i a z, taken)
        (answer_five n i (record_of a i).head.pixel 0 s.nodes_taken (act s.width (views s i) s (record_of a i) (memory_of a)).answer l (omega arith) (call_five s i a y) (omega arith) (act_below y))
    by (no z) (yes e) =
        let y = turn-asked s.width s i a (λ k l h d. omega arith) (sym (turn-number s.width s i a) ∙ e) in
        rw (nine_is_full s.width s i a e, full) (call_five s i a y)
    by (no z) (no e) =
        let b = given_most (turn-gives s.width s i a) in
        rw (ap (λ (r : Result). r.reply.answer) (turn-refused s.width s i a z e)) (l, omega arith)

-- a later line: what it prints, and the settings that it leaves
carried_five : (n : ℕ) (c : Option Command) (x : State) → Five n → Small (carried n c x).printed
unfolding Small carried start_line turn_line
carried_five n (Some (Sizes workers limit nodes viewers)) x l = (l, omega arith)
carried_five n (Some (Starts i row column)) x l = let b = given_most (start_gives x.settings.width x.settings false i row column x.areas) in pick-both Small _ (λ e. tt) (λ e. (l, omega arith))
carried_five n (Some (Views i row column)) x l = let b = given_most (start_gives x.settings.width x.settings true i row column x.areas) in pick-both Small _ (λ e. tt) (λ e. (l, omega arith))
carried_five n (Some (Turns i)) x l = turn_five n x.settings i x.areas l
carried_five n None x l = (l, omega arith)

carried_sound : (n : ℕ) (c : Option Command) (x : State) → Sound x.settings → Sound (carried n c x).state'.settings
unfolding carried start_line turn_line
carried_sound n (Some (Sizes workers limit nodes viewers)) x y = y
carried_sound n (Some (Starts i row column)) x y = start_sound x.settings false i row column x.areas y
carried_sound n (Some (Views i row column)) x y = start_sound x.settings true i row column x.areas y
carried_sound n (Some (Turns i)) x y = turn_sound x.settings i x.areas y
carried_sound n None x y = y

-- the lines from line n on
rest_five : (n : ℕ) (p : List ℕ) (x : State) → Five n → Sound x.settings → AllSmall (rest_prints n p x)
unfolding AllSmall Small rest_prints
rest_five n [] x l y = let c : Sized x.settings = sized x.settings y in ((omega arith, omega arith), tt)
rest_five n (b ∷ p) x l y =
    let c : Sized x.settings = sized x.settings y in
    ((l, omega arith), ((omega arith, omega arith), tt))

lines_five : (n : ℕ) (ps : List (List ℕ)) (x : State) → Five (n + length ps) → Sound x.settings → AllSmall (lines_print n ps x)
unfolding AllSmall lines_print
lines_five n [] x l y = tt
lines_five n (p ∷ []) x l y = rest_five n p x (omega arith) y
lines_five n (p ∷ q ∷ ps) x l y =
    (carried_five n (command p) x (omega arith), lines_five (suc n) (q ∷ ps) (carried n (command p) x).state' (omega arith) (carried_sound n (command p) x y))

-- the first line
first-number : (c : Option Command) (a : Areas) → (first_line c a).reply.number ≤ 17
unfolding first_line
first-number (Some (Sizes workers limit nodes viewers)) a =
    let b = given_most (opening-gives width (fresh workers limit nodes viewers width) a) in
    pick-both (λ (r : Result). r.reply.number ≤ 17) (leb nodes most_nodes) (λ e. omega arith) (λ e. omega arith)
first-number (Some (Starts i row column)) a = omega arith
first-number (Some (Views i row column)) a = omega arith
first-number (Some (Turns i)) a = omega arith
first-number None a = omega arith

first_sound : (c : Option Command) (a : Areas) → (first_line c a).reply.number ≡ 0 → Sound (first_line c a).reply.settings
unfolding first_line
first_sound (Some (Sizes workers limit nodes viewers)) a z =
    pick-both (λ (r : Result). r.reply.number ≡ 0 → Sound r.reply.settings) (leb nodes most_nodes) (λ e. opening_sound workers limit nodes viewers a) (λ e d. absurd (omega arith)) z
first_sound (Some (Starts i row column)) a z = absurd (omega arith)
first_sound (Some (Views i row column)) a z = absurd (omega arith)
first_sound (Some (Turns i)) a z = absurd (omega arith)
first_sound None a z = absurd (omega arith)

opened_five : (r : Result) (ps : List (List ℕ)) → r.reply.number ≤ 17 → (r.reply.number ≡ 0 → Sound r.reply.settings) → Five (2 + length ps) → AllSmall (opened_prints r ps)
unfolding AllSmall Small opened_prints
opened_five r ps b y l =
    pick-both AllSmall (eqb r.reply.number 0) (λ e. (tt, lines_five 2 ps (after r) l (y (eqb-true _ _ e)))) (λ e. ((omega arith, omega arith), tt))

input_five : (ps : List (List ℕ)) (a : Areas) → Five (1 + length ps) → AllSmall (input_prints ps a)
unfolding AllSmall Small input_prints
input_five [] a l = tt
input_five (p ∷ []) a l = ((omega arith, omega arith), tt)
input_five (p ∷ q ∷ ps) a l = opened_five (first_line (command p) a) (q ∷ ps) (first-number (command p) a) (first_sound (command p) a) (omega arith)

-- there are no more parts than bytes, and one
parts_few : (b : ℕ) (l : List ℕ) → length (split b l) ≤ length l + 1
unfolding split longer
parts_few b [] = omega arith
parts_few b (x ∷ l) =
    let h : length (split b l) ≤ length l + 1 = parts_few b l in
    pick-both (λ (ps : List (List ℕ)). length ps ≤ length (x ∷ l) + 1) (eqb x b) (λ e. omega arith) (λ e. longer_few (split b l) h)
  where
    longer_few : (ps : List (List ℕ)) → length ps ≤ length l + 1 → length (longer x ps) ≤ length (x ∷ l) + 1
    longer_few [] h = omega arith
    longer_few (p ∷ ps) h = omega arith

pub numbers_small : NumbersSmall
unfolding AllSmall Small prints
numbers_small input a =
    let f : length (split line_end input) ≤ length input + 1 = parts_few line_end input in
    (tt, pick-both AllSmall (leb (length input) 65536) (λ e. let h : length input ≤ 65536 = leb-true _ _ e in input_five (split line_end input) a (omega arith)) (λ e. ((omega arith, omega arith), tt)))
