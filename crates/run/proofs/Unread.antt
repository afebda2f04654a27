-- Question 10 in exactly its own case, over the whole run.
-- Relies on the operations' numbers: none is 10.
use Prim.Native.Nat.{ℕ, suc}
use mathlib.Core.Path.{◌≡◌, refl, ap}
use mathlib.Core.Logic.{◌≢◌}
use mathlib.Core.Bool.{Bool, true, false}
use mathlib.Core.List.{List, [], ◌∷◌, ◌++◌}
use native.Mathlib.Omega.{arith}
use lib.Dec.{eqb, leb}
use lib.ListN.{length}
use borrow.Author.Tests.{ne_eqb}
use Rattle.words.specs.Choice.{pick}
use Rattle.words.proofs.Choice.{pick-both, pick_false}
use Rattle.settings.specs.Sizes.{fresh}
use Rattle.areas.specs.Memory.{Areas}
use Rattle.record.specs.declared.Answer.{Answer}
use Rattle.record.specs.declared.Answer.TheVariants as answer
use Rattle.rules.specs.Operations.{Result}
use Rattle.rules.specs.Lists.{State, after}
use Rattle.text.specs.Parts.{line_end, split}
use Rattle.text.specs.Commands.{command}
use Rattle.std.specs.Prelude.{Option, Some, None}
use Rattle.text.specs.declared.Command.{Command}
use Rattle.text.specs.declared.Command.TheVariants.{Sizes, Starts, Views, Turns}
use Rattle.printing.specs.declared.Printed.{Printed}
use Rattle.printing.specs.declared.Printed.TheVariants.{Nothing, Refused}
use Rattle.run.specs.Program.{width, most_nodes, start_line, turn_prints, turn_line, carried, first_line, rest_prints, lines_print, opened_prints, input_prints, prints}
use Rattle.run.specs.Unread.{ten_line, ten_lines, reads_first, reads_later, unread_rest, unread_from, unread_input, unread_lines, TenExactly}
use Rattle.run.proofs.Given.{given-not_10, opening-gives, start_gives, turn-gives}

-- a line that is refused by another number
not_ten : (n number : ℕ) → number ≢ 10 → ten_line (Refused n number) ≡ []
unfolding ten_line
not_ten n number h = pick_false _ _ _ (ne_eqb number 10 h)

start-prints : (n number : ℕ) → number ≢ 10 → ten_line (pick (eqb number 0) Nothing (Refused n number)) ≡ []
unfolding ten_line
start-prints n number h = pick-both (λ (p : Printed). ten_line p ≡ []) (eqb number 0) (λ e. refl) (λ e. not_ten n number h)

turn-prints : (n i pixel number : ℕ) (x : Answer) → number ≢ 10 → ten_line (turn_prints n i pixel number x) ≡ []
unfolding ten_line turn_prints
turn-prints n i pixel number answer.Nothing h = not_ten n number h
turn-prints n i pixel number (answer.New m) h = refl
turn-prints n i pixel number (answer.Found m) h = refl
turn-prints n i pixel number answer.Full h = refl
turn-prints n i pixel number answer.Open h = refl
turn-prints n i pixel number answer.Absent h = refl

-- a later line
carried_ten : (n : ℕ) (c : Option Command) (x : State) → ten_line (carried n c x).printed ≡ pick (reads_later c) [] (n ∷ [])
unfolding ten_line carried start_line turn_line reads_later pick
carried_ten n (Some (Sizes workers limit nodes viewers)) x = refl
carried_ten n (Some (Starts i row column)) x = start-prints n _ (given-not_10 (start_gives x.settings.width x.settings false i row column x.areas))
carried_ten n (Some (Views i row column)) x = start-prints n _ (given-not_10 (start_gives x.settings.width x.settings true i row column x.areas))
carried_ten n (Some (Turns i)) x = turn-prints n i _ _ _ (given-not_10 (turn-gives x.settings.width x.settings i x.areas))
carried_ten n None x = refl

rest_ten : (n : ℕ) (p : List ℕ) (x : State) → ten_lines (rest_prints n p x) ≡ unread_rest n p
unfolding ten_lines ten_line rest_prints unread_rest pick
rest_ten n [] x = refl
rest_ten n (b ∷ p) x = refl

lines_ten : (n : ℕ) (ps : List (List ℕ)) (x : State) → ten_lines (lines_print n ps x) ≡ unread_from n ps
unfolding ten_lines lines_print unread_from
lines_ten n [] x = refl
lines_ten n (p ∷ []) x = rest_ten n p x
lines_ten n (p ∷ q ∷ ps) x =
    rw (carried_ten n (command p) x) (ap (λ (l : List ℕ). pick (reads_later (command p)) [] (n ∷ []) ++ l) (lines_ten (suc n) (q ∷ ps) (carried n (command p) x).state'))

-- the first line: refused by 10 where it does not read, by another number, or carried out
opened_ten : (r : Result) (ps : List (List ℕ)) → r.reply.number ≢ 10 → ten_lines (opened_prints r ps) ≡ pick (eqb r.reply.number 0) (unread_from 2 ps) []
unfolding ten_lines ten_line opened_prints pick
opened_ten r ps h = go (eqb r.reply.number 0) refl
  where
    go : (z : Bool) → eqb r.reply.number 0 ≡ z → ten_lines (opened_prints r ps) ≡ pick (eqb r.reply.number 0) (unread_from 2 ps) []
    go true e = simp e (lines_ten 2 ps (after r))
    go false e = simp (e, ne_eqb r.reply.number 10 h)

sizes_not_ten : (workers limit nodes viewers : ℕ) (a : Areas) → (first_line (Some (Sizes workers limit nodes viewers)) a).reply.number ≢ 10
unfolding first_line
sizes_not_ten workers limit nodes viewers a =
    pick-both (λ (r : Result). r.reply.number ≢ 10) (leb nodes most_nodes) (λ e. given-not_10 (opening-gives width (fresh workers limit nodes viewers width) a)) (λ e z. omega arith)

first_ten : (c : Option Command) (ps : List (List ℕ)) (a : Areas) → ten_lines (opened_prints (first_line c a) ps) ≡ pick (reads_first c) (pick (eqb (first_line c a).reply.number 0) (unread_from 2 ps) []) (1 ∷ [])
unfolding reads_first ten_lines ten_line opened_prints first_line pick
first_ten (Some (Sizes workers limit nodes viewers)) ps a = opened_ten (first_line (Some (Sizes workers limit nodes viewers)) a) ps (sizes_not_ten workers limit nodes viewers a)
first_ten (Some (Starts i row column)) ps a = refl
first_ten (Some (Views i row column)) ps a = refl
first_ten (Some (Turns i)) ps a = refl
first_ten None ps a = refl

input_ten : (ps : List (List ℕ)) (a : Areas) → ten_lines (input_prints ps a) ≡ unread_input ps a
unfolding ten_lines ten_line input_prints unread_input pick
input_ten [] a = refl
input_ten (p ∷ []) a = refl
input_ten (p ∷ q ∷ ps) a = first_ten (command p) (q ∷ ps) a

pub ten_exactly : TenExactly
unfolding ten_lines ten_line prints unread_lines pick
ten_exactly input a = go (leb (length input) 65536) refl
  where
    go : (z : Bool) → leb (length input) 65536 ≡ z → ten_lines (prints input a) ≡ unread_lines input a
    go true e = simp e (input_ten (split line_end input) a)
    go false e = simp e
