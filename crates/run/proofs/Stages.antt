-- The ways through a stage of the run: what is told next leaves the rest of what is to be printed.
-- Relies on the laws of the parts of a text, and on the definition of the run.
use mathlib.Core.Path.{◌≡◌, refl, sym, ap, subst, ◌∙◌}
use mathlib.Core.Bool.{Bool, true, false}
use mathlib.Core.List.{List, [], ◌∷◌}
use Prim.Native.Nat.{ℕ, suc, ◌+◌, ◌-◌, ◌≤◌, ◌<◌}
use native.Mathlib.Numerals.{add-one}
use native.Mathlib.Omega.{arith}
use lib.Dec.{eqb, leb}
use lib.ListN.{length, take, drop, length-drop}
use lib.Seq.{take_all, drop-drop}
use borrow.Author.Tests.{le-leb, lt-leb, leb-true, ne_eqb, lt-ltb}
use Rattle.words.specs.Choice.{pick}
use Rattle.words.proofs.Choice.{true_false, both_left, both_right, both_true}
use Rattle.areas.specs.Memory.{Areas}
use Rattle.record.specs.declared.Reply.{Reply}
use Rattle.rules.specs.Operations.{result_of}
use Rattle.rules.specs.Lists.{State, state}
use Rattle.text.specs.Parts.{split}
use Rattle.text.specs.Commands.{command}
use Rattle.std.specs.Prelude.{Option, Some, None, position}
use Rattle.text.specs.declared.Command.{Command}
use Rattle.text.specs.Cut.{up_to, past, has}
use Rattle.printing.specs.declared.Printed.{Printed}
use Rattle.printing.specs.declared.Printed.TheVariants.{Nothing, Header, Refused, End}
use Rattle.text.proofs.Parts.{split-has, split-none, split-more, past-drop, up_to-take, up_to_shorter}
use Rattle.text.proofs.Ways.{find_some, find_none}
use Rattle.run.specs.declared.Stage.{Stage}
use Rattle.run.specs.declared.Stage.TheVariants.{Begin, TooLong, First, Lines, Last, Done}
use Rattle.run.specs.declared.Progress.{Progress}
use Rattle.run.specs.declared.Told.{Told}
use Rattle.run.specs.declared.Said.{Said}
use Rattle.run.specs.Program.{line, carried, first_line, rest_prints, lines_print, opened_prints, input_prints, prints}
use Rattle.run.specs.Remaining.{progress, told, remaining_at, remaining, left_at, left, counted, can_stand_at, can_stand, Prints, Next, goes_on}

-- the input from byte k on, as the code cuts it
pub rest_cut : (k : ℕ) (l : List ℕ) → take (length l - k) (drop k l) ≡ drop k l
rest_cut k l = take_all (length l - k) (drop k l) (rw length-drop (omega arith))

-- a first line, or a later one, that has its byte 10
inputs_more :
    (q : List ℕ) (ps : List (List ℕ)) (a : Areas) → 1 ≤ length ps → input_prints (q ∷ ps) a ≡ opened_prints (first_line (command q) a) ps
unfolding input_prints
inputs_more q [] a h = absurd (omega arith)
inputs_more q (p ∷ ps) a h = refl

lines_more :
    (n : ℕ) (q : List ℕ) (ps : List (List ℕ)) (x : State) → 1 ≤ length ps
    → lines_print n (q ∷ ps) x ≡ (carried n (command q) x).printed ∷ lines_print (suc n) ps (carried n (command q) x).state'
unfolding lines_print
lines_more n q [] x h = absurd (omega arith)
lines_more n q (p ∷ ps) x h = refl

some_part : (b : ℕ) (l : List ℕ) → 1 ≤ length (split b l)
some_part b l = rw (split-more b l).2 (omega arith)

-- what the test of a later line says
record Counted (p : Progress) (n : ℕ) : Type 0 where
  line : p.line ≤ p.at + 1
  place : p.at ≤ n
  short : n ≤ 65536

counted_is : {p : Progress} {n : ℕ} → Counted p n → counted p n ≡ true
unfolding counted
counted_is h = both_true (le-leb _ _ h.short) (both_true (le-leb _ _ h.place) (le-leb _ _ h.line))

module _ (p : Progress) (n : ℕ) where
  counted_says : counted p n ≡ true → Counted p n
  unfolding counted
  counted_says e =
      let f = both_right (leb n 65536) _ e in
      record { short = leb-true _ _ (both_left _ _ e); place = leb-true _ _ (both_left _ _ f); line = leb-true _ _ (both_right (leb p.at n) _ f) }

module _ (p : Progress) (input : List ℕ) (a : Areas) where
  -- a stage that is known, and what is told
  tells :
      {g : Stage} {b : Areas} {r t : Told}
      → p.stage ≡ g → r ≡ t → remaining_at g p input a ≡ t.printed ∷ remaining t.progress input b → can_stand t.progress input ≡ true
      → left t.progress input < left_at g p input → Prints p input a r b
  tells {g} {b} {r} {t} e f x y z =
      let l : left t.progress input < left p input = subst (λ (h : Stage). left t.progress input < left_at h p input) (sym e) z in
      subst (λ (u : Told). Prints p input a u b) (sym f)
      (record { says = ap (λ (h : Stage). remaining_at h p input a) e ∙ x; stands = y; less = l })

  pub begin_short :
      {r : Told} → r ≡ told Header (progress First p.line p.at p.settings) → p.stage ≡ Begin → length input ≤ 65536 → Prints p input a r a
  unfolding remaining_at left_at can_stand_at prints pick
  begin_short f e h = tells e f (simp (le-leb _ _ h)) (le-leb _ _ h) (omega arith)

  pub begin_long :
      {r : Told} → r ≡ told Header (progress TooLong p.line p.at p.settings) → p.stage ≡ Begin → 65536 < length input → Prints p input a r a
  unfolding remaining_at left_at can_stand_at prints pick
  begin_long f e h = tells e f (simp (lt-leb _ _ h)) (lt-ltb _ _ h) (omega arith)

  pub too_long :
      {r : Told} {y : Printed} → r ≡ told y (progress Done p.line p.at p.settings) → y ≡ Refused 0 10 → p.stage ≡ TooLong → Prints p input a r a
  unfolding remaining_at left_at can_stand_at
  too_long f d e = tells e f (simp d) refl (omega arith)

  pub last_told :
      {r : Told} {x : Printed} → r ≡ told x (progress Done p.line p.at p.settings)
      → x ≡ End p.settings.nodes_taken p.settings.levels_taken → p.stage ≡ Last → Prints p input a r a
  unfolding remaining_at left_at can_stand_at
  last_told f k e = tells e f (simp k) refl (omega arith)

  -- the first line
  pub first_none :
      {r : Told} {y : Printed} {x : Option ℕ} → r ≡ told y (progress Done p.line p.at p.settings) → y ≡ Refused 1 10 → x ≡ position (λ y. eqb y 10) input → x ≡ None
      → p.stage ≡ First → Prints p input a r a
  unfolding remaining_at left_at can_stand_at input_prints
  first_none f d h k e = tells e f (rw (split-none 10 input (find_none 10 input (sym h ∙ k)), d) refl) refl (omega arith)

  pub first_told :
      {r : Reply} {t : Told} {b : Areas} {m : ℕ} {d : Option Command} {x : Option ℕ}
      → t ≡ pick (eqb r.number 0) (told Nothing (progress Lines 2 (m + 1) r.settings)) (told (Refused 1 r.number) (progress Done 2 (m + 1) r.settings))
      → result_of r b ≡ first_line d a → d ≡ command (take m input) → x ≡ position (λ y. eqb y 10) input → x ≡ Some m → p.stage ≡ First
      → length input ≤ 65536 → Prints p input a t b
  unfolding remaining_at left_at can_stand_at opened_prints pick
  first_told {r} {t} {b} {m} f o j k v e h = go (eqb r.number 0) refl
    where
      here : has 10 input ≡ true
      here = (find_some 10 input (sym k ∙ v)).0

      size : m ≡ length (up_to 10 input)
      size = (find_some 10 input (sym k ∙ v)).1

      u : take m input ≡ up_to 10 input
      u = rw size (sym (up_to-take 10 input))

      all : input_prints (split 10 input) a ≡ opened_prints (first_line (command (take m input)) a) (split 10 (drop (m + 1) input))
      all =
          rw (split-has 10 input here)
          (inputs_more (up_to 10 input) (split 10 (past 10 input)) a (some_part 10 (past 10 input))
          ∙ (rw (past-drop 10 input, u, size, add-one) refl))

      go : (z : Bool) → eqb r.number 0 ≡ z → Prints p input a t b
      go true z =
          let s : m < length input = rw size (up_to_shorter 10 input here) in
          tells e (simp z at f) (all ∙ (simp (← j, ← o, z))) (counted_is (record { line = omega arith; place = omega arith; short = h })) (omega arith)
      go false z = tells e (simp z at f) (all ∙ (simp (← j, ← o, z))) refl (omega arith)

  -- a later line
  pub line_told :
      {r : Told} {y : Said} {b : Areas} {l : List ℕ} {m : ℕ} {j : Option Command} {x : Option ℕ}
      → r ≡ told y.printed (progress Lines (p.line + 1) (p.at + m + 1) y.settings)
      → line y.printed (state y.settings b) ≡ carried p.line j (state p.settings a) → j ≡ command (take m l)
      → x ≡ position (λ y. eqb y 10) l → x ≡ Some m → l ≡ drop p.at input → p.stage ≡ Lines → counted p (length input) ≡ true → Prints p input a r b
  unfolding remaining_at left_at can_stand_at
  line_told {r} {y} {b} {l} {m} f o i k v n e h₀ =
      let h : Counted p (length input) = counted_says p (length input) h₀ in
      let rest : List ℕ = drop p.at input in
      let w₀ = find_some 10 (drop p.at input) (ap (λ (l : List ℕ). position (λ y. eqb y 10) l) (sym n) ∙ sym k ∙ v) in
      let here : has 10 (drop p.at input) ≡ true = w₀.0 in
      let size : m ≡ length (up_to 10 (drop p.at input)) = w₀.1 in
      let u : take m l ≡ up_to 10 (drop p.at input) = rw (n, size) (sym (up_to-take 10 rest)) in
      let s : m < length (drop p.at input) = rw size (up_to_shorter 10 rest here) in
      let t : length (drop p.at input) ≡ length input - p.at = length-drop p.at input in
      let z : p.at + suc m ≡ p.at + m + 1 = omega arith in
      let behind : past 10 (drop p.at input) ≡ drop (p.at + m + 1) input =
      past-drop 10 rest ∙ (rw (← size, drop-drop (suc m) p.at input, z) refl)
      in
      let x : State = state p.settings a in
      let w : carried p.line (command (up_to 10 rest)) x ≡ line y.printed (state y.settings b) =
      sym (o ∙ ap (λ (j : Option Command). carried p.line j x) (i ∙ ap command u))
      in
      let all :
      lines_print p.line (split 10 (drop p.at input)) x
      ≡ y.printed ∷ lines_print (p.line + 1) (split 10 (drop (p.at + m + 1) input)) (state y.settings b) =
      rw (split-has 10 rest here)
      (lines_more p.line (up_to 10 rest) (split 10 (past 10 rest)) x (some_part 10 (past 10 rest)) ∙ (rw (w, behind, add-one p.line) refl))
      in
      tells e f all (counted_is (record { line = omega arith; place = omega arith; short = h.short })) (omega arith)

  -- what stands behind the last byte 10
  pub rest_told :
      {r : Told} {k : List ℕ} {x : Option ℕ}
      → r ≡ pick (eqb (length k) 0) (told (End p.settings.nodes_taken p.settings.levels_taken) (progress Done p.line p.at p.settings)) (told (Refused p.line 10) (progress Last p.line p.at p.settings))
      → x ≡ position (λ y. eqb y 10) k → x ≡ None → k ≡ drop p.at input → p.stage ≡ Lines → counted p (length input) ≡ true → Prints p input a r a
  unfolding remaining_at left_at can_stand_at counted rest_prints lines_print pick
  rest_told {r} f w v n e c = go (drop p.at input) refl (split-none 10 (drop p.at input) (find_none 10 (drop p.at input) (rw n at (sym w ∙ v)))) (rw n at f)
    where
      go :
          (l : List ℕ) → drop p.at input ≡ l → split 10 (drop p.at input) ≡ drop p.at input ∷ []
          → r ≡ pick (eqb (length (drop p.at input)) 0) (told (End p.settings.nodes_taken p.settings.levels_taken) (progress Done p.line p.at p.settings)) (told (Refused p.line 10) (progress Last p.line p.at p.settings))
          → Prints p input a r a
      go [] i j g = tells e (rw i at g) (rw (j, i) refl) refl (omega arith)
      go (n ∷ l) i j g = tells e (simp (i, ne_eqb (suc (length l)) 0 (λ z. omega arith)) at g) (rw (j, i) refl) c (omega arith)

  -- one thing is printed where the run goes on and the input allows its progress
  pub next_goes : {g : Stage} {r : Told} {b : Areas} → Prints p input a r b → p.stage ≡ g → goes_on g ≡ true → can_stand p input ≡ true → Next p input a r b
  next_goes x e h s =
      record {
        prints = λ i j. x;
        at_end = λ i. absurd (true_false (sym (ap goes_on e ∙ h) ∙ i));
        nowhere = λ i. absurd (true_false (sym s ∙ i));
      }

  -- and nothing elsewhere
  pub next_done : {r : Told} → r ≡ told Nothing (progress Done p.line p.at p.settings) → p.stage ≡ Done → Next p input a r a
  unfolding goes_on
  next_done f e = record { prints = λ i j. absurd (true_false (sym i ∙ ap goes_on e)); at_end = λ i. (f, refl); nowhere = λ i. (f, refl) }

  pub next_nowhere : {r : Told} → r ≡ told Nothing (progress Done p.line p.at p.settings) → can_stand p input ≡ false → Next p input a r a
  next_nowhere f e = record { prints = λ i j. absurd (true_false (sym j ∙ e)); at_end = λ i. (f, refl); nowhere = λ i. (f, refl) }
