-- What an opening leaves alone, and that the settings of a refused one are refused by every operation.
-- Relies on demand 1, and on what a write below the sizes leaves.
use Prim.Native.Nat.{ℕ}
use mathlib.Core.Path.{◌≡◌, refl, sym, subst, ◌∙◌}
use mathlib.Core.Logic.{◌≢◌}
use mathlib.Core.Bool.{Bool}
use mathlib.Core.List.{List, [], ◌∷◌}
use native.Mathlib.Omega.{arith}
use native.Mathlib.Nat.{mul-one}
use Rattle.words.specs.Choice.{Question, asks}
use Rattle.words.proofs.Choice.{pick-both}
use Rattle.settings.specs.declared.Settings.{Settings}
use Rattle.areas.specs.Memory.{Areas, none}
use Rattle.rules.specs.Opening.{opened_areas}
use Rattle.rules.specs.Operations.{Result, unless_refused, opening, opening_questions, start_questions, turn_questions, last_questions}
use Rattle.rules.specs.Lists.{list_questions}
use Rattle.rules.specs.Refusals.{FirstNo, here, later}
use Rattle.rules.specs.Openings.{Keeps, OpeningKeeps, RefusedAlike, RefusedOpenings}
use Rattle.rules.proofs.OneTurn.{refuses-turn}
use Rattle.rules.proofs.ManyTurns.{refuses_list}
use Rattle.rules.proofs.Refused.{refuses-opening, refuses-start, refuses-last}
use Rattle.rules.proofs.ExcessWords.{same_refl, same_level, same_fill}

pub opening_keeps : (w : ℕ) → OpeningKeeps w
unfolding opening unless_refused opened_areas
opening_keeps w s a =
    pick-both (λ (r : Result). Keeps w s a r.areas) _
    (λ e. record { nodes_stay = refl; levels_stay = rw mul-one at (same_level w {n = 1} a.levels 0 none 0 (omega arith)); workers_stay = same_fill a.workers 0 _ 0 (omega arith) })
    (λ e. record { nodes_stay = refl; levels_stay = same_refl _ _; workers_stay = same_refl _ _ })

-- the first no of two questions is that of any list that begins with them
first_two : {n : ℕ} (p q : Question) (qs : List Question) → FirstNo n (p ∷ q ∷ []) → FirstNo n (p ∷ q ∷ qs)
first_two p q qs (here e y) = here e y
first_two p q qs (later y (here e z)) = later y (here e z)
first_two p q qs (later y (later z f)) = elim f [ ]

-- which of the two it is
below_six : {n : ℕ} (b c : Bool) → FirstNo n (asks 1 b ∷ asks 2 c ∷ []) → n ≢ 6
below_six b c (here e y) z = omega arith
below_six b c (later y (here e x)) z = omega arith
below_six b c (later y (later x f)) z = elim f [ ]

-- the settings and areas that it was handed
handed : (w : ℕ) (s : Settings) (a : Areas) (n : ℕ) → n ≢ 0 → (opening w s a).reply.number ≡ n → RefusedAlike w s a n
unfolding opening_questions start_questions turn_questions last_questions list_questions
handed w s a n h e =
    let f = ((refuses-opening w s a).numbered.refusal n h).0 e in
    let six = below_six _ _ f in
    record {
      of_opening = e;
      of_start = λ looks i row column. ((refuses-start w s looks i row column a).numbered.refusal n h).1 (first_two _ _ _ f);
      of_turn = λ i. ((refuses-turn w s i a).numbered.refusal n h).1 (first_two _ _ _ f);
      of_turns = λ l limit. ((refuses_list w s l limit a).refusal n h six).1 (first_two _ _ _ f);
      of_last = λ i. ((refuses-last w s i a).numbered.refusal n h).1 (first_two _ _ _ f);
      not_6 = six;
    }

-- are those that it gives back and leaves
pub refused_openings : (w : ℕ) → RefusedOpenings w
refused_openings w s a n h e =
    let u = ((refuses-opening w s a).unchanged (λ z. h (sym e ∙ z))).0 in
    subst (λ (r : Result). RefusedAlike w r.reply.settings r.areas n) (sym u) (handed w s a n h e)
