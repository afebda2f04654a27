-- How a mover, which holds of the innermost Move only what a turn needs, stands for a record with all its Moves, and what its methods give. This
-- follows the code's cut and is tied to the definitions of the operations by lemmas. Relies on rules for the turns, on steps for what a method gives.
use Rattle.std.specs.Prelude.{ℕ, suc, ◌+◌, ◌-◌, ◌≤◌, ◌≡◌, Bool, List, [], ◌∷◌, Result, Ok, Err, eqb, ltb, length, set}
use Rattle.words.specs.Choice.{pick}
use Rattle.settings.specs.Sizes.{max_limit}
use Rattle.settings.specs.declared.Refusal.{Refusal}
use Rattle.settings.specs.declared.Settings.{Settings}
use Rattle.settings.specs.Refusals.{refusal_no}
use Rattle.areas.specs.Memory.{Memory}
use Rattle.record.specs.declared.Answer.{Answer}
use Rattle.record.specs.declared.Answer.TheVariants.{Nothing, Open}
use Rattle.record.specs.declared.Move.{Move}
use Rattle.record.specs.Layout.{new_move}
use Rattle.rules.specs.Heads.{last_node}
use Rattle.rules.specs.Steps.{Step, step}
use Rattle.steps.specs.Tried.{Tried, tried, unless_six}
use Rattle.mover.specs.declared.Inner.{Inner}
use Rattle.mover.specs.declared.Mover.{Mover}
use Rattle.mover.specs.declared.Moved.{Moved}

-- what a moving turn gives: its number (0 or 6), answer, settings, and the advanced mover
pub record Gave : Type 0 where
  pub number : ℕ
  pub answer : Answer
  pub settings : Settings
  pub mover : Mover

-- a turn that is done leaves its call open; one that is refused leaves everything
abbrev pub gave : Mover → Settings → Result Moved Refusal → Gave
gave v s (Ok r) = record { number = 0; answer = Open; settings = r.settings; mover = r.mover }
gave v s (Err r) = record { number = refusal_no r; answer = Nothing; settings = s; mover = v }

-- the last node of the Move around the innermost one, 0 where there is none
unfoldable pub outer_node : List Move → ℕ
outer_node [] = 0
outer_node (o ∷ os) = last_node o

-- what a turn needs of the Move a
abbrev pub inner_of : Move → Inner
inner_of a = record { home = a.home; child = a.child; count = a.count; last = last_node a }

-- a is the mover's innermost Move, os are the Moves around it
pub record Around (v : Mover) (a : Move) (os : List Move) : Type 0 where
  pub inner_is : v.inner ≡ inner_of a
  pub count : v.moves ≡ suc (length os)
  pub outer_is : v.outer ≡ outer_node os

-- the Move a once v is what a turn has left of it: it remembers as many nodes as v says, and where these are more, v's last node among them
unfoldable pub move_after : Inner → Move → Move
move_after v a =
    record {
      home = a.home;
      child = a.child;
      count = v.count;
      nodes = pick (ltb a.count v.count) (set a.nodes (v.count - 1) v.last) a.nodes;
    }

-- the Moves after a turn: as many, with the innermost as it is now; one more, which has begun; or one less
unfoldable pub list_after : Mover → Mover → Move → List Move → List Move
list_after v v' a os =
    pick (eqb v'.moves v.moves)
    (move_after v'.inner a ∷ os)
    (pick (ltb v.moves v'.moves) (new_move v'.inner.home v'.inner.child ∷ a ∷ os) os)

pub data Counts (v v' : Mover) : Type 0 where
  as_many : v'.moves ≡ v.moves → Counts v v'
  one_move_more : v'.moves ≡ v.moves + 1 → Counts v v'
  one_less : v'.moves + 1 ≡ v.moves → Counts v v'

abbrev pub moved : Mover → Gave → Move → List Move → Memory → Tried
moved v r a os m = tried r.number (step r.answer r.settings r.mover.head (list_after v r.mover a os) m)

-- a method gives the turn, unless its part of question 6 is answered no; whatever the innermost Move is besides, and whatever the Moves around are.
-- And the Moves' number and the nodes remembered stay within bounds, so that what is stored stays within the record.
pub record Gives (v : Mover) (s : Settings) (m : Memory) (r : Gave) (m' : Memory) (asks : Move → List Move → Bool) (acts : Move → List Move → Step) : Type 0 where
  pub gives : (a : Move) (os : List Move) → Around v a os → moved v r a os m' ≡ unless_six (asks a os) s v.head (a ∷ os) m (tried 0 (acts a os))
  pub counts : Counts v r.mover
  pub most : v.inner.count ≤ max_limit → r.mover.inner.count ≤ max_limit
