-- Number 0 means that an opening or a start was carried out: what it then gave back and left.
-- Relies on the law of an operation that asks first.
use Prim.Native.Nat.{ℕ}
use mathlib.Core.Path.{◌≡◌, refl}
use mathlib.Core.Bool.{Bool}
use Rattle.settings.specs.declared.Settings.{Settings}
use Rattle.areas.specs.Memory.{Areas}
use Rattle.record.specs.declared.Answer.TheVariants.{Nothing, Open}
use Rattle.rules.specs.Opening.{opened_settings, opened_areas}
use Rattle.rules.specs.Operations.{result_of, reply, opening, started_areas, start}
use Rattle.rules.proofs.Questions.{unless_done}

pub opening_done : (w : ℕ) (s : Settings) (a : Areas) → (opening w s a).reply.number ≡ 0 → opening w s a ≡ result_of (reply 0 Nothing 0 (opened_settings s)) (opened_areas w s a)
unfolding opening
opening_done w s a z = unless_done s a _ _ refl z

pub start_done : (w : ℕ) (s : Settings) (looks : Bool) (i row column : ℕ) (a : Areas) → (start w s looks i row column a).reply.number ≡ 0 → start w s looks i row column a ≡ result_of (reply 0 Open 0 s) (started_areas i row column a)
unfolding start
start_done w s looks i row column a z = unless_done s a _ _ refl z
