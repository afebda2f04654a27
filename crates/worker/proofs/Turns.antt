-- A turn by its kind, in the code: what a kind is that a `match` leaves over, and the turn that the definitions say.
-- Relies on rules for the questions and the turns.
use mathlib.Core.Path.{◌≡◌}
use mathlib.Core.Bool.{Bool, true, false}
use mathlib.Core.List.{[]}
use Prim.Native.Nat.{ℕ, ◌≤◌}
use native.Mathlib.Omega.{arith}
use borrow.Author.Tests.{le-leb}
use Rattle.words.specs.Choice.{pick, both}
use Rattle.settings.specs.declared.Settings.{Settings}
use Rattle.areas.specs.Memory.{Memory}
use Rattle.record.specs.declared.Kind.{Kind}
use Rattle.record.specs.declared.Kind.TheVariants.{Look, Take, Put, Read, Tail, TakeTail, Append, Level, Close, Follow}
use Rattle.record.specs.Kinds.{kind_no}
use Rattle.record.specs.Fits.{viewing}
use Rattle.record.specs.declared.Head.{Head}
use Rattle.record.specs.Layout.{record'}
use Rattle.rules.specs.Acts.{act_by}
use Rattle.rules.specs.Asked.{reads_by, question9}
use Rattle.steps.specs.Tried.{unless_six, unless_nine}
use Rattle.worker.specs.Searching.{is_searching, search_tried}

-- none of a search's kinds, none of a viewer's
pub not_searching :
    (k : Kind) → (k ≡ Look → ⊥) → (k ≡ Take → ⊥) → (k ≡ Put → ⊥) → (k ≡ Read → ⊥) → (k ≡ Tail → ⊥) → (k ≡ TakeTail → ⊥) → (k ≡ Append → ⊥) → (k ≡ Level → ⊥) → (k ≡ Close → ⊥) → (k ≡ Follow → ⊥)
    → is_searching k ≡ false
unfolding is_searching kind_no both
not_searching k a b c d e f g h i j = grind arith

pub not_viewing : (k : Kind) → (k ≡ Look → ⊥) → (k ≡ Read → ⊥) → (k ≡ Tail → ⊥) → (k ≡ Follow → ⊥) → viewing (kind_no k) ≡ true → ⊥
unfolding viewing kind_no pick both
not_viewing k a b c d e = grind arith

-- a turn of a search is the turn that the definitions say
pub search_tried_lem :
    (w : ℕ) (v : Bool) (s : Settings) (h : Head) (m : Memory)
    → 1 ≤ kind_no h.kind → kind_no h.kind ≤ 10
    → search_tried h.kind w v s h m
    ≡ unless_six (reads_by h.kind w s h [] m) s h [] m (unless_nine (question9 s (record' h [])) s h m (act_by h.kind w v s h [] m))
unfolding search_tried is_searching question9 both pick
search_tried_lem w v s h m low high = simp (le-leb _ _ low, le-leb _ _ high)
