-- A turn after which the worker moves on: what the record must show of the next step, and what such a turn leaves, with or without a write.
-- Relies on turns that leave the worker what it held, and on what a record shows of a step.
use Prim.Native.Nat.{ℕ}
use mathlib.Core.Path.{◌≡◌, refl, sym, ap}
use mathlib.Core.Logic.{◌≢◌}
use mathlib.Core.List.{List, ◌∷◌}
use lib.Dec.{eqb}
use borrow.Author.Tests.{eq-eqb, ne_eqb}
use Rattle.words.proofs.Choice.{pick_true, pick_false}
use Rattle.settings.specs.Sizes.{level_count}
use Rattle.settings.specs.declared.Settings.{Settings}
use Rattle.areas.specs.Memory.{Memory}
use Rattle.record.specs.declared.Kind.{Kind}
use Rattle.record.specs.declared.Kind.TheVariants.{ChainNext, SetNext, SetTail, MoveEnd}
use Rattle.record.specs.declared.Head.{Head}
use Rattle.record.specs.declared.Move.{Move}
use Rattle.record.specs.Layout.{record'}
use Rattle.rules.specs.Heads.{to, to_level, to_node}
use Rattle.rules.specs.Steps.{going}
use Rattle.rules.specs.Moving.{set_last}
use Rattle.trie.proofs.Update.{upd}
use Rattle.trie.proofs.Evolve.{Grows}
use Rattle.trie.proofs.Stand.{at_node}
use Rattle.trie.proofs.Search.{Phase, peek}
use Rattle.trie.proofs.Move.{Frame, Step, gather, aim, set, finish}
use Rattle.trie.proofs.Advance.{Advance}
use Rattle.trie.proofs.Whole.{moving, Worker, ActOk, owner, Inv}
use Rattle.trie.proofs.Turns.{does}
use Rattle.rules.proofs.Matches.{set_kind, gather_kind, step_kind, node, Phased, peeks, fetches, puts, agains, levels, shuts, Frames, Stepped, gathers, aims, sets, finishes, moves}
use Rattle.rules.proofs.Invariant.{WorldOf, Table, At, TurnOk}
use Rattle.rules.proofs.Turned.{SameCall, call_to, call_level, call_node, place-to, still_moving, acted, stayed}

-- another kind at the same place
phased_to : (k : Kind) {h : Head} {p : Phase} → Phased h p → Phased (to k h) p
unfolding to
phased_to k (peeks l x) = peeks l (place-to k x)
phased_to k (fetches l x) = fetches l (place-to k x)
phased_to k (puts l x) = puts l (place-to k x)
phased_to k (agains l x) = agains l (place-to k x)
phased_to k (levels l x) = levels l (place-to k x)
phased_to k (shuts l x g) = shuts l (place-to k x) g

-- a head that shows the next step of a Move, in the call of another head
pub record Next (h h' : Head) (f : Frame) (p : Step) : Type 0 where
  pub call : SameCall h h'
  pub kind_is : h'.kind ≡ step_kind f p
  pub stepped : Stepped h' p

module _ {h : Head} {f : Frame} where
  pub next_set : {N : ℕ} (p : Phase) → Phased h p → Next h (to (set_kind p) h) f (set N p)
  unfolding to
  next_set p x = record { call = call_to (set_kind p) h; kind_is = refl; stepped = sets (phased_to (set_kind p) x) }

  pub next_aim : {N T : ℕ} (g : ℕ) → g ≡ T → Next h (to_level SetNext g h) f (aim N T)
  unfolding to_level
  next_aim g e = record { call = call_level SetNext g h; kind_is = refl; stepped = aims e }

  pub next_node : {N T : ℕ} (R C : ℕ) → h.level ≡ T → Next h (to_node SetTail R C h) f (set N (peek T (at_node R C)))
  unfolding to_node
  next_node R C e = record { call = call_node SetTail R C h; kind_is = refl; stepped = sets (peeks e (node refl refl)) }

  pub next_end : Next h (to MoveEnd h) f finish
  unfolding to
  next_end = record { call = call_to MoveEnd h; kind_is = refl; stepped = finishes }

  pub next_gather : gather_kind f.nodes ≡ ChainNext → Next h (to ChainNext h) f gather
  unfolding to
  next_gather e = record { call = call_to ChainNext h; kind_is = sym e; stepped = gathers }

-- the node set next, or the Move's end
pub last_aims : (s : Settings) (h : Head) (v : Move) (os : List Move) (m : Memory) → v.count ≢ 0 → set_last s h v os m ≡ going s (to_level SetNext v.child h) (v ∷ os) m
unfolding set_last
last_aims s h v os m z = ap (λ k. going s k (v ∷ os) m) (pick_false (eqb v.count 0) (to MoveEnd h) (to_level SetNext v.child h) (ne_eqb v.count 0 z))

pub last-ends : (s : Settings) (h : Head) (v : Move) (os : List Move) (m : Memory) → v.count ≡ 0 → set_last s h v os m ≡ going s (to MoveEnd h) (v ∷ os) m
unfolding set_last
last-ends s h v os m z = ap (λ k. going s k (v ∷ os) m) (pick_true (eqb v.count 0) (to MoveEnd h) (to_level SetNext v.child h) (eq-eqb v.count 0 z))

module _ {w : ℕ} {s₀ s : Settings} {m : Memory} {W : WorldOf w s₀} {ws : ℕ → Worker} {i : ℕ} {h : Head} {vs : List Move} (a : At w s₀ s m W ws i (record' h vs)) where
  -- the next step of a Move after a write, and after none
  pub moves_on : {f : Frame} {fs : List Frame} {p : Step} {h' : Head} {vs' : List Move} {m' : Memory} (W' : WorldOf w s₀) → Grows W W' → W'.book ≡ W.book → Table w s₀ s m' W' → Inv W' (upd ws i (does (ws i) (moving f fs p))) → Advance (level_count w s₀) W W' (ws i).key (ws i).act (moving f fs p) → Next h h' f p → Frames vs' (f ∷ fs) → TurnOk w s₀ W ws i (going s h' vs' m')
  moves_on {f} {fs} {p} W' E b T I l n k = acted a W' (moving f fs p) still_moving E b T I l n.call (moves n.kind_is k n.stepped)

  pub reads_on : {f : Frame} {fs : List Frame} {p : Step} {h' : Head} {vs' : List Move} → ActOk W (owner i) (ws i).key (ws i).since (moving f fs p) → Advance (level_count w s₀) W W (ws i).key (ws i).act (moving f fs p) → Next h h' f p → Frames vs' (f ∷ fs) → TurnOk w s₀ W ws i (going s h' vs' m)
  reads_on {f} {fs} {p} o l n k = stayed a (moving f fs p) still_moving o l n.call (moves n.kind_is k n.stepped)
