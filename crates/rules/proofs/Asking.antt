-- Question 6 of a turn is answered yes, and the turn keeps the invariant, whatever the kind.
-- Relies on the kinds of searching and moving.
use Prim.Native.Nat.{ℕ}
use mathlib.Core.Path.{◌≡◌, refl}
use mathlib.Core.Bool.{true, false}
use Rattle.words.proofs.Choice.{both_true}
use Rattle.settings.specs.Sizes.{views}
use Rattle.settings.specs.declared.Settings.{Settings}
use Rattle.areas.specs.Memory.{Memory}
use Rattle.record.specs.declared.Kind.{Kind}
use Rattle.record.specs.declared.Kind.TheVariants.{Idle}
use Rattle.record.specs.Layout.{Record}
use Rattle.rules.specs.Acts.{act}
use Rattle.rules.specs.Asked.{reads_by, question6, question7, question9}
use Rattle.trie.proofs.Whole.{Act, idle, searching, moving, Worker}
use Rattle.rules.proofs.Matches.{Doing, rests, searches, moves}
use Rattle.rules.proofs.Invariant.{WorldOf, At, TurnOk}
use Rattle.rules.proofs.Idle.{busy_acts}
use Rattle.rules.proofs.Fitting.{fits_ok}
use Rattle.rules.proofs.SearchTurns.{search_asks, search_turn}
use Rattle.rules.proofs.MovingTurns.{move_asks, move_turn}

idle-reads : (k : Kind) (w : ℕ) (s : Settings) (r : Record) (m : Memory) → k ≡ Idle → reads_by k w s r.head r.moves m ≡ true
unfolding reads_by
idle-reads k w s r m e = rw (e, reads_by) refl

module _ {w : ℕ} {s₀ s : Settings} {m : Memory} {W : WorldOf w s₀} {ws : ℕ → Worker} {i : ℕ} {r : Record} (a : At w s₀ s m W ws i r) where
  pub asks_ok : question6 w (views s i) s r m ≡ true
  unfolding question6
  asks_ok = both_true (fits_ok a) (by a.matches.doing refl)
    where
      by : {x : Act} → Doing r.head r.moves x → (ws i).act ≡ x → reads_by r.head.kind w s r.head r.moves m ≡ true
      by (rests e v) q = idle-reads r.head.kind w s r m e
      by (searches {p = p} e v n) q = search_asks a p q
      by (moves {f} {fs} {s = p} e v n) q = move_asks a f fs p q

  pub turn_ok : question7 r ≡ false → question9 s r ≡ true → TurnOk w s₀ W ws i (act w (views s i) s r m)
  turn_ok b q = by (ws i).act refl
    where
      by : (x : Act) → (ws i).act ≡ x → TurnOk w s₀ W ws i (act w (views s i) s r m)
      by idle e = absurd (busy_acts a.matches b e)
      by (searching p) e = search_turn a (views s i) p e q
      by (moving f fs p) e = move_turn a (views s i) f fs p e
