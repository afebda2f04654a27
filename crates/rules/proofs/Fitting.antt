-- A record that shows a worker of the invariant fits its layout: the first part of question 6.
-- Relies on what a record shows, on the theory's clauses for the counts and the nesting of Moves.
use Prim.Native.Nat.{ℕ, ◌^◌, ◌-◌, ◌≤◌, ◌<◌}
use mathlib.Core.Path.{◌≡◌, refl, ap, subst, ◌∙◌}
use mathlib.Core.Logic.{◌≢◌}
use mathlib.Core.Bool.{true}
use mathlib.Core.List.{List, [], ◌∷◌}
use native.Mathlib.Omega.{arith}
use lib.ListN.{length}
use Rattle.words.specs.Choice.{pick, both}
use Rattle.words.specs.Digits.{base, depths, max_pixel}
use Rattle.settings.specs.Sizes.{max_moves, views}
use Rattle.settings.specs.declared.Settings.{Settings}
use Rattle.areas.specs.Memory.{Memory}
use Rattle.record.specs.declared.Kind.{Kind}
use Rattle.record.specs.declared.Kind.TheVariants.{ChainHead, ChainNext, SetNext, MoveEnd}
use Rattle.record.specs.Kinds.{kind_no}
use Rattle.record.specs.Layout.{Record}
use Rattle.record.specs.Fits.{on_chain, role_fits, fits_by, fits}
use Rattle.record.proofs.Records.{WellFormed}
use Rattle.trie.proofs.Move as theory
use Rattle.trie.proofs.Move.{Frame, Step, Moving}
use Rattle.trie.proofs.Whole.{Act, Worker, ActOk, is_idle, is_searching_lem, is_moving_lem, owner}
use Rattle.rules.proofs.Dims.{dims}
use Rattle.rules.proofs.Matches.{search_kind, step_kind, gather_kind, Stepped, gathers, aims, sets, finishes, Doing, rests, searches, moves}
use Rattle.rules.proofs.Invariant.{WorldOf, views_same, At}
use Rattle.rules.proofs.KindNumbers.{search_no, step_no}
use Rattle.rules.proofs.FitsCall.{local_counted, set-counted, CountFits, off_chain, search_count, set-count, call_fits_lem, searching_fits}
use Rattle.rules.proofs.FitsMoves.{frames_sized, moves_few, moving_fits_lem}

-- no Move
pub no_moves : (r : Record) → r.moves ≡ [] → WellFormed r
no_moves r n = record { sized = rw n tt; few = rw n (omega arith) }

module _ {w : ℕ} {s₀ s : Settings} {m : Memory} {W : WorldOf w s₀} {ws : ℕ → Worker} {i : ℕ} {r : Record} (a : At w s₀ s m W ws i r) where
  pixel_le : (ws i).key < base w ^ depths w → r.head.pixel ≤ max_pixel
  pixel_le l = omega (arith, a.matches.pixel_is, a.table.width.all)

  -- a step of a Move is on a chain only while it sets a node
  step_count : {u K : ℕ} {f : Frame} {fs : List Frame} {p : Step} → Stepped r.head p → Moving W u K f fs p → CountFits s r.head (step_kind f p)
  unfolding on_chain kind_no pick both
  step_count {f = f} gathers (theory.gathers rest o n q b) = by f.nodes
    where
      by : (ns : List ℕ) → CountFits s r.head (gather_kind ns)
      by [] = off_chain s r.head ChainHead refl
      by (n ∷ ns) = off_chain s r.head ChainNext refl
  step_count (aims e) (theory.aims pre o n q j b) = off_chain s r.head SetNext refl
  step_count (sets d) (theory.sets pre o n c b) = set-count (dims w s₀.limit) s r.head a.table.same.limit_is d (set-counted c)
  step_count finishes (theory.finishes o n b) = off_chain s r.head MoveEnd refl

  -- the kind is one of its worker's
  open_role : {k : Kind} → r.head.kind ≡ k → kind_no k ≢ 0 → role_fits (views s₀ i) (kind_no k) ≡ true
  open_role e z = subst (λ k. kind_no k ≢ 0 → role_fits (views s₀ i) (kind_no k) ≡ true) e a.role.call z

  by_act : {t : Act} → Doing r.head r.moves t → ActOk W (owner i) (ws i).key (ws i).since t → WellFormed r × (fits w (views s₀ i) s r ≡ true)
  unfolding fits fits_by max_moves kind_no pick
  by_act (rests k n) is_idle = (no_moves r n, ap (λ k. fits_by w (views s₀ i) s (kind_no k) r) k ∙ a.role.rest (ap kind_no k))
  by_act (searches {p} k n d) (is_searching_lem small b l) =
      let (x, y) = search_no p in
      let same = a.table.same.limit_is in
      (no_moves r n, ap (λ k. fits_by w (views s₀ i) s (kind_no k) r) k ∙ searching_fits w (views s₀ i) s r (kind_no (search_kind p)) x y (open_role k (λ z. omega arith)) (call_fits_lem s r.head (search_kind p) (pixel_le small) (search_count (dims w s₀.limit) s r.head same d (local_counted l))) n)
  by_act (moves {f} {fs} {s = p} k g c) (is_moving_lem small b l) =
      let S = a.inv.structure in
      let same = a.table.same.limit_is in
      let n : length r.moves ≤ depths w - 1 = moves_few S g l in
      let q = a.table.width.few in
      (record { sized = frames_sized g; few = omega arith }, ap (λ k. fits_by w (views s₀ i) s (kind_no k) r) k ∙ moving_fits_lem S w (views s₀ i) s r refl same g l (open_role k (λ z. omega (arith, step_no f p))) (call_fits_lem s r.head (step_kind f p) (pixel_le small) (step_count c l)))

  -- Moves one inside another are at most depths - 1, and each has room for the nodes it remembers
  pub well_formed : WellFormed r
  well_formed = (by_act a.matches.doing (a.inv.each i).acts).0

  pub fits_ok : fits w (views s i) s r ≡ true
  fits_ok = rw (views_same i a.table.same) (by_act a.matches.doing (a.inv.each i).acts).1
