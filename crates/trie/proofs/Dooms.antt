-- A worker is doomed if it is on its way to an exchange of a word that is no longer its level. What each effect does to it.
-- Relies on Digits, Update, Chain, Tree, World, Frame, Evolve, Stand, Search, Move, Whole, TakeNode, TakeLevel and Redirect.
use mathlib.Core.Path.{◌≡◌, refl, sym, ap, ◌∙◌}
use mathlib.Core.Logic.{◌≢◌}
use Prim.Native.Nat.{ℕ, ◌-◌, ◌≤◌}
use native.Mathlib.Decide.{ℕ_discrete}
use native.Mathlib.Omega.{arith}
use Rattle.trie.proofs.Digits.{Dims, digit, digit_lt}
use Rattle.trie.proofs.Update.{ent, nxt, pick, pick_yes, pick_no, upd_c_other, upd_l_other, upd_l_next}
use Rattle.trie.proofs.Chain.{level_ref, EndOf, first, after, end_of}
use Rattle.trie.proofs.Tree.{Published}
use Rattle.trie.proofs.World.{World, last_cell, Structure}
use Rattle.trie.proofs.Frame.{held_away, ends_apart}
use Rattle.trie.proofs.Evolve.{Grows}
use Rattle.trie.proofs.Stand.{Pos, Stand, exchange}
use Rattle.trie.proofs.Search as search
use Rattle.trie.proofs.Search.{Phase, peek, fetch, put, again, level, shut, word, Local}
use Rattle.trie.proofs.Move as move
use Rattle.trie.proofs.Move.{SetOk, Step, gather, aim, set, finish, last-placed}
use Rattle.trie.proofs.Whole.{Act, idle, searching, moving, ActOk, is_idle, is_searching_lem, is_moving_lem}
use Rattle.trie.proofs.TakeNode.{take_node}
use Rattle.trie.proofs.TakeLevel.{take_level}
use Rattle.trie.proofs.Redirect.{redirect}

module _ {δ : Dims} (w : World δ) (K : ℕ) where
  -- 1 if an exchange from H would miss H at the place x
  unfoldable pub missed : ℕ → Pos → ℕ
  missed H x = pick (ℕ_discrete (word w K H x) (level_ref H)) 0 1

  -- a number of a phase, made of whether an exchange now would miss H: of a worker that has read H and will exchange it in a later turn (Take, TakeTail, Level), and in
  -- this one (Put, Append, Close)
  abbrev pub of_phase : (ℕ → ℕ) → (ℕ → ℕ) → Phase → ℕ
  of_phase later now (peek H x) = 0
  of_phase later now (fetch H x) = later (missed H x)
  of_phase later now (put H x n) = now (missed H x)
  of_phase later now (again H x) = 0
  of_phase later now (level H x) = later (missed H x)
  of_phase later now (shut H x G) = now (missed H x)

  -- 1 if the worker is doomed
  abbrev pub doom : Phase → ℕ
  doom p = of_phase (λ o. o) (λ o. o) p

  -- failed and done exchanges of its turn
  abbrev pub fail : Phase → ℕ
  fail p = of_phase (λ o. 0) (λ o. o) p

  abbrev pub succeed : Phase → ℕ
  succeed p = of_phase (λ o. 0) (λ o. 1 - o) p

-- of a worker whose call is for K: a phase of its search, or of setting a node
module _ {δ : Dims} (w : World δ) (g : (w : World δ) → ℕ → Phase → ℕ) (K : ℕ) where
  abbrev pub of_step : Step → ℕ
  of_step gather = 0
  of_step (aim N T) = 0
  of_step (set N p) = g w (w.pixel N) p
  of_step finish = 0

  abbrev pub of_act : Act → ℕ
  of_act idle = 0
  of_act (searching p) = g w K p
  of_act (moving f fs s) = of_step s

abbrev pub dooms : {δ : Dims} → World δ → ℕ → Act → ℕ
dooms w K a = of_act w doom K a

abbrev pub fails : {δ : Dims} → World δ → ℕ → Act → ℕ
fails w K a = of_act w fail K a

abbrev pub succeeds : {δ : Dims} → World δ → ℕ → Act → ℕ
succeeds w K a = of_act w succeed K a

module _ {δ : Dims} (w : World δ) (K H : ℕ) (x : Pos) where
  pub missed-not : word w K H x ≡ level_ref H → missed w K H x ≡ 0
  unfolding missed
  missed-not e = pick_yes (ℕ_discrete (word w K H x) (level_ref H)) 0 1 e

  pub missed_yes : word w K H x ≢ level_ref H → missed w K H x ≡ 1
  unfolding missed
  missed_yes n = pick_no (ℕ_discrete (word w K H x) (level_ref H)) 0 1 n

  pub missed-le : missed w K H x ≤ 1
  missed-le = by (ℕ_discrete (word w K H x) (level_ref H))
    where
      by : Dec (word w K H x ≡ level_ref H) → missed w K H x ≤ 1
      by (yes e) = omega (arith, missed-not e)
      by (no e) = omega (arith, missed_yes e)

-- a word that stays H if it is H
missed_less : {δ : Dims} (w w' : World δ) (K L H : ℕ) (x : Pos) → (word w K H x ≡ level_ref H → word w' L H x ≡ level_ref H) → missed w' L H x ≤ missed w K H x
missed_less w w' K L H x f = by (ℕ_discrete (word w K H x) (level_ref H))
  where
    by : Dec (word w K H x ≡ level_ref H) → missed w' L H x ≤ missed w K H x
    by (yes e) = omega (arith, missed-not w' L H x (f e))
    by (no e) = omega (arith, missed_yes w K H x e, missed-le w' L H x)

-- an effect that leaves the ends of open chains as they were
pub record EndsKept {δ : Dims} (w w' : World δ) : Type 0 where
  pub ends : (g e : ℕ) → Published w.tree g → w.tree.into g e ≡ 0 → w'.cell (last_cell w g e) ≡ w.cell (last_cell w g e)

pub ends_kept_refl : {δ : Dims} (w : World δ) → EndsKept w w
ends_kept_refl w = record { ends = λ g e p z. refl }

module _ {δ : Dims} {w : World δ} (S : Structure w) where
  -- Take, TakeTail
  pub take_keeps_ends : {n : ℕ} → w.node_owner n ≢ 0 → (K r v : ℕ) → EndsKept w (take_node w n K r v)
  take_keeps_ends {n} held K r v = record { ends = λ g e p z. upd_c_other w.cell (nxt n) r (last_cell w g e) (λ q. held_away S g e held (sym q)) }

  -- Level, SetLevel
  pub level_keeps_ends : {G : ℕ} → w.tree.level_owner G ≢ 0 → (H d p v : ℕ) → EndsKept w (take_level w G H d p v)
  level_keeps_ends {G} held H d p v = record { ends = λ g e o z. by g e o (end_of (ent g e) (w.chain g e)) }
    where
      by : (g e : ℕ) → Published w.tree g → EndOf (ent g e) (w.chain g e) → (take_level w G H d p v).cell (last_cell w g e) ≡ w.cell (last_cell w g e)
      by g e o (first q y) = rw y (upd_l_other w.cell G (level_ref G) g e (λ u. held (rw u at o)))
      by g e o (after m i y) = rw y (upd_l_next w.cell G (level_ref G) m)

  -- SetNext, MoveEnd: the end of a closed chain is written
  pub redirect_keeps_ends : {H e : ℕ} → w.tree.into H e ≢ 0 → (r : ℕ) (mv : ℕ → ℕ) → EndsKept w (redirect w H e r mv)
  redirect_keeps_ends {H} {e} c r mv = record { ends = λ g d p z. upd_c_other w.cell (last_cell w H e) r (last_cell w g d) (ends_apart S (λ q. c (rw (← q.0, ← q.1) z))) }

  -- the word at a place where it is H stays
  module _ {w' : World δ} (E : Grows w w') (q : EndsKept w w') where
    stays_H : {P : ℕ → Type 0} {K L H : ℕ} {x : Pos} → L ≡ K → Published w.tree H → Stand w P H (digit δ K (w.tree.depth H)) x → word w K H x ≡ level_ref H → word w' L H x ≡ level_ref H
    stays_H {K = K} {L} {H} {x} l p s e =
        let f = exchange S p (digit_lt δ K (w.tree.depth H)) s e in
        rw (l, E.depth_is H p, word) (ap w'.cell (sym f.last) ∙ q.ends H (digit δ K (w.tree.depth H)) p f.idle ∙ ap w.cell f.last ∙ e)

    pub missed-stays : {P : ℕ → Type 0} {K L H : ℕ} {x : Pos} → L ≡ K → Published w.tree H → Stand w P H (digit δ K (w.tree.depth H)) x → missed w' L H x ≤ missed w K H x
    missed-stays {K = K} {L} {H} {x} l p s = missed_less w w' K L H x (stays_H l p s)

    local_dooms-none : {v K b : ℕ} {p : Phase} → Local w v K b p → doom w' K p ≤ doom w K p
    local_dooms-none (search.peeks s) = omega arith
    local_dooms-none (search.fetches s c u) = missed-stays refl s.path.pub_at s.stand
    local_dooms-none (search.puts s c a b d) = missed-stays refl s.path.pub_at s.stand
    local_dooms-none (search.reads s n) = omega arith
    local_dooms-none (search.levels s c d) = missed-stays refl s.path.pub_at s.stand
    local_dooms-none (search.shuts s c d k) = missed-stays refl s.path.pub_at s.stand

    set-dooms-none : {v N G : ℕ} {p : Phase} → w'.pixel N ≡ w.pixel N → SetOk w v N G p → doom w' (w'.pixel N) p ≤ doom w (w.pixel N) p
    set-dooms-none e (move.set_peeks s) = omega arith
    set-dooms-none e (move.set-puts n s l) = missed-stays e s.path.pub_at s.stand
    set-dooms-none e (move.set_reads s n) = omega arith
    set-dooms-none e (move.set_levels s l d) = missed-stays e s.path.pub_at s.stand
    set-dooms-none e (move.set_shuts s l d k) = missed-stays e s.path.pub_at s.stand

    -- nobody becomes doomed by it
    pub dooms-none : {v K b : ℕ} {a : Act} → ActOk w v K b a → dooms w' K a ≤ dooms w K a
    dooms-none is_idle = omega arith
    dooms-none (is_searching_lem s b l) = local_dooms-none l
    dooms-none (is_moving_lem s b (move.gathers rest k n e a)) = omega arith
    dooms-none (is_moving_lem s b (move.aims pre k n o i a)) = omega arith
    dooms-none (is_moving_lem s b (move.sets {N = N} pre k n t a)) = set-dooms-none (E.pixel_is N (last-placed S pre N k)) t
    dooms-none (is_moving_lem s b (move.finishes k n a)) = omega arith
