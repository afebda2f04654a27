-- A turn whose exchange fails does and asks what the turn that reads the cell again would, by kind.
-- Relies on the definitions of the kinds.
use Prim.Native.Nat.{ℕ}
use mathlib.Core.Path.{◌≡◌, refl, ap, ◌∙◌}
use mathlib.Core.Bool.{Bool, true, false}
use mathlib.Core.List.{List, [], ◌∷◌}
use lib.Dec.{eqb}
use Rattle.words.specs.Choice.{pick, both}
use Rattle.words.proofs.Choice.{pick-both, pick_false}
use Rattle.settings.specs.declared.Settings.{Settings}
use Rattle.areas.specs.Memory.{Memory, cell_at, is_node, exchange}
use Rattle.areas.specs.declared.Cell.{Cell}
use Rattle.record.specs.declared.Kind.{Kind}
use Rattle.record.specs.declared.Kind.TheVariants.{Put, Read, Append, Close, Follow, SetPut, SetRead, SetAppend, SetClose, SetFollow}
use Rattle.record.specs.declared.Head.{Head}
use Rattle.record.specs.declared.Move.{Move}
use Rattle.record.specs.Kinds.{kind_no}
use Rattle.record.specs.Layout.{record'}
use Rattle.record.specs.Fits.{on_chain, has_node, call_fits, inner_fits, moves_fit, moving_fits, role_fits, fits_by, fits}
use Rattle.rules.specs.Heads.{to, to_level, to_node, ended}
use Rattle.rules.specs.Steps.{Step, expected, exchanging, closed}
use Rattle.rules.specs.Searching as searching
use Rattle.rules.specs.Moving as moving
use Rattle.rules.specs.Acts.{inner, outer, act_by, act}
use Rattle.rules.specs.Asked.{exchanges, stands_at, stands_setting, stands_with, reads_ref, picks_with, puts, reads, appends, closes, follows, follows_ref, set_follows_ref, set_entry, set_looks, set_puts, set_appends, set_closes, set_follows, reads_by, question6}
use Rattle.rules.specs.FailedExchange.{put, append, close, set-put, set-append, set-close, FailedExchange}

-- what is asked of the record, before the exchange and of the word, in the order in which reading again asks it
turned : (f g a b c d : Bool) → f ≡ g → d ≡ c → both f (both (both a b) d) ≡ both b (both g (both a c))
unfolding both
turned f true true b c d y e = rw (y, e) refl
turned f true false true c d y e = rw y refl
turned f true false false c d y e = rw y refl
turned f false a true c d y e = rw y refl
turned f false a false c d y e = rw y refl

plain : (f g a c d : Bool) → f ≡ g → d ≡ c → both f (both a d) ≡ both true (both g (both a c))
unfolding both
plain f g a c d y e = rw (y, e) refl

-- the Moves of two kinds that go on with a node fit alike
moves_alike : (s : Settings) (k j : ℕ) (ms : List Move) → has_node k ≡ has_node j → moves_fit s k ms ≡ moves_fit s j ms
unfolding moves_fit inner_fits
moves_alike s k j [] e = refl
moves_alike s k j (v ∷ ms) e = rw e refl

-- a record fits its layout with either kind
module _ (w : ℕ) (s : Settings) (h : Head) (ms : List Move) where
  abbrev Alike : Kind → Kind → Type 0
  Alike k j = fits w false s (record' (to k h) ms) ≡ fits w false s (record' (to j h) ms)

  put-fits : Alike Put Read
  unfolding fits fits_by role_fits call_fits on_chain kind_no to both pick
  put-fits = refl

  append-fits : Alike Append Follow
  unfolding fits fits_by role_fits call_fits on_chain kind_no to both pick
  append-fits = refl

  close-fits : Alike Close Follow
  unfolding fits fits_by role_fits call_fits on_chain kind_no to both pick
  close-fits = refl

  set-put-fits : Alike SetPut SetRead
  unfolding fits fits_by role_fits call_fits moving_fits on_chain has_node kind_no to both pick
  set-put-fits = rw (moves_alike s 15 16 ms refl) refl

  set-append-fits : Alike SetAppend SetFollow
  unfolding fits fits_by role_fits call_fits moving_fits on_chain has_node kind_no to both pick
  set-append-fits = rw (moves_alike s 18 21 ms refl) refl

  set-close-fits : Alike SetClose SetFollow
  unfolding fits fits_by role_fits call_fits moving_fits on_chain has_node kind_no to both pick
  set-close-fits = rw (moves_alike s 20 21 ms refl) refl

module _ (w : ℕ) (s : Settings) (h : Head) (m : Memory) where
  -- failed, the step is made of the word
  fails : (x : Cell) (b : ℕ) (done : Memory → Step) (failed : ℕ → Memory → Step) → expected h (cell_at w m x) ≡ false → exchanging w h x b done failed m ≡ failed (cell_at w m x) m
  unfolding exchanging exchange expected pick
  fails x b done failed e = simp e

  -- and the word is asked
  asked : (x : Cell) (room : Bool) (asks : ℕ → Bool) → expected h (cell_at w m x) ≡ false → exchanges w h x room asks m ≡ asks (cell_at w m x)
  unfolding exchanges
  asked x room asks e = pick_false _ _ _ e

  -- what is held stays held
  node_set : (v : Move) (os : List Move) (c g word : ℕ) → (moving.set_met s h v os c g word m).record'.head.held_node ≡ h.held_node
  unfolding moving.set_met to_node to_level
  node_set v os c g word = pick-both (λ (z : Head). z.held_node ≡ h.held_node) (is_node word) (λ e. refl) (λ e. refl)

  level-set : (v : Move) (os : List Move) (c g word : ℕ) → (moving.set_met s h v os c g word m).record'.head.held_level ≡ h.held_level
  unfolding moving.set_met to_node to_level
  level-set v os c g word = pick-both (λ (z : Head). z.held_level ≡ h.held_level) (is_node word) (λ e. refl) (λ e. refl)

  node_met : (c g word : ℕ) → (searching.met s h c g word m).record'.head.held_node ≡ h.held_node
  unfolding searching.met searching.met_node ended to_node to_level
  node_met c g word =
      let Held : Step → Type 0 = λ t. t.record'.head.held_node ≡ h.held_node in
      pick-both Held (is_node word) (λ e. pick-both Held (eqb _ h.pixel) (λ q. refl) (λ q. refl)) (λ e. refl)

  level-met : (c g word : ℕ) → (searching.met s h c g word m).record'.head.held_level ≡ h.held_level
  unfolding searching.met searching.met_node ended to_node to_level
  level-met c g word =
      let Held : Step → Type 0 = λ t. t.record'.head.held_level ≡ h.held_level in
      pick-both Held (is_node word) (λ e. pick-both Held (eqb _ h.pixel) (λ q. refl) (λ q. refl)) (λ e. refl)

pub failed_exchange : (w : ℕ) → FailedExchange w
unfolding act act_by question6 reads_by to to_level to_node ended cell_at expected closed stands_at stands_setting stands_with picks_with searching.entry_of searching.placed searching.put searching.append searching.close searching.read searching.read_word searching.follow searching.follow_word searching.met searching.met_node moving.set_cell_of moving.set_node moving.set_put moving.set_append moving.set_close moving.set_read moving.set_read_word moving.set_follow moving.set_follow_word moving.set_met puts reads appends closes follows follows_ref set_follows_ref set_entry set_looks set_puts set_appends set_closes set_follows reads_ref
failed_exchange w looks s h ms m k again x own put e =
    let t = fails w s (to k h) m _ _ _ _ e in
    record {
      acts = t;
      node_held = ap (λ (u : Step). u.record'.head.held_node) t ∙ node_met w s (to k h) m _ _ _;
      level_held = ap (λ (u : Step). u.record'.head.held_level) t ∙ level-met w s (to k h) m _ _ _;
      asks = turned _ _ _ _ _ _ (put-fits w s h ms) (asked w s (to k h) m _ _ _ e);
    }
failed_exchange w looks s h ms m k again x own append e =
    let t = fails w s (to k h) m _ _ _ _ e in
    record {
      acts = t;
      node_held = ap (λ (u : Step). u.record'.head.held_node) t ∙ node_met w s (to k h) m _ _ _;
      level_held = ap (λ (u : Step). u.record'.head.held_level) t ∙ level-met w s (to k h) m _ _ _;
      asks = turned _ _ _ _ _ _ (append-fits w s h ms) (asked w s (to k h) m _ _ _ e);
    }
failed_exchange w looks s h ms m k again x own close e =
    let t = fails w s (to k h) m _ _ _ _ e in
    record {
      acts = t;
      node_held = ap (λ (u : Step). u.record'.head.held_node) t ∙ node_met w s (to k h) m _ _ _;
      level_held = ap (λ (u : Step). u.record'.head.held_level) t ∙ level-met w s (to k h) m _ _ _;
      asks = turned _ _ _ _ _ _ (close-fits w s h ms) (asked w s (to k h) m _ _ _ e);
    }
failed_exchange w looks s h ms m k again x own set-put e =
    let t = fails w s (to k h) m _ _ _ _ e in
    record {
      acts = t;
      node_held = ap (λ (u : Step). u.record'.head.held_node) t ∙ node_set w s (to k h) m (inner ms) (outer ms) _ _ _;
      level_held = ap (λ (u : Step). u.record'.head.held_level) t ∙ level-set w s (to k h) m (inner ms) (outer ms) _ _ _;
      asks = plain _ _ _ _ _ (set-put-fits w s h ms) (asked w s (to k h) m _ _ _ e);
    }
failed_exchange w looks s h ms m k again x own set-append e =
    let t = fails w s (to k h) m _ _ _ _ e in
    record {
      acts = t;
      node_held = ap (λ (u : Step). u.record'.head.held_node) t ∙ node_set w s (to k h) m (inner ms) (outer ms) _ _ _;
      level_held = ap (λ (u : Step). u.record'.head.held_level) t ∙ level-set w s (to k h) m (inner ms) (outer ms) _ _ _;
      asks = turned _ _ _ _ _ _ (set-append-fits w s h ms) (asked w s (to k h) m _ _ _ e);
    }
failed_exchange w looks s h ms m k again x own set-close e =
    let t = fails w s (to k h) m _ _ _ _ e in
    record {
      acts = t;
      node_held = ap (λ (u : Step). u.record'.head.held_node) t ∙ node_set w s (to k h) m (inner ms) (outer ms) _ _ _;
      level_held = ap (λ (u : Step). u.record'.head.held_level) t ∙ level-set w s (to k h) m (inner ms) (outer ms) _ _ _;
      asks = turned _ _ _ _ _ _ (set-close-fits w s h ms) (asked w s (to k h) m _ _ _ e);
    }
