-- A worker that sets a node: its record beside its clause, where it stands, and a turn of it that writes nothing.
-- Relies on where a worker stands and on turns of a Move that write nothing.
use Prim.Native.Nat.{ℕ, ◌≤◌, ◌<◌, ◌^◌}
use mathlib.Core.Path.{◌≡◌, refl, ap, ◌∙◌}
use mathlib.Core.Logic.{◌≢◌}
use mathlib.Core.Bool.{true}
use mathlib.Core.List.{List, [], ◌∷◌, ◌++◌}
use lib.ListN.{length}
use Rattle.words.specs.Digits.{base, depths}
use Rattle.words.proofs.Choice.{both_true}
use Rattle.settings.specs.Sizes.{level_count}
use Rattle.settings.specs.declared.Settings.{Settings}
use Rattle.areas.specs.Memory.{Memory, level_ref, pixel_at}
use Rattle.record.specs.declared.Kind.TheVariants.{SetRead, SetFollow}
use Rattle.record.specs.declared.Head.{Head}
use Rattle.record.specs.declared.Move.{Move}
use Rattle.record.specs.Layout.{record'}
use Rattle.rules.specs.Heads.{to, last_node}
use Rattle.rules.specs.Steps.{going}
use Rattle.rules.specs.Asked.{pixel_fits, set_entry}
use Rattle.trie.proofs.Stand.{Pos}
use Rattle.trie.proofs.World.{Placed}
use Rattle.trie.proofs.Search.{Phase, again, word}
use Rattle.trie.proofs.Move.{Frame, FrameOk, Around, Setting, SetOk, Step, Moving, set, sets, set_reads, last-placed}
use Rattle.trie.proofs.Measure.{phase}
use Rattle.trie.proofs.Falls.{Falls}
use Rattle.trie.proofs.MoveFalls.{set_falls}
use Rattle.trie.proofs.Dooms.{doom, dooms}
use Rattle.trie.proofs.Advance.{dooming_read}
use Rattle.trie.proofs.Whole.{Worker, ActOk, is_moving_lem, moving, owner}
use Rattle.rules.proofs.Matches.{by_pos, Place, agains, Framed, Frames, more}
use Rattle.rules.proofs.Invariant.{WorldOf, At, TurnOk}
use Rattle.rules.proofs.Reading.{not_free, pixel_reads, pixel_fits_lem}
use Rattle.rules.proofs.Standing.{Standing, picks_ok}
use Rattle.rules.proofs.MoveRecords.{last_is}
use Rattle.rules.proofs.MoveOn.{Next, next_set, reads_on}

-- the record of worker i, whose innermost Move v shows frame f, and its clause: node N is set into level T, at place x
pub record Setter {w : ℕ} {s₀ s : Settings} {m : Memory} {W : WorldOf w s₀} {ws : ℕ → Worker} {i : ℕ} {h : Head} {v : Move} {os : List Move} (a : At w s₀ s m W ws i (record' h (v ∷ os))) (f : Frame) (fs : List Frame) (N : ℕ) (p : Phase) (T : ℕ) (x : Pos) : Type 0 where
  pub on : Framed v f
  pub around_on : Frames os fs
  pub level_is : h.level ≡ T
  pub place : Place h x
  pub small : (ws i).key < base w ^ depths w
  pub since-le : (ws i).since ≤ length W.book
  pub pre : List ℕ
  pub frame : FrameOk W (owner i) f (pre ++ (N ∷ []))
  pub nodes_are : f.nodes ≡ pre ++ (N ∷ [])
  pub setting : Setting W N f.child T x
  pub around : Around W (owner i) (ws i).key f.home f.key f.child fs
  pub act_is : (ws i).act ≡ moving f fs (set N p)
  pub again_last : phase W (again T x) ≤ phase W p

module _ {w : ℕ} {s₀ s : Settings} {m : Memory} {W : WorldOf w s₀} {ws : ℕ → Worker} {i : ℕ} {h : Head} {v : Move} {os : List Move} {a : At w s₀ s m W ws i (record' h (v ∷ os))} {f : Frame} {fs : List Frame} {N T : ℕ} {p : Phase} {x : Pos} (o : Setter a f fs N p T x) where
  -- the node
  pub node_placed : Placed W N
  node_placed = last-placed a.inv.structure o.pre N o.frame

  pub node_last : last_node v ≡ N
  node_last = last_is o.on o.pre N o.nodes_are

  pub standing : Standing W (λ n. Unit {0}) h (pixel_at m.nodes (last_node v)) (W.pixel N) T x
  standing =
      record {
        level_is = o.level_is;
        pixel_is = ap (pixel_at m.nodes) node_last ∙ pixel_reads a.table N (not_free node_placed);
        place = o.place;
        published = o.setting.path.pub_at;
        stand = o.setting.stand;
      }

  -- question 6 of its entry
  pub entry_ok : set_entry w s h (last_node v) m ≡ true
  unfolding set_entry
  entry_ok = both_true (picks_ok a standing) (ap (λ n. pixel_fits s n m.nodes) node_last ∙ pixel_fits_lem a.table a.inv.structure N node_placed)

  -- the theory's clauses of the worker
  pub sets_by : {q : Phase} → SetOk W (owner i) N f.child q → Moving W (owner i) (ws i).key f fs (set N q)
  sets_by k = sets o.pre o.frame o.nodes_are k o.around

  pub acts_by : {s : Step} → Moving W (owner i) (ws i).key f fs s → ActOk W (owner i) (ws i).key (ws i).since (moving f fs s)
  acts_by k = is_moving_lem o.small o.since-le k

  -- a turn that writes nothing
  pub goes_on_lem : {q : Step} {h' : Head} → Falls (level_count w s₀) W W (moving f fs (set N p)) (moving f fs q) → dooms W (ws i).key (moving f fs q) ≡ 0 → Moving W (owner i) (ws i).key f fs q → Next h h' f q → TurnOk w s₀ W ws i (going s h' (v ∷ os) m)
  goes_on_lem l z k n = reads_on a (acts_by k) (rw o.act_is (record { falls = l; dooming = dooming_read (ws i).key z })) n (more o.on o.around_on)

  -- a later phase of setting the node
  pub goes_to_lem : {q : Phase} {h' : Head} → phase W q < phase W p → doom W (W.pixel N) q ≡ 0 → SetOk W (owner i) N f.child q → Next h h' f (set N q) → TurnOk w s₀ W ws i (going s h' (v ∷ os) m)
  goes_to_lem l z k n = goes_on_lem (set_falls a.inv.structure (level_count w s₀) o.frame o.around l) z (sets_by k) n

  -- the word is not T: SetRead or SetFollow is next
  pub goes_again : phase W (again T x) < phase W p → word W (W.pixel N) T x ≢ level_ref T → TurnOk w s₀ W ws i (going s (to (by_pos SetRead SetFollow x) h) (v ∷ os) m)
  goes_again l y = goes_to_lem l refl (set_reads o.setting y) (next_set (again T x) (agains o.level_is o.place))
