-- A Move of a record against the frame that it shows: its count, its last node, one node more or less, and the key that the frames around it give.
-- Relies on what a record shows, and on what a turn reads.
use Prim.Native.Nat.{ℕ, suc, ◌-◌, ◌<◌}
use mathlib.Core.Path.{◌≡◌, refl, sym, ap, ◌∙◌}
use mathlib.Core.Bool.{true}
use mathlib.Core.List.{List, [], ◌∷◌, ◌++◌}
use native.Mathlib.Omega.{arith}
use native.Mathlib.Numerals.{add-one}
use lib.ListN.{length, length-append, length-set}
use lib.Seq.{length-take-le, get_or-take, get_or-append_seam, take-suc-set, take-take, take-append_seam}
use Rattle.words.proofs.Choice.{both_true}
use Rattle.settings.specs.Sizes.{max_limit}
use Rattle.settings.specs.declared.Settings.{Settings}
use Rattle.areas.specs.Memory.{Memory, pixel_at}
use Rattle.record.specs.declared.Head.{Head}
use Rattle.record.specs.declared.Move.{Move}
use Rattle.record.specs.Layout.{new_move}
use Rattle.rules.specs.Heads.{last_node, remember, forget}
use Rattle.rules.specs.Moving.{key_of, home_cell}
use Rattle.rules.specs.Asked.{key_fits, picks_home}
use Rattle.trie.proofs.Update.{ent}
use Rattle.trie.proofs.World.{Structure}
use Rattle.trie.proofs.Move.{Frame, edge, FrameOk, Around, outermost, within, last-placed}
use Rattle.trie.proofs.MoveTurns.{with_nodes}
use Rattle.rules.proofs.Words.{cell_in}
use Rattle.rules.proofs.Matches.{Framed, Frames, none, more}
use Rattle.rules.proofs.Invariant.{WorldOf, Table}
use Rattle.rules.proofs.Reading.{not_free, pixel_reads, entry_cell_lem, picks_in_lem, pixel_fits_lem}

module _ {v : Move} {f : Frame} (on : Framed v f) where
  pub framed_count : length f.nodes ≡ v.count
  framed_count = ap length (sym on.nodes_are) ∙ length-take-le v.count v.nodes (rw on.sized on.count-le)

  -- the last node, where there is one
  module _ (pre : List ℕ) (N : ℕ) (e : f.nodes ≡ pre ++ (N ∷ [])) where
    pub last-count : v.count ≡ suc (length pre)
    last-count = sym framed_count ∙ ap length e ∙ rw length-append (omega arith)

    pub last_is : last_node v ≡ N
    unfolding last_node
    last_is =
        let c = last-count in
        let l : v.count - 1 ≡ length pre = omega arith in
        sym (get_or-take v.count v.nodes (v.count - 1) 0 (omega arith)) ∙ rw (on.nodes_are, e, l) (get_or-append_seam pre N [] 0)

    pub framed_forget : Framed (forget v) (with_nodes f pre)
    unfolding forget
    framed_forget =
        let c = last-count in
        let l : v.count - 1 ≡ length pre = omega arith in
        record {
          home_is = on.home_is;
          child_is = on.child_is;
          nodes_are = sym (take-take (v.count - 1) v.count v.nodes (omega arith)) ∙ rw (on.nodes_are, e, l) (take-append_seam pre (N ∷ []));
          count-le = omega (arith, on.count-le);
          sized = on.sized;
        }

  -- one node more
  pub framed_remember : (n : ℕ) → v.count < max_limit → Framed (remember n v) (with_nodes f (f.nodes ++ (n ∷ [])))
  unfolding remember
  framed_remember n h =
      record {
        home_is = on.home_is;
        child_is = on.child_is;
        nodes_are = rw add-one (take-suc-set v.nodes v.count n (rw on.sized h) ∙ ap (λ l. l ++ (n ∷ [])) on.nodes_are);
        count-le = omega arith;
        sized = length-set v.nodes v.count n ∙ on.sized;
      }

-- a Move that has remembered nothing
pub framed_new : (home child H K : ℕ) → home ≡ H → Framed (new_move home child) (record { home = H; child = child; key = K; nodes = [] })
unfolding new_move
framed_new home child H K e = record { home_is = e; child_is = refl; nodes_are = refl; count-le = omega arith; sized = refl }

pub frames-length : {vs : List Move} {fs : List Frame} → Frames vs fs → length vs ≡ length fs
frames-length none = refl
frames-length (more k ks) = ap suc (frames-length ks)

module _ {w : ℕ} {s₀ s : Settings} {m : Memory} {W : WorldOf w s₀} (T : Table w s₀ s m W) (S : Structure W) where
  -- the key of a Move is that of its frame: the call's pixel, or that of the node that the Move around it sets
  pub key_is : {u K H key G : ℕ} {fs : List Frame} {os : List Move} (h : Head) → h.pixel ≡ K → Around W u K H key G fs → Frames os fs → key_of h os m.nodes ≡ key
  unfolding key_of
  key_is h p (outermost q o d) none = p ∙ sym q
  key_is h p (within pre N k n q i a) (more j js) = ap (pixel_at m.nodes) (last_is j pre N n) ∙ pixel_reads T N (not_free (last-placed S pre N k)) ∙ sym q

  pub key_fits_lem : {u K H key G : ℕ} {fs : List Frame} {os : List Move} → Around W u K H key G fs → Frames os fs → key_fits s os m.nodes ≡ true
  unfolding key_fits
  key_fits_lem (outermost q o d) none = refl
  key_fits_lem (within pre N k n q i a) (more j js) = rw (last_is j pre N n) (pixel_fits_lem T S N (last-placed S pre N k))

  module _ {u K : ℕ} {f : Frame} {fs : List Frame} {ns : List ℕ} {v : Move} {os : List Move} (k : FrameOk W u f ns) (a : Around W u K f.home f.key f.child fs) (on : Framed v f) (js : Frames os fs) where
    -- the entry of the key in the frame's level
    pub home_cell_lem : (h : Head) → h.pixel ≡ K → home_cell w h v os m ≡ cell_in (ent f.home (edge W f))
    unfolding home_cell
    home_cell_lem h p = rw (on.home_is, key_is h p a js) (entry_cell_lem T f.home f.key (not_free k.path.pub_at))

    pub picks_home_lem : picks_home w s v os m ≡ true
    unfolding picks_home
    picks_home_lem = rw on.home_is (both_true (picks_in_lem T S f.home k.path.pub_at) (key_fits_lem a js))
