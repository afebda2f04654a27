-- ChainHead and ChainNext: a Move reads its chain, one node a turn, until the level that it moves to comes.
-- Relies on what a turn reads, and on the theory's reading of a chain.
use Prim.Native.Nat.{ℕ, ◌+◌, ◌≤◌, ◌<◌, ◌^◌}
use mathlib.Core.Path.{◌≡◌, refl, sym, ap, ◌∙◌}
use mathlib.Core.Bool.{Bool, true}
use mathlib.Core.List.Memᴰ
use mathlib.Core.List.{List, [], ◌∷◌, ◌++◌}
use native.Mathlib.Omega.{arith}
use lib.Dec.{leb}
use lib.ListN.{length, length-append}
use borrow.Author.Tests.{le-leb}
use Rattle.words.specs.Choice.{both}
use Rattle.words.proofs.Choice.{pick_true, pick_false, both_true}
use Rattle.words.specs.Digits.{base, depths}
use Rattle.settings.specs.Sizes.{level_count}
use Rattle.settings.specs.declared.Settings.{Settings}
use Rattle.areas.specs.Memory.{Memory, level_ref, node_ref, is_node, named, cell_at, next_at, ref_taken}
use Rattle.record.specs.declared.Kind.TheVariants.{ChainNext}
use Rattle.record.specs.declared.Head.{Head}
use Rattle.record.specs.declared.Move.{Move}
use Rattle.record.specs.Layout.{record'}
use Rattle.rules.specs.Heads.{to, last_node, remember}
use Rattle.rules.specs.Steps.{going}
use Rattle.rules.specs.Moving.{home_cell, set_last, chain_word, chain_head, chain_next}
use Rattle.rules.specs.Asked.{reads_ref, remembers, chain_heads, chain_nexts, reads_by}
use Rattle.rules.specs.Acts.{inner, outer, act_by}
use Rattle.trie.proofs.Update.{ent}
use Rattle.trie.proofs.Lists.{∈-last, snoc_view}
use Rattle.trie.proofs.Chain.{end_cell, end_at}
use Rattle.trie.proofs.World.{Placed}
use Rattle.trie.proofs.Move.{Frame, edge, gather, Moving, gathers, aims}
use Rattle.trie.proofs.MoveTurns.{Gathered, one_more_lem, complete, gather_next, frame_published, with_nodes}
use Rattle.trie.proofs.Reached.{a_level, a_node}
use Rattle.trie.proofs.MoveFalls.{gather_falls, gathered_falls}
use Rattle.trie.proofs.Advance.{dooming_read}
use Rattle.trie.proofs.Whole.{Worker, ActOk, is_moving_lem, moving, owner}
use Rattle.rules.proofs.Words.{shows_at}
use Rattle.rules.proofs.Matches.{Framed, Frames, more, gather_kind}
use Rattle.rules.proofs.Invariant.{WorldOf, At, TurnOk}
use Rattle.rules.proofs.Reading.{not_free, node_ref_lem, level_ref_lem, named_node, node_taken_lem, next_reads, entry_taken, real_taken}
use Rattle.rules.proofs.MoveRecords.{framed_count, last-count, last_is, framed_remember, home_cell_lem, picks_home_lem}
use Rattle.rules.proofs.Turned.{limit_pos, limit_le}
use Rattle.rules.proofs.MoveOn.{last_aims, next_aim, next_gather, reads_on}

-- after a node is remembered the next turn reads that node's next
gather_more : (ns : List ℕ) (n : ℕ) → gather_kind (ns ++ (n ∷ [])) ≡ ChainNext
gather_more [] n = refl
gather_more (m ∷ ns) n = refl

-- what is made of a node, and of a level
chain_node : (s : Settings) (h : Head) (v : Move) (os : List Move) (m : Memory) (n : ℕ) → chain_word s h v os (node_ref n) m ≡ going s (to ChainNext h) (remember n v ∷ os) m
unfolding chain_word
chain_node s h v os m n =
    pick_true (is_node (node_ref n)) (going s (to ChainNext h) (remember (named (node_ref n)) v ∷ os) m) (set_last s h v os m) (node_ref_lem n)
    ∙ ap (λ k. going s (to ChainNext h) (remember k v ∷ os) m) (named_node n)

chain_level : (s : Settings) (h : Head) (v : Move) (os : List Move) (m : Memory) (g : ℕ) → chain_word s h v os (level_ref g) m ≡ set_last s h v os m
unfolding chain_word
chain_level s h v os m g = pick_false (is_node (level_ref g)) (going s (to ChainNext h) (remember (named (level_ref g)) v ∷ os) m) (set_last s h v os m) (level_ref_lem g)

module _ {w : ℕ} {s₀ s : Settings} {m : Memory} {W : WorldOf w s₀} {ws : ℕ → Worker} {i : ℕ} {h : Head} {v : Move} {os : List Move} {f : Frame} {fs : List Frame} (a : At w s₀ s m W ws i (record' h (v ∷ os))) (on : Framed v f) (js : Frames os fs) (now : (ws i).act ≡ moving f fs gather) where
  -- what may stand in the cell after the nodes that are remembered
  abbrev Chain : ℕ → Type 0
  Chain r = Gathered W (owner i) (ws i).key f fs r

  -- there is room for one node more
  room : (n : ℕ) → Moving W (owner i) (ws i).key (with_nodes f (f.nodes ++ (n ∷ []))) fs gather → v.count + 1 ≤ s₀.limit
  room n (gathers rest k l z c) =
      let x = framed_count on in
      let y = length-append (f.nodes ++ (n ∷ [])) rest in
      let u = length-append f.nodes (n ∷ []) in
      omega arith

  -- question 6 of the word that is read
  asks-word : {r : ℕ} → Chain r → both (ref_taken s r) (remembers s v r) ≡ true
  unfolding remembers
  asks-word {r} (one_more_lem n e (gathers rest k l z c)) =
      let placed = (a.inv.structure.homed n f.home (edge W f) (rw k.holds (Memᴰ.append_left rest (∈-last f.nodes n)))).placed in
      let y = room n (gathers rest k l z c) in
      let u = a.table.same.limit_is in
      let fits : v.count + 1 ≤ s.limit = omega arith in
      both_true (real_taken a.table (a_node n e placed)) (pick_true (is_node r) (leb (v.count + 1) s.limit) true (rw e (node_ref_lem n)) ∙ le-leb (v.count + 1) s.limit fits)
  asks-word {r} (complete e N (aims pre k n o j c)) =
      both_true (real_taken a.table (a_level f.child e (frame_published a.inv.structure k))) (pick_false (is_node r) (leb (v.count + 1) s.limit) true (rw e (level_ref_lem f.child)))

  -- what a turn does with it
  turn-word : {r : ℕ} → ((ws i).key < base w ^ depths w) → (ws i).since ≤ length W.book → Moving W (owner i) (ws i).key f fs gather → Chain r → TurnOk w s₀ W ws i (chain_word s h v os r m)
  turn-word small b (gathers rest g l z c) (one_more_lem n e k) =
      let y = room n k in
      let u = limit_le a in
      rw (e, chain_node s h v os m n) (reads_on a (is_moving_lem small b k) (rw now (record { falls = gather_falls a.inv.structure (level_count w s₀) g c n (omega (arith, l, length-append f.nodes rest)); dooming = dooming_read (ws i).key refl })) (next_gather (gather_more f.nodes n)) (more (framed_remember on n (omega arith)) js))
  turn-word small b (gathers rest g l z d) (complete e N (aims pre k n o j c)) =
      let y = last-count on pre N n in
      rw (e, chain_level s h v os m f.child, last_aims s h v os m (λ q. omega arith)) (reads_on a (is_moving_lem small b (aims pre k n o j c)) (rw now (record { falls = gathered_falls a.inv.structure (level_count w s₀) k c (omega (arith, l, length-append f.nodes rest)); dooming = dooming_read (ws i).key refl })) (next_aim v.child on.child_is) (more on js))

  abbrev Mine : Type 0
  Mine = ActOk W (owner i) (ws i).key (ws i).since (moving f fs gather)

  -- the cell is the entry of the frame's level, or the last node's next
  head_word : f.nodes ≡ [] → Mine → (cell_at w m (home_cell w h v os m) ≡ W.cell (end_cell (ent f.home (edge W f)) f.nodes))
  head_word e (is_moving_lem small b (gathers rest k l z c)) =
      ap (cell_at w m) (home_cell_lem a.table a.inv.structure k c on js h a.matches.pixel_is) ∙ shows_at a.table.shows (ent f.home (edge W f)) (entry_taken a.table f.home f.key (not_free k.path.pub_at)) ∙ rw e refl

  chain : Mine → Chain (W.cell (end_cell (ent f.home (edge W f)) f.nodes))
  chain (is_moving_lem small b k) = gather_next a.inv.structure (limit_pos a) k

  next_placed : (pre : List ℕ) (N : ℕ) → f.nodes ≡ pre ++ (N ∷ []) → Mine → Placed W N
  next_placed pre N e (is_moving_lem small b (gathers rest k l z c)) = (a.inv.structure.homed N f.home (edge W f) (rw (k.holds, e) (Memᴰ.append_left rest (∈-last pre N)))).placed

  next_word : (pre : List ℕ) (N : ℕ) → f.nodes ≡ pre ++ (N ∷ []) → Mine → next_at m.nodes (last_node v) ≡ W.cell (end_cell (ent f.home (edge W f)) f.nodes)
  next_word pre N e o =
      ap (next_at m.nodes) (last_is on pre N e) ∙ next_reads a.table N (not_free (next_placed pre N e o)) ∙ ap W.cell (sym (end_at (ent f.home (edge W f)) pre N [])) ∙ ap (λ ns. W.cell (end_cell (ent f.home (edge W f)) ns)) (sym e)

  pub gather_asks : Mine → reads_by (gather_kind f.nodes) w s h (v ∷ os) m ≡ true
  unfolding reads_by chain_heads chain_nexts reads_ref inner outer
  gather_asks (is_moving_lem small b (gathers rest k l z c)) = by f.nodes refl
    where
      o : Mine
      o = is_moving_lem small b (gathers rest k l z c)

      by : (ns : List ℕ) → f.nodes ≡ ns → reads_by (gather_kind ns) w s h (v ∷ os) m ≡ true
      by [] e = both_true (picks_home_lem a.table a.inv.structure k c on js) (rw (head_word e o) (asks-word (chain o)))
      by (n ∷ ns) e =
          let (pre, N, q) = snoc_view (n ∷ ns) (omega arith) in
          both_true (rw (last_is on pre N (e ∙ q)) (node_taken_lem a.table N (not_free (next_placed pre N (e ∙ q) o)))) (rw (next_word pre N (e ∙ q) o) (asks-word (chain o)))

  pub gather_turn : (looks : Bool) → Mine → TurnOk w s₀ W ws i (act_by (gather_kind f.nodes) w looks s h (v ∷ os) m)
  unfolding act_by chain_head chain_next inner outer
  gather_turn looks (is_moving_lem small b k) = by f.nodes refl
    where
      o : Mine
      o = is_moving_lem small b k

      by : (ns : List ℕ) → f.nodes ≡ ns → TurnOk w s₀ W ws i (act_by (gather_kind ns) w looks s h (v ∷ os) m)
      by [] e = rw (head_word e o) (turn-word small b k (chain o))
      by (n ∷ ns) e =
          let (pre, N, q) = snoc_view (n ∷ ns) (omega arith) in
          rw (next_word pre N (e ∙ q) o) (turn-word small b k (chain o))
