-- The turns of a Move: what each makes of the moving worker's clause.
-- Relies on Digits, Update, Lists, Chain, Tree, World, Read, Evolve, Frame, Stand, Close, Redirect, MoveOne, TakeLevel, Search and Move.
use mathlib.Core.Path.{◌≡◌, refl, sym, ap, ◌∙◌}
use mathlib.Core.Logic.{◌≢◌}
use mathlib.Core.List.Memᴰ
use mathlib.Core.List.{List, [], ◌∷◌, ◌++◌, append-nil, append_assoc}
use Prim.Native.Nat.{ℕ, suc, ◌+◌, ◌*◌, ◌≤◌, ◌<◌}
use native.Mathlib.Decide.{ℕ_discrete}
use native.Mathlib.Omega.{arith}
use lib.ListN.{length}
use Rattle.trie.proofs.Digits.{Dims, top, digit, digit_lt, top-suc, share_less}
use Rattle.trie.proofs.Update.{ent, upd_same, upd_other, upd_c_same, upd₂_same, upd_l_in, upd_l_next}
use Rattle.trie.proofs.Lists.{◌∈◌, ∈-last, snoc_view, no_length}
use Rattle.trie.proofs.Chain.{level_ref, node_ref, end_cell, Links, links_next}
use Rattle.trie.proofs.Tree.{Published, Inside, here, OnPath, inside_pub, closed_depth, path_down}
use Rattle.trie.proofs.World.{World, Placed, last_cell, to_level_lem, Structure, Partition, Deep}
use Rattle.trie.proofs.Read.{home_path, inside_child, go_back, back_is, exchange_next}
use Rattle.trie.proofs.Evolve.{path_stays, level-stays}
use Rattle.trie.proofs.Frame.{one_slot}
use Rattle.trie.proofs.Stand.{Pos, at_entry, at_node, passed, more, more_ok, Stand, on_entry, on_node, exchange, Met, met_node_lem, met-level, meets}
use Rattle.trie.proofs.Close.{close, CanClose, close_grows, close_structure}
use Rattle.trie.proofs.Redirect.{redirect, CanRedirect, redirect_grows, redirect_structure}
use Rattle.trie.proofs.MoveOne.{move_one, CanMove, move_grows, move_structure, at_source, elsewhere}
use Rattle.trie.proofs.TakeLevel.{take_level, level_grows, level_structure}
use Rattle.trie.proofs.Search.{peek, put, again, level, shut, word, Blank, Local, shuts, absent, shut_done}
use Rattle.trie.proofs.Move.{Frame, edge, FrameOk, Around, outermost, within, Setting, set_peeks, set-puts, set_reads, set_levels, set_shuts, gather, aim, set, finish, Moving, gathers, aims, sets, finishes, last_in, last-placed, last_cell_lem, Keeps, frame-stays, around-stays, setting_stays}

-- the last node of a frame lies on the child's path
pub child_path : {δ : Dims} {w : World δ} (S : Structure w) (pre : List ℕ) (N : ℕ) {v : ℕ} {f : Frame} → FrameOk w v f (pre ++ (N ∷ [])) → OnPath w.tree (w.pixel N) f.child
child_path {δ} {w} S pre N {v} {f} k =
    let (o, e) = home_path S (last_in S pre N k) in
    let z : w.tree.into f.home (edge w f) ≢ 0 = λ y. k.real (sym k.leads ∙ y) in
    rw (← e, k.leads) at (path_down S.tree_ok o (rw (← e) z))

-- Close of the search done: the Move begins
pub shut_moves : {δ : Dims} {w : World δ} (S : Structure w) (Q : Partition w) {v K b H G : ℕ} {x : Pos} (z : v ≢ 0) (l : Local w v K b (shut H x G)) (q : word w K H x ≡ level_ref H) → Moving (close w H (digit δ K (w.tree.depth H)) G v) v K (record { home = H; child = G; key = K; nodes = [] }) [] gather
unfolding Deep
shut_moves {δ} {w} S Q {v} {K} {b} {H} {G} {x} z (shuts s c d k) q =
    let e = digit δ K (w.tree.depth H) in
    let (can, full) = shut_done S Q {b = b} z (shuts s c d k) q in
    let E = close_grows S can v in
    let bound = S.tree_ok.bounded H s.path.pub_at in
    gathers (w.chain H e)
    (record {
      path = path_stays E s.path;
      leads = upd₂_same w.tree.into H e G;
      real = λ y. can.held (ap w.tree.level_owner y ∙ S.tree_ok.root);
      mine = upd_same w.mover G v;
      holds = refl;
    })
    full (upd_c_same w.cell (last_cell w H e) (level_ref G))
    (outermost refl
    (record { pub_at = upd_same w.tree.level_owner G 0; lies = k.pfx_is ∙ ap (λ t. t * δ.base + e) s.path.lies ∙ sym (top-suc δ K (w.tree.depth H) bound) ∙ ap (top δ K) (sym k.depth_is) })
    (λ n p y. absurd (absent S Q s q n p y)))

-- a Move's read: the next node of the chain, or the chain is known
pub data Gathered {δ : Dims} (w : World δ) (v K : ℕ) (f : Frame) (fs : List Frame) (r : ℕ) : Type 0 where
  one_more_lem : (m : ℕ) → r ≡ node_ref m → Moving w v K (record { home = f.home; child = f.child; key = f.key; nodes = f.nodes ++ (m ∷ []) }) fs gather → Gathered w v K f fs r
  complete : r ≡ level_ref f.child → (N : ℕ) → Moving w v K f fs (aim N f.child) → Gathered w v K f fs r

pub gather_next : {δ : Dims} {w : World δ} (S : Structure w) {v K : ℕ} {f : Frame} {fs : List Frame} → 0 < δ.limit → Moving w v K f fs gather → Gathered w v K f fs (w.cell (end_cell (ent f.home (edge w f)) f.nodes))
gather_next {δ} {w} S {v} {K} {f} {fs} pos (gathers rest k n e a) = by rest k n
  where
    at : edge w f < δ.base
    at = digit_lt δ f.key (w.tree.depth f.home)

    links : Links w.cell (ent f.home (edge w f)) (w.chain f.home (edge w f))
    links = (S.slot f.home (edge w f) k.path.pub_at at).links

    by : (rest : List ℕ) → FrameOk w v f (f.nodes ++ rest) → length (f.nodes ++ rest) ≡ δ.limit → Gathered w v K f fs (w.cell (end_cell (ent f.home (edge w f)) f.nodes))
    by [] k n =
        let is : w.chain f.home (edge w f) ≡ f.nodes = k.holds ∙ append-nil f.nodes in
        let (pre, N, s) = snoc_view f.nodes (omega (arith, ap length (append-nil f.nodes))) in
        let k' : FrameOk w v f (pre ++ (N ∷ [])) = record { path = k.path; leads = k.leads; real = k.real; mine = k.mine; holds = is ∙ s } in
        complete (ap (λ ns. w.cell (end_cell (ent f.home (edge w f)) ns)) (sym is) ∙ e) N (aims {N = N} {T = f.child} pre k' s (child_path S pre N k') (here refl) a)
    by (m ∷ rest) k n =
        let r : f.nodes ++ m ∷ rest ≡ (f.nodes ++ (m ∷ [])) ++ rest = rw append_assoc refl in
        one_more_lem m (links_next w.cell (ent f.home (edge w f)) f.nodes m rest (rw k.holds at links))
        (gathers rest (record { path = k.path; leads = k.leads; real = k.real; mine = k.mine; holds = k.holds ∙ r }) (ap length (sym r) ∙ n) e a)

-- the end of the frame's chain may be pointed to a level inside the child
pub can_aim : {δ : Dims} {w : World δ} (S : Structure w) {v : ℕ} {f : Frame} {T : ℕ} (pre : List ℕ) (N : ℕ) → FrameOk w v f (pre ++ (N ∷ [])) → Inside w.tree f.child T → CanRedirect w f.home (edge w f) (level_ref T)
can_aim {δ} {w} S {v} {f} {T} pre N k i =
    record {
      level = k.path.pub_at;
      at = digit_lt δ f.key (w.tree.depth f.home);
      closed = λ y. k.real (sym k.leads ∙ y);
      inside = to_level_lem T refl (rw k.leads i);
      straight = λ t c q. absurd (Memᴰ.not-nil (rw c at (last_in S pre N k)));
    }

-- an open chain is not the one that the frame moves
open_apart : {δ : Dims} {w : World δ} {v : ℕ} {f : Frame} {ns : List ℕ} → FrameOk w v f ns → (T d : ℕ) → w.tree.into T d ≡ 0 → ¬ ((T ≡ f.home) × (d ≡ edge w f))
open_apart k T d z x = k.real (sym k.leads ∙ rw (← x.1, ← x.0) z)

-- what SetRead and SetFollow come to: another node; or a level, from which going back leads to the child
pub data SetNext {δ : Dims} (w : World δ) (v K : ℕ) (f : Frame) (fs : List Frame) (N T : ℕ) (x : Pos) : Type 0 where
  set_on : (R : ℕ) → word w (w.pixel N) T x ≡ node_ref R → Placed w R → Moving w v K f fs (set N (peek T (at_node R (more δ (passed x))))) → SetNext w v K f fs N T x
  set_down : (t c : ℕ) → word w (w.pixel N) T x ≡ level_ref t → Published w.tree t → ((p : ℕ → ℕ) → ((g : ℕ) → Published w.tree g → p g ≡ w.tree.prev g) → (k : ℕ) → w.tree.depth t ≤ w.tree.depth T + k → go_back p k T t ≡ c) → (x ≡ at_entry → t ≡ c) → w.tree.depth T < w.tree.depth c → Moving w v K f fs (aim N c) → SetNext w v K f fs N T x

-- SetPut, SetAppend done: the node may go to T
pub put_can : {δ : Dims} {w : World δ} (S : Structure w) {v : ℕ} {f : Frame} {N T : ℕ} {x : Pos} (pre : List ℕ) → FrameOk w v f (pre ++ (N ∷ [])) → Setting w N f.child T x → passed x < δ.limit → word w (w.pixel N) T x ≡ level_ref T → CanMove w f.home (edge w f) pre N T (digit δ (w.pixel N) (w.tree.depth T))
put_can {δ} {w} S {v} {f} {N} {T} {x} pre k s l q =
    let d = digit δ (w.pixel N) (w.tree.depth T) in
    let r = exchange S s.path.pub_at (digit_lt δ (w.pixel N) (w.tree.depth T)) s.stand q in
    record {
      from = k.path.pub_at;
      from_at = digit_lt δ f.key (w.tree.depth f.home);
      closed = λ y. k.real (sym k.leads ∙ y);
      last = k.holds;
      level = s.path.pub_at;
      at = digit_lt δ (w.pixel N) (w.tree.depth T);
      idle = r.idle;
      inside = rw k.leads s.inside;
      room = rw (← r.count) l;
      aims = s.aimed;
      prefix = top-suc δ (w.pixel N) (w.tree.depth T) (S.tree_ok.bounded T s.path.pub_at) ∙ ap (λ t. t * δ.base + d) (sym s.path.lies);
    }

abbrev pub with_nodes : Frame → List ℕ → Frame
with_nodes f ns = record { home = f.home; child = f.child; key = f.key; nodes = ns }

-- after a node has moved: the chain is empty, or its last node is next
pub data AfterMove {δ : Dims} (w : World δ) (v K : ℕ) (f : Frame) (fs : List Frame) (pre : List ℕ) : Type 0 where
  emptied : pre ≡ [] → Moving w v K (with_nodes f pre) fs finish → AfterMove w v K f fs pre
  next_one : (N : ℕ) → Moving w v K (with_nodes f pre) fs (aim N f.child) → AfterMove w v K f fs pre

-- the child of a frame is published
pub frame_published : {δ : Dims} {w : World δ} (S : Structure w) {v : ℕ} {f : Frame} {ns : List ℕ} → FrameOk w v f ns → Published w.tree f.child
frame_published {δ} {w} S {v} {f} k = rw k.leads at (S.tree_ok.closed f.home (edge w f) (λ y. k.real (sym k.leads ∙ y))).to

-- SetClose done: the chain of T may be closed, and has all its nodes
pub shut_can : {δ : Dims} {w : World δ} (S : Structure w) {v N G T M : ℕ} {x : Pos} → v ≢ 0 → Setting w N G T x → passed x ≡ δ.limit → suc (w.tree.depth T) < δ.depths → Blank w v (w.pixel N) T M → word w (w.pixel N) T x ≡ level_ref T → CanClose w T (digit δ (w.pixel N) (w.tree.depth T)) M × (length (w.chain T (digit δ (w.pixel N) (w.tree.depth T))) ≡ δ.limit)
shut_can {δ} {w} S {v} {N} {G} {T} z s c b k q =
    let r = exchange S s.path.pub_at (digit_lt δ (w.pixel N) (w.tree.depth T)) s.stand q in (
      record {
        level = s.path.pub_at;
        at = digit_lt δ (w.pixel N) (w.tree.depth T);
        idle = r.idle;
        held = λ y. z (sym k.mine ∙ y);
        prev_is = k.prev_is;
        depth_is = k.depth_is;
        pfx_is = k.pfx_is;
        not_deepest = b;
        blank = λ e l. k.entries e;
      },
      sym r.count ∙ c,
    )

module _ {δ : Dims} {w : World δ} (S : Structure w) (Q : Partition w) {v K : ℕ} {f : Frame} {fs : List Frame} where
  -- SetNext: the node's next is T, and it is looked for a place there
  pub aim_set : {N T : ℕ} → Moving w v K f fs (aim N T) → Moving (redirect w f.home (edge w f) (level_ref T) w.mover) v K f fs (set N (peek T at_entry))
  aim_set {N} {T} (aims pre k n o i a) =
      let can = can_aim S pre N k i in
      let E = redirect_grows S can w.mover in
      let S' = redirect_structure S can w.mover in
      let same : (h : Frame) → Keeps w (redirect w f.home (edge w f) (level_ref T) w.mover) h = λ h. record { chain_is = refl; mover_is = refl } in
      sets {N = N} pre (frame-stays E S S' (same f) k) n
      (set_peeks (record { path = path_stays E o; inside = level-stays E i; aimed = ap (redirect w f.home (edge w f) (level_ref T) w.mover).cell (sym (last_cell_lem S pre N k)) ∙ upd_c_same w.cell (last_cell w f.home (edge w f)) (level_ref T); stand = on_entry; counted = tt }))
      (around-stays E S S' (λ h ns j l. same h) a)

  -- SetLook, SetTail: T there, and room; T there, at the limit; not T there
  pub set-put : {N T : ℕ} {x : Pos} → Moving w v K f fs (set N (peek T x)) → passed x < δ.limit → Moving w v K f fs (set N (put T x N))
  set-put {N} (sets pre k n (set_peeks s) a) l = sets {N = N} pre k n (set-puts refl s l) a

  pub set-level : {N T R C : ℕ} → Moving w v K f fs (set N (peek T (at_node R C))) → word w (w.pixel N) T (at_node R C) ≡ level_ref T → C ≡ δ.limit → Moving w v K f fs (set N (level T (at_node R C)))
  set-level {N} {T} {R} {C} (sets pre k n (set_peeks s) a) q c = sets {N = N} pre k n (set_levels s c (by s.stand)) a
    where
      d : ℕ
      d = digit δ (w.pixel N) (w.tree.depth T)

      bound : w.tree.depth T < δ.depths
      bound = S.tree_ok.bounded T s.path.pub_at

      by : Stand w (λ n. Unit {0}) T d (at_node R C) → suc (w.tree.depth T) < δ.depths
      by (on_node j) =
          let l = exchange_next S s.path.pub_at (digit_lt δ (w.pixel N) (w.tree.depth T)) j q in
          let i : R ∈ w.chain T d = rw l.is (∈-last l.pre R) in
          let apart : w.pixel R ≢ w.pixel N = λ y.
          let same = Q.one_node R N (S.homed R T d i).placed (last-placed S pre N k) y in
          open_apart k T d l.idle (one_slot S (rw same at i) (last_in S pre N k)) in
          share_less δ apart ((S.homed R T d i).prefix ∙ ap (λ t. t * δ.base + d) s.path.lies ∙ sym (top-suc δ (w.pixel N) (w.tree.depth T) bound)) bound

  pub set-reads_next : {N T : ℕ} {x : Pos} → Moving w v K f fs (set N (again T x)) → SetNext w v K f fs N T x
  set-reads_next {N} {T} {x} (sets pre k n (set_reads s q) a) = by (meets S s.path.pub_at (digit_lt δ (w.pixel N) (w.tree.depth T)) s.stand q)
    where
      by : Met w (λ n. Unit {0}) T (digit δ (w.pixel N) (w.tree.depth T)) x (word w (w.pixel N) T x) → SetNext w v K f fs N T x
      by (met_node_lem R r p g) = set_on R r p (sets {N = N} pre k n (set_peeks (record { path = s.path; inside = s.inside; aimed = s.aimed; stand = g tt; counted = more_ok δ R (passed x) })) a)
      by (met-level t r z i g d) =
          set_down t (w.tree.into T (digit δ (w.pixel N) (w.tree.depth T))) r (inside_pub (S.tree_ok.closed T (digit δ (w.pixel N) (w.tree.depth T)) z).to i) (λ p r j h. back_is S.tree_ok p r j z i h) d
          (omega (arith, closed_depth S.tree_ok T (digit δ (w.pixel N) (w.tree.depth T)) z))
          (aims {N = N} pre k n (path_down S.tree_ok s.path z) (inside_child S.tree_ok z s.inside (here refl)) a)

  -- SetPut, SetAppend done
  pub put-moved : {N T : ℕ} {x : Pos} (pre : List ℕ) (k : FrameOk w v f (pre ++ (N ∷ []))) (s : Setting w N f.child T x) (l : passed x < δ.limit) (q : word w (w.pixel N) T x ≡ level_ref T) → Around w v K f.home f.key f.child fs → AfterMove (move_one w f.home (edge w f) pre N T (digit δ (w.pixel N) (w.tree.depth T))) v K f fs pre
  put-moved {N} {T} {x} pre k s l q a = by (ℕ_discrete (length pre) 0)
    where
      d : ℕ
      d = digit δ (w.pixel N) (w.tree.depth T)

      can : CanMove w f.home (edge w f) pre N T d
      can = put_can S pre k s l q

      w' : World δ
      w' = move_one w f.home (edge w f) pre N T d

      S' : Structure w'
      S' = move_structure S can

      frame : (ns : List ℕ) → pre ≡ ns → FrameOk w' v (with_nodes f pre) ns
      frame ns e = record { path = path_stays (move_grows S can) k.path; leads = k.leads; real = k.real; mine = k.mine; holds = at_source S can ∙ e }

      around : Around w' v K f.home f.key f.child fs
      around = around-stays (move_grows S can) S S' (λ h ns j m. record { chain_is = elsewhere S can h.home (edge w h) (λ y. omega (arith, m, ap w.tree.depth y.0)) (λ y. open_apart j T d can.idle (sym y.0, sym y.1)); mover_is = refl }) a

      by : Dec (length pre ≡ 0) → AfterMove w' v K f fs pre
      by (yes e) = let z = no_length pre e in emptied z (finishes (frame [] z) z around)
      by (no e) =
          let (pre', N', z) = snoc_view pre (omega arith) in
          next_one N' (aims {N = N'} pre' (frame (pre' ++ (N' ∷ [])) z) z (child_path S' pre' N' (frame (pre' ++ (N' ∷ [])) z)) (here refl) around)

  -- SetLevel: the level in hand
  pub set_shut : {N T M : ℕ} {x : Pos} (held : w.tree.level_owner M ≢ 0) (holds : v ≢ 0) → Moving w v K f fs (set N (level T x)) → Moving (take_level w M T (suc (w.tree.depth T)) (w.tree.pfx T * δ.base + digit δ (w.pixel N) (w.tree.depth T)) v) v K f fs (set N (shut T x M))
  set_shut {N} {T} {M} {x} held holds (sets pre k n (set_levels s c b) a) =
      let D = suc (w.tree.depth T) in
      let p = w.tree.pfx T * δ.base + digit δ (w.pixel N) (w.tree.depth T) in
      let E = level_grows S held T D p v holds in
      let S' = level_structure S held T D p v holds in
      let h = E.depth_is T s.path.pub_at in
      let same : (g : Frame) → Keeps w (take_level w M T D p v) g = λ g. record { chain_is = refl; mover_is = refl } in
      sets {N = N} pre (frame-stays E S S' (same f) k) n
      (set_shuts {M = M} (setting_stays E S S' (last-placed S pre N k) (upd_l_next w.cell M (level_ref M) N) s) c (rw h b) (record {
        mine = upd_same w.tree.level_owner M v;
        prev_is = upd_same w.tree.prev M T;
        depth_is = rw h (upd_same w.tree.depth M D);
        pfx_is = rw (h, E.pfx_is T s.path.pub_at) (upd_same w.tree.pfx M p);
        entries = λ e. upd_l_in w.cell M (level_ref M) e;
      }))
      (around-stays E S S' (λ g ns j l. same g) a)

  -- SetClose done: a Move inside this Move, keyed by the node's pixel
  pub set_shut_moves : {N T M : ℕ} {x : Pos} (z : v ≢ 0) → Moving w v K f fs (set N (shut T x M)) → word w (w.pixel N) T x ≡ level_ref T → Moving (close w T (digit δ (w.pixel N) (w.tree.depth T)) M v) v K (record { home = T; child = M; key = w.pixel N; nodes = [] }) (f ∷ fs) gather
  set_shut_moves {N} {T} {M} {x} z (sets pre k n (set_shuts s c b t) a) q =
      let d = digit δ (w.pixel N) (w.tree.depth T) in
      let (can, full) = shut_can S z s c b t q in
      let E = close_grows S can v in
      let S' = close_structure S can v in
      let keep : (h : Frame) (ns : List ℕ) → FrameOk w v h ns → Keeps w (close w T d M v) h = λ h ns j.
      record { chain_is = refl; mover_is = upd_other w.mover M v h.child (λ y. can.held (ap w.tree.level_owner (sym y) ∙ frame_published S j)) } in
      gathers (w.chain T d)
      (record {
        path = path_stays E s.path;
        leads = upd₂_same w.tree.into T d M;
        real = λ y. can.held (ap w.tree.level_owner y ∙ S.tree_ok.root);
        mine = upd_same w.mover M v;
        holds = refl;
      })
      full (upd_c_same w.cell (last_cell w T d) (level_ref M))
      (within pre N (frame-stays E S S' (keep f (pre ++ (N ∷ [])) k) k) n refl (level-stays E s.inside) (around-stays E S S' (λ h ns j l. keep h ns j) a))
