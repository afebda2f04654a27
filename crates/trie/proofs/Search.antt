-- A call for pixel K that searches: what holds of the worker by kind of turn, that the others leave it true, and what each of its own turns makes of it.
-- Relies on Digits, Update, Lists, Chain, Tree, World, Read, Evolve, Stand, Place, Close, TakeNode and TakeLevel.
use mathlib.Core.Path.{◌≡◌, sym, ap, ◌∙◌}
use mathlib.Core.Logic.{◌≢◌}
use Prim.Native.Nat.{ℕ, suc, ◌+◌, ◌*◌, ◌^◌, ◌≤◌, ◌<◌}
use native.Mathlib.Decide.{ℕ_discrete}
use native.Mathlib.Omega.{arith}
use lib.ListN.{length, length-append, take}
use lib.Seq.{take-append-le}
use Rattle.trie.proofs.Digits.{Dims, top, digit, digit_lt, top-zero, top-suc, share_less}
use Rattle.trie.proofs.Update.{ent, nxt, upd_same, upd_c_same, upd_l_in}
use Rattle.trie.proofs.Lists.{◌∈◌, ∈-last, ∈-take}
use Rattle.trie.proofs.Chain.{level_ref, node_ref}
use Rattle.trie.proofs.Tree.{Published, inside_pub, OnPath, closed_depth, path_down}
use Rattle.trie.proofs.World.{World, Placed, Structure, Partition, Deep, Other}
use Rattle.trie.proofs.Read.{not-placed, exchange_next, go_back, back_is}
use Rattle.trie.proofs.Evolve.{Grows, Spares, path_stays, deep_stays, other_stays}
use Rattle.trie.proofs.Stand.{Pos, at_entry, at_node, cell_of, passed, more, CountOk, more_ok, Stand, on_entry, on_node, stand_stays, Free, exchange, not_H-stays, Met, met_node_lem, met-level, meets, deep_child}
use Rattle.trie.proofs.Place.{CanPlace}
use Rattle.trie.proofs.Close.{CanClose}
use Rattle.trie.proofs.TakeNode.{take_node, take_grows, take_structure}
use Rattle.trie.proofs.TakeLevel.{take_level, level_grows, level_structure}

-- every searching kind, at level H and place x
pub record Searching {δ : Dims} (w : World δ) (K H : ℕ) (x : Pos) : Type 0 where
  pub path : OnPath w.tree K H
  pub deep : Deep w K H
  pub stand : Stand w (Other w K) H (digit δ K (w.tree.depth H)) x
  pub counted : CountOk δ x

-- the word at the worker's place
abbrev pub word : {δ : Dims} → World δ → ℕ → ℕ → Pos → ℕ
word {δ} w K H x = w.cell (cell_of H (digit δ K (w.tree.depth H)) x)

-- K is not among the first b of the book
pub record Unseen {δ : Dims} (w : World δ) (K b : ℕ) : Type 0 where
  pub within : b ≤ length w.book
  pub unseen : (n : ℕ) → n ∈ take b w.book → Other w K n

-- level G is held, written for the child of H on K's path
pub record Blank {δ : Dims} (w : World δ) (v K H G : ℕ) : Type 0 where
  pub mine : w.tree.level_owner G ≡ v
  pub prev_is : w.tree.prev G ≡ H
  pub depth_is : w.tree.depth G ≡ suc (w.tree.depth H)
  pub pfx_is : w.tree.pfx G ≡ w.tree.pfx H * δ.base + digit δ K (w.tree.depth H)
  pub entries : (e : ℕ) → w.cell (ent G e) ≡ level_ref G

-- Look, Tail; Take, TakeTail; Put, Append; Read, Follow; Level; Close
pub data Phase : Type 0 where
  peek : ℕ → Pos → Phase
  fetch : ℕ → Pos → Phase
  put : ℕ → Pos → ℕ → Phase
  again : ℕ → Pos → Phase
  level : ℕ → Pos → Phase
  shut : ℕ → Pos → ℕ → Phase

-- the worker's clause: v its number + 2, b the length of the book when the call started
pub data Local {δ : Dims} (w : World δ) (v K b : ℕ) : Phase → Type 0 where
  peeks : {H : ℕ} {x : Pos} → Searching w K H x → Local w v K b (peek H x)
  fetches : {H : ℕ} {x : Pos} → Searching w K H x → passed x < δ.limit → Unseen w K b → Local w v K b (fetch H x)
  puts : {H n : ℕ} {x : Pos} → Searching w K H x → passed x < δ.limit → w.node_owner n ≡ v → w.pixel n ≡ K → w.cell (nxt n) ≡ level_ref H → Local w v K b (put H x n)
  reads : {H : ℕ} {x : Pos} → Searching w K H x → word w K H x ≢ level_ref H → Local w v K b (again H x)
  levels : {H : ℕ} {x : Pos} → Searching w K H x → passed x ≡ δ.limit → suc (w.tree.depth H) < δ.depths → Local w v K b (level H x)
  shuts : {H G : ℕ} {x : Pos} → Searching w K H x → passed x ≡ δ.limit → suc (w.tree.depth H) < δ.depths → Blank w v K H G → Local w v K b (shut H x G)

module _ {δ : Dims} {w w' : World δ} (E : Grows w w') (S : Structure w) (S' : Structure w') where
  pub searching_stays : {K H : ℕ} {x : Pos} → Searching w K H x → Searching w' K H x
  searching_stays {K} {H} s =
      record {
        path = path_stays E s.path;
        deep = deep_stays E S S' s.path s.deep;
        stand = rw (E.depth_is H s.path.pub_at) (stand_stays E S (other_stays E) s.stand);
        counted = s.counted;
      }

  word-stays : {K H : ℕ} {x : Pos} → Searching w K H x → word w K H x ≢ level_ref H → word w' K H x ≢ level_ref H
  word-stays {K} {H} s n = rw (E.depth_is H s.path.pub_at, word) (not_H-stays E S S' s.path.pub_at (digit_lt δ K (w.tree.depth H)) s.stand n)

  unseen_stays : Partition w → {K b : ℕ} → Unseen w K b → Unseen w' K b
  unseen_stays Q {K} {b} u =
      let (more, is) = E.book_grows in
      record {
        within = rw (is, length-append) (omega (arith, u.within));
        unseen = λ n i.
            let j = rw (is, take-append-le b w.book more u.within) at i in
            other_stays E n (Q.noted-placed n (∈-take b w.book j)) (u.unseen n j);
      }

  pub blank_stays : {v K H G : ℕ} → Published w.tree H → Spares v w w' → Blank w v K H G → Blank w' v K H G
  blank_stays {v} {K} {H} {G} p X k =
      let (a, b, c, d, f) = X.my_level G k.mine in
      let h = E.depth_is H p in
      record {
        mine = a;
        prev_is = b ∙ k.prev_is;
        depth_is = rw h (c ∙ k.depth_is);
        pfx_is = rw (h, E.pfx_is H p) (d ∙ k.pfx_is);
        entries = λ e. f e ∙ k.entries e;
      }

  -- what the others do leaves the worker's clause
  pub local_stays : Partition w → {v K b : ℕ} {p : Phase} → Spares v w w' → Local w v K b p → Local w' v K b p
  local_stays Q X (peeks s) = peeks (searching_stays s)
  local_stays Q X (fetches s c u) = fetches (searching_stays s) c (unseen_stays Q u)
  local_stays Q X (puts {H} {n} s c a b d) = let (a', b', d') = X.my_node n a in puts (searching_stays s) c a' (b' ∙ b) (d' ∙ d)
  local_stays Q X (reads s n) = reads (searching_stays s) (word-stays s n)
  local_stays Q X (levels {H} s c d) = levels (searching_stays s) c (rw (E.depth_is H s.path.pub_at) d)
  local_stays Q X (shuts {H} s c d k) = shuts (searching_stays s) c (rw (E.depth_is H s.path.pub_at) d) (blank_stays s.path.pub_at X k)

-- what Read and Follow come to: found; another node; a level, from which going back leads to the child
pub data Next {δ : Dims} (w : World δ) (v K b H : ℕ) (x : Pos) : Type 0 where
  found : (R : ℕ) → word w K H x ≡ node_ref R → Placed w R → w.pixel R ≡ K → Next w v K b H x
  onward : (R : ℕ) → word w K H x ≡ node_ref R → Placed w R → w.pixel R ≢ K → Local w v K b (peek H (at_node R (more δ (passed x)))) → Next w v K b H x
  down : (t c : ℕ) → word w K H x ≡ level_ref t → Published w.tree t → ((p : ℕ → ℕ) → ((g : ℕ) → Published w.tree g → p g ≡ w.tree.prev g) → (k : ℕ) → w.tree.depth t ≤ w.tree.depth H + k → go_back p k H t ≡ c) → (x ≡ at_entry → t ≡ c) → w.tree.depth H < w.tree.depth c → Local w v K b (peek c at_entry) → Next w v K b H x

-- The worker's own turns. e is K's digit at H throughout.
module _ {δ : Dims} {w : World δ} (S : Structure w) (Q : Partition w) {K : ℕ} where
  -- a call begins at the root, with the book as it is
  pub starts : {v : ℕ} → K < δ.base ^ δ.depths → Local w v K (length w.book) (peek 0 at_entry)
  unfolding Deep
  starts h =
      let k = S.tree_ok in
      peeks (record {
        path = record { pub_at = k.root; lies = k.root_pfx ∙ sym (ap (top δ K) k.root_depth ∙ top-zero δ K h) };
        deep = λ n p q. rw k.root_depth (omega arith);
        stand = on_entry;
        counted = tt;
      })

  -- the chain that ends at the worker's place
  pub free : {H : ℕ} {x : Pos} → Searching w K H x → word w K H x ≡ level_ref H → Free w (Other w K) H (digit δ K (w.tree.depth H)) x
  free {H} s q = exchange S s.path.pub_at (digit_lt δ K (w.tree.depth H)) s.stand q

  pub absent : {H : ℕ} {x : Pos} → Searching w K H x → word w K H x ≡ level_ref H → (m : ℕ) → Placed w m → Other w K m
  absent s q = let f = free s q in not-placed S s.path s.deep f.idle f.all

  -- Look and Tail read H: a node is wanted, and K is not placed
  pub peek_fetch : {v b H : ℕ} {x : Pos} → b ≤ length w.book → Searching w K H x → word w K H x ≡ level_ref H → passed x < δ.limit → Local w v K b (fetch H x)
  peek_fetch {v} {b} l s q c = fetches s c (record { within = l; unseen = λ n i. absent s q n (Q.noted-placed n (∈-take b w.book i)) })

  -- Tail reads H at the limit: a level is wanted
  pub peek_level : {v b H R C : ℕ} → Searching w K H (at_node R C) → word w K H (at_node R C) ≡ level_ref H → C ≡ δ.limit → Local w v K b (level H (at_node R C))
  peek_level {v} {b} {H} {R} {C} s q c = levels s c (by s.stand)
    where
      e : ℕ
      e = digit δ K (w.tree.depth H)

      by : Stand w (Other w K) H e (at_node R C) → suc (w.tree.depth H) < δ.depths
      by (on_node k) =
          let l = exchange_next S s.path.pub_at (digit_lt δ K (w.tree.depth H)) k q in
          let i : R ∈ w.chain H e = rw l.is (∈-last l.pre R) in
          share_less δ (l.passed R i) ((S.homed R H e i).prefix ∙ ap (λ t. t * δ.base + e) s.path.lies ∙ sym (top-suc δ K (w.tree.depth H) bound)) bound
        where
          bound : w.tree.depth H < δ.depths
          bound = S.tree_ok.bounded H s.path.pub_at

  -- Put and Append done: the node may be placed
  pub put_done : {v b H n : ℕ} {x : Pos} → v ≢ 0 → K < δ.base ^ δ.depths → Local w v K b (put H x n) → word w K H x ≡ level_ref H → CanPlace w H (digit δ K (w.tree.depth H)) n
  put_done {v} {b} {H} {n} z small (puts s c a p aims) q =
      let f = free s q in
      record {
        level = s.path.pub_at;
        at = digit_lt δ K (w.tree.depth H);
        idle = f.idle;
        room = rw (← f.count) c;
        held = λ y. z (sym a ∙ y);
        aims = aims;
        small = rw p small;
        prefix = rw p (top-suc δ K (w.tree.depth H) (S.tree_ok.bounded H s.path.pub_at) ∙ ap (λ t. t * δ.base + digit δ K (w.tree.depth H)) (sym s.path.lies));
        new = λ m y. rw p (absent s q m y);
      }

  -- Close done: the chain may be closed, and has all its nodes
  pub shut_done : {v b H G : ℕ} {x : Pos} → v ≢ 0 → Local w v K b (shut H x G) → word w K H x ≡ level_ref H → CanClose w H (digit δ K (w.tree.depth H)) G × (length (w.chain H (digit δ K (w.tree.depth H))) ≡ δ.limit)
  shut_done {v} {b} {H} z (shuts s c d k) q =
      let f = free s q in (
        record {
          level = s.path.pub_at;
          at = digit_lt δ K (w.tree.depth H);
          idle = f.idle;
          held = λ y. z (sym k.mine ∙ y);
          prev_is = k.prev_is;
          depth_is = k.depth_is;
          pfx_is = k.pfx_is;
          not_deepest = d;
          blank = λ e l. k.entries e;
        },
        sym f.count ∙ c,
      )

  pub reads_next : {v b H : ℕ} {x : Pos} → Local w v K b (again H x) → Next w v K b H x
  reads_next {v} {b} {H} {x} (reads s n) = by (meets S s.path.pub_at (digit_lt δ K (w.tree.depth H)) s.stand n)
    where
      by : Met w (Other w K) H (digit δ K (w.tree.depth H)) x (word w K H x) → Next w v K b H x
      by (met_node_lem R q p f) = dec (ℕ_discrete (w.pixel R) K)
        where
          dec : Dec (w.pixel R ≡ K) → Next w v K b H x
          dec (yes e) = found R q p e
          dec (no e) = onward R q p e (peeks (record { path = s.path; deep = s.deep; stand = f e; counted = more_ok δ R (passed x) }))
      by (met-level t q z i f d) =
          down t (w.tree.into H (digit δ K (w.tree.depth H))) q (inside_pub (S.tree_ok.closed H (digit δ K (w.tree.depth H)) z).to i) (λ p r k h. back_is S.tree_ok p r k z i h) d
          (omega (arith, closed_depth S.tree_ok H (digit δ K (w.tree.depth H)) z))
          (peeks (record { path = path_down S.tree_ok s.path z; deep = deep_child S s.path s.deep z f; stand = on_entry; counted = tt }))

  -- Take and TakeTail: the node in hand
  pub fetch_put : {v b H n : ℕ} {x : Pos} (held : w.node_owner n ≢ 0) (holds : v ≢ 0) → Local w v K b (fetch H x) → Local (take_node w n K (level_ref H) v) v K b (put H x n)
  fetch_put {v} {b} {H} {n} held holds (fetches s c u) =
      puts (searching_stays (take_grows S held K (level_ref H) v holds) S (take_structure S held K (level_ref H) v holds) s) c
      (upd_same w.node_owner n v) (upd_same w.pixel n K) (upd_c_same w.cell (nxt n) (level_ref H))

  -- Level: the level in hand
  pub level_shut : {v b H G : ℕ} {x : Pos} (held : w.tree.level_owner G ≢ 0) (holds : v ≢ 0) → Local w v K b (level H x) → Local (take_level w G H (suc (w.tree.depth H)) (w.tree.pfx H * δ.base + digit δ K (w.tree.depth H)) v) v K b (shut H x G)
  level_shut {v} {b} {H} {G} held holds (levels s c d) =
      let D = suc (w.tree.depth H) in
      let p = w.tree.pfx H * δ.base + digit δ K (w.tree.depth H) in
      let E = level_grows S held H D p v holds in
      let h = E.depth_is H s.path.pub_at in
      shuts (searching_stays E S (level_structure S held H D p v holds) s) c (rw h d) (record {
        mine = upd_same w.tree.level_owner G v;
        prev_is = upd_same w.tree.prev G H;
        depth_is = rw h (upd_same w.tree.depth G D);
        pfx_is = rw (h, E.pfx_is H s.path.pub_at) (upd_same w.tree.pfx G p);
        entries = λ e. upd_l_in w.cell G (level_ref G) e;
      })
