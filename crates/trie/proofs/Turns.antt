-- The turns that write, each as a step from the whole invariant to the whole invariant. The turns that only read, and failed exchanges, are `stay-step`.
-- Relies on Digits, Update, Chain, World, Evolve, Stand, Search, Move, MoveTurns, MoveEnd, Place, TakeNode, TakeLevel, MoveOne, Redirect, Close and Whole.
use mathlib.Core.Path.{◌≡◌, refl, sym, ap, ◌∙◌}
use mathlib.Core.Logic.Iff
use mathlib.Core.Logic.{◌≢◌, ◌⊎◌, inl, inr, ◌↔◌}
use mathlib.Core.List.{List, [], ◌∷◌, ◌++◌}
use Prim.Native.Nat.{ℕ, suc, ◌+◌, ◌*◌, ◌<◌}
use native.Mathlib.Decide.{ℕ_discrete}
use native.Mathlib.Omega.{arith}
use Rattle.trie.proofs.Digits.{Dims, digit}
use Rattle.trie.proofs.Update.{upd, upd_same, upd_other}
use Rattle.trie.proofs.Chain.{level_ref}
use Rattle.trie.proofs.World.{World, Structure, Partition}
use Rattle.trie.proofs.Evolve.{Grows, Spares, partition_stays}
use Rattle.trie.proofs.Stand.{Pos, at_entry, passed}
use Rattle.trie.proofs.Search.{peek, fetch, put, level, shut, put_done, shut_done, fetch_put, level_shut, word}
use Rattle.trie.proofs.Move.{Frame, edge, FrameOk, Setting, gather, aim, set, aims, sets, set_shuts}
use Rattle.trie.proofs.MoveTurns.{shut_moves, can_aim, aim_set, set_shut, shut_can, set_shut_moves, put_can}
use Rattle.trie.proofs.MoveEnd.{finish_can}
use Rattle.trie.proofs.Place.{place, place_structure, place_partition, place_grows, place_spares}
use Rattle.trie.proofs.TakeNode.{take_node, take_structure, take_partition, take_grows, take_spares}
use Rattle.trie.proofs.TakeLevel.{take_level, level_structure, level_grows, level_spares}
use Rattle.trie.proofs.MoveOne.{move_one, move_structure, move_grows, move_spares}
use Rattle.trie.proofs.Redirect.{redirect, redirect_structure, redirect_grows, redirect_spares}
use Rattle.trie.proofs.Close.{close, CanClose, close_structure, close_grows, close_spares}
use Rattle.trie.proofs.Whole.{Act, idle, searching, moving, Worker, ActOk, is_idle, is_searching_lem, is_moving_lem, owner, Inv, inv_step}

-- an owner function changed at one number: who owned it, and who owns it now, are the only ones to notice
owned_before : (f : ℕ → ℕ) (n u : ℕ) {v : ℕ} → u ≢ v → (m : ℕ) → upd f n u m ≡ v → f m ≡ v
owned_before f n u {v} z m p = by (ℕ_discrete m n)
  where
    by : Dec (m ≡ n) → f m ≡ v
    by (yes e) = absurd (z (sym (ap (upd f n u) e ∙ upd_same f n u) ∙ p))
    by (no e) = sym (upd_other f n u m e) ∙ p

-- v gives n away
gives : (f : ℕ → ℕ) (n u : ℕ) {v : ℕ} → u ≢ v → (h : ℕ) → ((m : ℕ) → (f m ≡ v) ↔ (h ≡ suc m)) → h ≡ suc n → (m : ℕ) → (upd f n u m ≡ v) ↔ (◌≡◌ {A = ℕ} 0 (suc m))
gives f n u {v} z h k e m = (λ p. absurd (by (ℕ_discrete m n) p), λ q. absurd (omega arith))
  where
    by : Dec (m ≡ n) → upd f n u m ≡ v → ⊥
    by (yes y) p = z (sym (ap (upd f n u) y ∙ upd_same f n u) ∙ p)
    by (no y) p = y (omega (arith, e, (k m).0 (owned_before f n u z m p)))

-- v takes n, having held nothing or n
takes : (f : ℕ → ℕ) (n v h : ℕ) → ((m : ℕ) → (f m ≡ v) ↔ (h ≡ suc m)) → (h ≡ 0) ⊎ (h ≡ suc n) → (m : ℕ) → (upd f n v m ≡ v) ↔ (suc n ≡ suc m)
takes f n v h k s m = (λ p. by (ℕ_discrete m n) p, λ q. let e : m ≡ n = omega arith in ap (upd f n v) e ∙ upd_same f n v)
  where
    no_other : h ≡ suc m → m ≢ n → (h ≡ 0) ⊎ (h ≡ suc n) → ⊥
    no_other p y (inl z) = omega arith
    no_other p y (inr z) = y (omega arith)

    by : Dec (m ≡ n) → upd f n v m ≡ v → suc n ≡ suc m
    by (yes y) p = ap suc (sym y)
    by (no y) p = absurd (no_other ((k m).0 (sym (upd_other f n v m y) ∙ p)) y s)

-- a worker's record with other work, another node in hand, another level in hand
abbrev pub does : Worker → Act → Worker
does c a = record { key = c.key; since = c.since; node = c.node; level = c.level; act = a }

abbrev pub with_node : Worker → ℕ → Worker
with_node c n = record { key = c.key; since = c.since; node = n; level = c.level; act = c.act }

abbrev pub with_level : Worker → ℕ → Worker
with_level c g = record { key = c.key; since = c.since; node = c.node; level = g; act = c.act }

-- The clause of the acting worker i is handed over at the kind of its turn: `(I.each i).acts` has that type once `act` is known
module _ {δ : Dims} {w : World δ} {ws : ℕ → Worker} (I : Inv w ws) (i : ℕ) where
  S : Structure w
  S = I.structure

  Q : Partition w
  Q = I.partition

  K : ℕ
  K = (ws i).key

  apart : {j : ℕ} → j ≢ i → owner i ≢ owner j
  apart d p = d (omega arith)

  abbrev Mine : Act → Type 0
  Mine a = ActOk w (owner i) (ws i).key (ws i).since a

  -- Put, Append done: the call ends "new"
  pub put-turn : {H n : ℕ} {x : Pos} → Mine (searching (put H x n)) → (ws i).node ≡ suc n → word w (ws i).key H x ≡ level_ref H → Inv (place w H (digit δ (ws i).key (w.tree.depth H)) n) (upd ws i (does (with_node (ws i) 0) idle))
  put-turn {H} {n} {x} (is_searching_lem small b l) hand q =
      let can = put_done S Q (omega arith) small l q in
      let mine = ((I.each i).holds_node n).1 hand in
      inv_step I i (does (with_node (ws i) 0) idle) (place_grows S can) (place_structure S can) (place_partition S can Q)
      (λ j d. (place_spares S can (owner j) (omega arith) (λ p. apart d (sym mine ∙ p)), record { same_node = owned_before w.node_owner n 0 (omega arith); same_level = λ g p. p }))
      (record { acts = is_idle; holds_node = gives w.node_owner n 0 (omega arith) (ws i).node (I.each i).holds_node hand; holds_level = (I.each i).holds_level })

  -- Take, TakeTail: the spare node, or a new one
  pub fetch_turn : {H n : ℕ} {x : Pos} → Mine (searching (fetch H x)) → w.node_owner n ≢ 0 → ((j : ℕ) → j ≢ i → w.node_owner n ≢ owner j) → ((ws i).node ≡ 0) ⊎ ((ws i).node ≡ suc n) → Inv (take_node w n (ws i).key (level_ref H) (owner i)) (upd ws i (does (with_node (ws i) (suc n)) (searching (put H x n))))
  fetch_turn {H} {n} {x} (is_searching_lem small b l) held others s =
      let v : owner i ≢ 0 = omega arith in
      let K = (ws i).key in
      inv_step I i (does (with_node (ws i) (suc n)) (searching (put H x n))) (take_grows S held K (level_ref H) (owner i) v) (take_structure S held K (level_ref H) (owner i) v) (take_partition S held K (level_ref H) (owner i) v Q)
      (λ j d. (take_spares S held K (level_ref H) (owner i) v (owner j) (others j d), record { same_node = owned_before w.node_owner n (owner i) (apart d); same_level = λ g p. p }))
      (record {
        acts = is_searching_lem small b (fetch_put S Q held v l);
        holds_node = takes w.node_owner n (owner i) (ws i).node (I.each i).holds_node s;
        holds_level = (I.each i).holds_level;
      })

  -- Level and SetLevel: the spare level, or a new one; `now` is what the worker does after it
  level-step : (G H d p : ℕ) (now : Act) (held : w.tree.level_owner G ≢ 0) → ((j : ℕ) → j ≢ i → w.tree.level_owner G ≢ owner j) → ((ws i).level ≡ 0) ⊎ ((ws i).level ≡ suc G) → ActOk (take_level w G H d p (owner i)) (owner i) (ws i).key (ws i).since now → Inv (take_level w G H d p (owner i)) (upd ws i (does (with_level (ws i) (suc G)) now))
  level-step G H d p now held others s k =
      let v : owner i ≢ 0 = omega arith in
      let E = level_grows S held H d p (owner i) v in
      inv_step I i (does (with_level (ws i) (suc G)) now) E (level_structure S held H d p (owner i) v) (partition_stays E (λ m q. q) refl Q)
      (λ j y. (level_spares S held H d p (owner i) v (owner j) (others j y), record { same_node = λ m q. q; same_level = owned_before w.tree.level_owner G (owner i) (apart y) }))
      (record { acts = k; holds_node = (I.each i).holds_node; holds_level = takes w.tree.level_owner G (owner i) (ws i).level (I.each i).holds_level s })

  pub level-turn : {H G : ℕ} {x : Pos} → Mine (searching (level H x)) → (held : w.tree.level_owner G ≢ 0) → ((j : ℕ) → j ≢ i → w.tree.level_owner G ≢ owner j) → ((ws i).level ≡ 0) ⊎ ((ws i).level ≡ suc G) → Inv (take_level w G H (suc (w.tree.depth H)) (w.tree.pfx H * δ.base + digit δ (ws i).key (w.tree.depth H)) (owner i)) (upd ws i (does (with_level (ws i) (suc G)) (searching (shut H x G))))
  level-turn {H} {G} {x} (is_searching_lem small b l) held others s = level-step G H _ _ (searching (shut H x G)) held others s (is_searching_lem small b (level_shut S Q held (omega arith) l))

  pub set-level-turn : {f : Frame} {fs : List Frame} {N T G : ℕ} {x : Pos} → Mine (moving f fs (set N (level T x))) → (held : w.tree.level_owner G ≢ 0) → ((j : ℕ) → j ≢ i → w.tree.level_owner G ≢ owner j) → ((ws i).level ≡ 0) ⊎ ((ws i).level ≡ suc G) → Inv (take_level w G T (suc (w.tree.depth T)) (w.tree.pfx T * δ.base + digit δ (w.pixel N) (w.tree.depth T)) (owner i)) (upd ws i (does (with_level (ws i) (suc G)) (moving f fs (set N (shut T x G)))))
  set-level-turn {f} {fs} {N} {T} {G} {x} (is_moving_lem small b m) held others s = level-step G T _ _ (moving f fs (set N (shut T x G))) held others s (is_moving_lem small b (set_shut S Q held (omega arith) m))

  -- Close and SetClose done
  close-step : (H e G : ℕ) (now : Act) (can : CanClose w H e G) → (ws i).level ≡ suc G → ActOk (close w H e G (owner i)) (owner i) (ws i).key (ws i).since now → Inv (close w H e G (owner i)) (upd ws i (does (with_level (ws i) 0) now))
  close-step H e G now can hand k =
      let mine = ((I.each i).holds_level G).1 hand in
      let E = close_grows S can (owner i) in
      inv_step I i (does (with_level (ws i) 0) now) E (close_structure S can (owner i)) (partition_stays E (λ m p. p) refl Q)
      (λ j d. (close_spares S can (owner i) (owner j) (omega arith) (λ p. apart d (sym mine ∙ p)), record { same_node = λ m p. p; same_level = owned_before w.tree.level_owner G 0 (omega arith) }))
      (record { acts = k; holds_node = (I.each i).holds_node; holds_level = gives w.tree.level_owner G 0 (omega arith) (ws i).level (I.each i).holds_level hand })

  pub shut_turn : {H G : ℕ} {x : Pos} → Mine (searching (shut H x G)) → (ws i).level ≡ suc G → word w (ws i).key H x ≡ level_ref H → Inv (close w H (digit δ (ws i).key (w.tree.depth H)) G (owner i)) (upd ws i (does (with_level (ws i) 0) (moving (record { home = H; child = G; key = (ws i).key; nodes = [] }) [] gather)))
  shut_turn {H} {G} {x} (is_searching_lem small b l) hand q = close-step H _ G _ (shut_done S Q (omega arith) l q).0 hand (is_moving_lem small b (shut_moves S Q (omega arith) l q))

  pub set_shut_turn : {f : Frame} {fs : List Frame} {N T M : ℕ} {x : Pos} → Mine (moving f fs (set N (shut T x M))) → (ws i).level ≡ suc M → word w (w.pixel N) T x ≡ level_ref T → Inv (close w T (digit δ (w.pixel N) (w.tree.depth T)) M (owner i)) (upd ws i (does (with_level (ws i) 0) (moving (record { home = T; child = M; key = w.pixel N; nodes = [] }) (f ∷ fs) gather)))
  set_shut_turn {f} {fs} {N} {T} {M} {x} (is_moving_lem small b (sets pre k n (set_shuts s c d t) a)) hand q =
      close-step T _ M _ (shut_can S (omega arith) s c d t q).0 hand (is_moving_lem small b (set_shut_moves S Q (omega arith) (sets pre k n (set_shuts s c d t) a) q))

  -- a turn of a Move that leaves owners, levels and the book as they are
  move_step : {w' : World δ} (now : Act) → Grows w w' → Structure w' → w'.book ≡ w.book → ((m v : ℕ) → (w'.node_owner m ≡ v) ↔ (w.node_owner m ≡ v)) → ((g v : ℕ) → (w'.tree.level_owner g ≡ v) ↔ (w.tree.level_owner g ≡ v)) → ((j : ℕ) → j ≢ i → Spares (owner j) w w') → ActOk w' (owner i) (ws i).key (ws i).since now → Inv w' (upd ws i (does (ws i) now))
  move_step {w'} now E S' b n l X k =
      inv_step I i (does (ws i) now) E S' (partition_stays E (λ m p. (n m 0).0 p) b Q)
      (λ j d. (X j d, record { same_node = λ m p. (n m (owner j)).0 p; same_level = λ g p. (l g (owner j)).0 p }))
      (record { acts = k; holds_node = λ m. Iff.trans (n m (owner i)) ((I.each i).holds_node m); holds_level = λ g. Iff.trans (l g (owner i)) ((I.each i).holds_level g) })

  -- the acting worker moves the frame's chain
  not_theirs : {f : Frame} {ns : List ℕ} {j : ℕ} → FrameOk w (owner i) f ns → j ≢ i → w.mover (w.tree.into f.home (edge w f)) ≢ owner j
  not_theirs k d p = apart d (sym k.mine ∙ ap w.mover (sym k.leads) ∙ p)

  -- SetNext
  pub aim_turn : {f : Frame} {fs : List Frame} {N T : ℕ} → Mine (moving f fs (aim N T)) → Inv (redirect w f.home (edge w f) (level_ref T) w.mover) (upd ws i (does (ws i) (moving f fs (set N (peek T at_entry)))))
  aim_turn {f} {fs} {N} {T} (is_moving_lem small b (aims pre k n o j c)) =
      let can = can_aim S pre N k j in
      move_step (moving f fs (set N (peek T at_entry))) (redirect_grows S can w.mover) (redirect_structure S can w.mover) refl (λ m v. Iff.rfl) (λ g v. Iff.rfl)
      (λ u d. redirect_spares S can w.mover (owner u) (omega arith) (not_theirs k d) (λ c p. p))
      (is_moving_lem small b (aim_set S Q (aims pre k n o j c)))

  -- SetPut, SetAppend done: node N stands in T; the next step is the caller's
  pub put_step : {f : Frame} {N T : ℕ} {x : Pos} (pre : List ℕ) (k : FrameOk w (owner i) f (pre ++ (N ∷ []))) (s : Setting w N f.child T x) (l : passed x < δ.limit) (q : word w (w.pixel N) T x ≡ level_ref T) (now : Act) → ActOk (move_one w f.home (edge w f) pre N T (digit δ (w.pixel N) (w.tree.depth T))) (owner i) (ws i).key (ws i).since now → Inv (move_one w f.home (edge w f) pre N T (digit δ (w.pixel N) (w.tree.depth T))) (upd ws i (does (ws i) now))
  put_step {f} {N} {T} {x} pre k s l q now o =
      let can = put_can S pre k s l q in
      move_step now (move_grows S can) (move_structure S can) refl (λ m v. Iff.rfl) (λ g v. Iff.rfl)
      (λ u d. move_spares S can (owner u) (omega arith) (not_theirs k d)) o

  -- MoveEnd: the entry leads to the child, which nobody moves to any more; the next step is the caller's
  pub finish_step : {f : Frame} (k : FrameOk w (owner i) f []) (now : Act) → ActOk (redirect w f.home (edge w f) (level_ref f.child) (upd w.mover f.child 0)) (owner i) (ws i).key (ws i).since now → Inv (redirect w f.home (edge w f) (level_ref f.child) (upd w.mover f.child 0)) (upd ws i (does (ws i) now))
  finish_step {f} k now o =
      let mv = upd w.mover f.child 0 in
      let can = finish_can S k in
      move_step now (redirect_grows S can mv) (redirect_structure S can mv) refl (λ m v. Iff.rfl) (λ g v. Iff.rfl)
      (λ u d. redirect_spares S can mv (owner u) (omega arith) (not_theirs k d) (λ c p. upd_other w.mover f.child 0 c (λ y. apart d (sym k.mine ∙ ap w.mover (sym y) ∙ p)) ∙ p)) o
