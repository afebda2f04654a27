-- All workers: the whole invariant, and that a turn of one worker keeps it.
-- Relies on Digits, Update, World, Evolve, Search and Move.
use mathlib.Core.Path.{◌≡◌}
use mathlib.Core.Logic.{◌≢◌, ◌↔◌}
use mathlib.Core.List.{List}
use Prim.Native.Nat.{ℕ, suc, ◌^◌, ◌≤◌, ◌<◌}
use native.Mathlib.Decide.{ℕ_discrete}
use native.Mathlib.Omega.{arith}
use lib.ListN.{length, length-append}
use Rattle.trie.proofs.Digits.{Dims}
use Rattle.trie.proofs.Update.{upd, upd_same, upd_other}
use Rattle.trie.proofs.World.{World, Structure, Partition}
use Rattle.trie.proofs.Evolve.{Grows, Spares}
use Rattle.trie.proofs.Search.{Phase, Local, local_stays}
use Rattle.trie.proofs.Move.{Frame, Step, Moving, moving_stays}

pub data Act : Type 0 where
  idle : Act
  searching : Phase → Act
  moving : Frame → List Frame → Step → Act

-- A worker: its pixel, the length of the book when its call started, the node and the level that it holds (number + 1; 0: none), and what it does.
-- What it holds is in hand in Put, Append, Close, SetClose, and spare in every other kind.
pub record Worker : Type 0 where
  pub key : ℕ
  pub since : ℕ
  pub node : ℕ
  pub level : ℕ
  pub act : Act

pub data ActOk {δ : Dims} (w : World δ) (v K b : ℕ) : Act → Type 0 where
  is_idle : ActOk w v K b idle
  is_searching_lem : {p : Phase} → K < δ.base ^ δ.depths → b ≤ length w.book → Local w v K b p → ActOk w v K b (searching p)
  is_moving_lem : {f : Frame} {fs : List Frame} {s : Step} → K < δ.base ^ δ.depths → b ≤ length w.book → Moving w v K f fs s → ActOk w v K b (moving f fs s)

pub record WorkerOk {δ : Dims} (w : World δ) (v : ℕ) (c : Worker) : Type 0 where
  pub acts : ActOk w v c.key c.since c.act
  pub holds_node : (n : ℕ) → (w.node_owner n ≡ v) ↔ (c.node ≡ suc n)
  pub holds_level : (g : ℕ) → (w.tree.level_owner g ≡ v) ↔ (c.level ≡ suc g)

-- the owners' number of worker i
abbrev pub owner : ℕ → ℕ
owner i = suc (suc i)

pub record Inv {δ : Dims} (w : World δ) (ws : ℕ → Worker) : Type 0 where
  pub structure : Structure w
  pub partition : Partition w
  pub each : (i : ℕ) → WorkerOk w (owner i) (ws i)

-- v owns what it owned, and nothing new
pub record SameOwns {δ : Dims} (v : ℕ) (w w' : World δ) : Type 0 where
  pub same_node : (n : ℕ) → w'.node_owner n ≡ v → w.node_owner n ≡ v
  pub same_level : (g : ℕ) → w'.tree.level_owner g ≡ v → w.tree.level_owner g ≡ v

module _ {δ : Dims} {w w' : World δ} (E : Grows w w') (S : Structure w) (S' : Structure w') (Q : Partition w) where
  pub longer_book : {b : ℕ} → b ≤ length w.book → b ≤ length w'.book
  longer_book h = let (more, is) = E.book_grows in rw (is, length-append) (omega arith)

  act-stays : {v K b : ℕ} {a : Act} → Spares v w w' → ActOk w v K b a → ActOk w' v K b a
  act-stays X is_idle = is_idle
  act-stays X (is_searching_lem k b l) = is_searching_lem k (longer_book b) (local_stays E S S' Q X l)
  act-stays X (is_moving_lem k b m) = is_moving_lem k (longer_book b) (moving_stays E S S' X m)

  worker_stays : {v : ℕ} {c : Worker} → Spares v w w' → SameOwns v w w' → WorkerOk w v c → WorkerOk w' v c
  worker_stays X Y k =
      record {
        acts = act-stays X k.acts;
        holds_node = λ n. (λ p. (k.holds_node n).0 (Y.same_node n p), λ q. (X.my_node n ((k.holds_node n).1 q)).0);
        holds_level = λ g. (λ p. (k.holds_level g).0 (Y.same_level g p), λ q. (X.my_level g ((k.holds_level g).1 q)).0);
      }

-- one worker's turn: the world changes so that the others are spared, and the worker's own clause holds of its new record
pub inv_step : {δ : Dims} {w w' : World δ} {ws : ℕ → Worker} (I : Inv w ws) (i : ℕ) (c : Worker) → Grows w w' → Structure w' → Partition w' → ((j : ℕ) → j ≢ i → Spares (owner j) w w' × SameOwns (owner j) w w') → WorkerOk w' (owner i) c → Inv w' (upd ws i c)
inv_step {δ} {w} {w'} {ws} I i c E S' Q' X k = record { structure = S'; partition = Q'; each = λ j. by j (ℕ_discrete j i) }
  where
    by : (j : ℕ) → Dec (j ≡ i) → WorkerOk w' (owner j) (upd ws i c j)
    by j (yes e) = rw (e, upd_same ws i c) k
    by j (no e) = rw (upd_other ws i c j e) (worker_stays E I.structure S' I.partition (X j e).0 (X j e).1 (I.each j))

-- a turn that changes no word
pub stay_step : {δ : Dims} {w : World δ} {ws : ℕ → Worker} (I : Inv w ws) (i : ℕ) (c : Worker) → WorkerOk w (owner i) c → Inv w (upd ws i c)
stay_step {δ} {w} {ws} I i c k = record { structure = I.structure; partition = I.partition; each = λ j. by j (ℕ_discrete j i) }
  where
    by : (j : ℕ) → Dec (j ≡ i) → WorkerOk w (owner j) (upd ws i c j)
    by j (yes e) = rw (e, upd_same ws i c) k
    by j (no e) = rw (upd_other ws i c j e) (I.each j)
