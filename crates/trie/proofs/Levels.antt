-- The number of levels taken: the root, the published ones by depth, and those held. So a level is left whenever a worker that holds none wants one.
-- Relies on Digits, Update, World, Evolve, Close, Count, Sum and Whole.
use mathlib.Core.Path.{◌≡◌, sym, ap, ◌∙◌}
use mathlib.Core.List.{List, ◌++◌}
use Prim.Native.Nat.{ℕ, suc, ◌+◌, ◌*◌, ◌-◌, ◌/◌, ◌≤◌, ◌<◌, min}
use native.Mathlib.Decide.{ℕ_discrete}
use native.Mathlib.Omega.{arith}
use lib.ListN.{length}
use Rattle.trie.proofs.Digits.{Dims}
use Rattle.trie.proofs.Update.{upd, upd_same, upd_other}
use Rattle.trie.proofs.World.{World, Placed, Structure}
use Rattle.trie.proofs.Evolve.{Grows}
use Rattle.trie.proofs.Close.{close, CanClose}
use Rattle.trie.proofs.Count.{Counted, counted-stays, counted-close, count-le}
use Rattle.trie.proofs.Sum.{sum, sum_upd, sum_ext, level-left}
use Rattle.trie.proofs.Whole.{Worker}

-- 1 if worker i holds a level
unfoldable pub holding : (ℕ → Worker) → ℕ → ℕ
holding ws i = min 1 (ws i).level

holding-le : (ws : ℕ → Worker) (i : ℕ) → holding ws i ≤ 1
unfolding holding
holding-le ws i = omega arith

pub record Levels {δ : Dims} (w : World δ) (ws : ℕ → Worker) (workers taken : ℕ) : Type 0 where
  pub covered : ℕ → List ℕ
  pub count : ℕ → ℕ
  pub counted : Counted w covered count
  pub total : taken ≡ 1 + sum (δ.depths - 1) (λ d. count (suc d)) + sum workers (holding ws)

-- one worker's record changed
sum_worker : (ws : ℕ → Worker) (workers i : ℕ) (c : Worker) → i < workers → sum workers (holding (upd ws i c)) + holding ws i ≡ sum workers (holding ws) + min 1 c.level
unfolding holding
sum_worker ws workers i c l = ap (λ s. s + holding ws i) (sum_ext workers (holding (upd ws i c)) (upd (holding ws) i (min 1 c.level)) (λ j. by j (ℕ_discrete j i))) ∙ sum_upd workers (holding ws) i (min 1 c.level) l
  where
    by : (j : ℕ) → Dec (j ≡ i) → holding (upd ws i c) j ≡ upd (holding ws) i (min 1 c.level) j
    by j (yes e) = rw (e, upd_same (holding ws) i (min 1 c.level)) (ap (λ k. min 1 k.level) (upd_same ws i c))
    by j (no e) = ap (λ k. min 1 k.level) (upd_other ws i c j e) ∙ sym (upd_other (holding ws) i (min 1 c.level) j e)

module _ {δ : Dims} {w : World δ} {ws : ℕ → Worker} {workers taken : ℕ} (L : Levels w ws workers taken) (i : ℕ) (here : i < workers) where
  -- a turn that leaves the worker's level as it was
  pub levels_stay : {w' : World δ} (c : Worker) → Grows w w' → c.level ≡ (ws i).level → Levels w' (upd ws i c) workers taken
  unfolding holding
  levels_stay c E e =
      record {
        covered = L.covered;
        count = L.count;
        counted = counted-stays E L.counted;
        total = let s = sum_worker ws workers i c here in let k = ap (min 1) e in let t = L.total in omega arith;
      }

  -- Level, SetLevel by the next number
  pub levels_new : {w' : World δ} (c : Worker) (G : ℕ) → Grows w w' → (ws i).level ≡ 0 → c.level ≡ suc G → Levels w' (upd ws i c) workers (suc taken)
  unfolding holding
  levels_new c G E z e =
      record {
        covered = L.covered;
        count = L.count;
        counted = counted-stays E L.counted;
        total = let s = sum_worker ws workers i c here in let t = L.total in omega arith;
      }

  -- Close, SetClose done
  pub levels_close : (S : Structure w) {H e G : ℕ} (k : CanClose w H e G) (v : ℕ) (c : Worker) → length (w.chain H e) ≡ δ.limit → (ws i).level ≡ suc G → c.level ≡ 0 → Levels (close w H e G v) (upd ws i c) workers taken
  unfolding holding
  levels_close S {H} {e} {G} k v c full z y =
      let D = w.tree.depth H in
      record {
        covered = upd L.covered (suc D) (L.covered (suc D) ++ w.chain H e);
        count = upd L.count (suc D) (suc (L.count (suc D)));
        counted = counted-close S k v full L.counted;
        total =
            let s = sum_worker ws workers i c here in
            let t = L.total in
            let u = sum_upd (δ.depths - 1) (λ d. L.count (suc d)) D (suc (L.count (suc D))) (omega (arith, k.not_deepest)) in
            let x = sum_ext (δ.depths - 1) (λ d. upd L.count (suc D) (suc (L.count (suc D))) (suc d)) (upd (λ d. L.count (suc d)) D (suc (L.count (suc D)))) (λ d. shift L.count D (suc (L.count (suc D))) d (ℕ_discrete d D)) in
            omega arith;
      }
    where
      shift : (f : ℕ → ℕ) (D x d : ℕ) → Dec (d ≡ D) → upd f (suc D) x (suc d) ≡ upd (λ d. f (suc d)) D x d
      shift f D x d (yes e) = rw e (upd_same f (suc D) x ∙ sym (upd_same (λ d. f (suc d)) D x))
      shift f D x d (no e) = upd_other f (suc D) x (suc d) (λ q. e (omega arith)) ∙ sym (upd_other (λ d. f (suc d)) D x d e)

  -- a worker that holds no level finds one left
  pub one_left : (nodes : ℕ) → 0 < δ.limit → ((n : ℕ) → Placed w n → n < nodes) → (ws i).level ≡ 0 → taken < 1 + (δ.depths - 1) * (nodes / δ.limit) + workers
  unfolding holding
  one_left nodes pos h z = level-left (δ.depths - 1) δ.limit nodes workers taken L.count (holding ws) i pos (count-le L.counted nodes h) (λ j l. holding-le ws j) here (ap (min 1) z ∙ omega arith) L.total
