-- What holds along a sequence: the state is fine, the row reads the book of its world, and it is an order of the calls that have ended.
-- Relies on the invariant of a state and on the row over one event.
use Prim.Native.Nat.{ℕ, suc, ◌<◌}
use mathlib.Core.Path.{◌≡◌, refl, ap, sym, ◌∙◌}
use mathlib.Core.Logic.{◌≢◌}
use mathlib.Core.Bool.{true}
use mathlib.Core.List.{List, [], ◌∷◌, ◌++◌}
use native.Mathlib.Decide.{ℕ_discrete}
use lib.Dec.{eqb}
use borrow.Author.Tests.{eq-eqb, ne_eqb}
use Rattle.words.specs.Choice.{pick}
use Rattle.words.proofs.Choice.{pick_true, pick_false}
use Rattle.settings.specs.declared.Settings.{Settings}
use Rattle.areas.specs.Memory.{none}
use Rattle.record.specs.declared.Answer.{Answer}
use Rattle.record.specs.declared.Answer.TheVariants.{Nothing, New, Found, Full, Open, Absent}
use Rattle.rules.specs.Asked.{question4}
use Rattle.rules.specs.Lists.{State}
use Rattle.rules.specs.Calls.{Call, Opened, others, left_open, ended_by}
use Rattle.trie.proofs.Update.{upd, upd_same, upd_other}
use Rattle.trie.proofs.Whole.{idle, Worker}
use Rattle.rules.proofs.RowTurns.{Newest, RowAfter, row_waits}
use Rattle.rules.proofs.Invariant.{WorldOf, Fine, Rowing, goes, ends_new_lem, ends_found, ends_absent}
use Rattle.rules.proofs.FineQuestions.{worker_of_lem}

-- after k events, with the calls that are open and the calls that ended
pub record Along (w : ℕ) (s₀ : Settings) (x : State) (k : ℕ) (os : List Opened) (cs : List Call) : Type 0 where
  pub world : WorldOf w s₀
  pub workers : ℕ → Worker
  pub starts : ℕ → ℕ
  pub fine : Fine w s₀ x world workers
  pub top : world.tree.prev 0 ≡ none
  pub rows : RowAfter world workers k starts cs
  pub opened : (i : ℕ) → i < s₀.workers → (workers i).act ≢ idle → Newest os i (starts i) (workers i).key

-- question 4: the worker is one of the table
pub below : {w : ℕ} {s₀ : Settings} {x : State} {k : ℕ} {os : List Opened} {cs : List Call} → Along w s₀ x k os cs → {i : ℕ} → question4 x.settings i ≡ true → i < s₀.workers
below a q = worker_of_lem a.fine q

-- an event that is refused: time passes
pub along_waits : {w : ℕ} {s₀ : Settings} {x : State} {k : ℕ} {os : List Opened} {cs : List Call} → Along w s₀ x k os cs → Along w s₀ x (suc k) os (cs ++ [])
along_waits a =
    record {
      world = a.world;
      workers = a.workers;
      starts = a.starts;
      fine = a.fine;
      top = a.top;
      rows = row_waits a.fine.inv.structure a.fine.inv.partition a.rows.rowed a.rows.perm;
      opened = a.opened;
    }

-- the root's previous word stays
pub top-stays : {w : ℕ} {s₀ : Settings} {x : State} {W W' : WorldOf w s₀} {ws : ℕ → Worker} {c c' : Worker} {a : Answer} → Fine w s₀ x W ws → W.tree.prev 0 ≡ none → Rowing W W' c c' a → W'.tree.prev 0 ≡ none
top-stays f t (goes E b n e y) = E.prev_is 0 f.inv.structure.tree_ok.root ∙ t
top-stays f t (ends_new_lem k q e z) = ap (λ U. U.tree.prev 0) e ∙ t
top-stays f t (ends_found k q e z) = ap (λ U. U.tree.prev 0) e ∙ t
top-stays f t (ends_absent u e z) = ap (λ U. U.tree.prev 0) e ∙ t

-- a turn of worker i leaves the other workers' calls open
ended-others : (i j : ℕ) → j ≢ i → (n : ℕ) (a : Answer) (os : List Opened) → ended_by j n a (others i os) ≡ ended_by j n a os
unfolding ended_by others
ended-others i j h n a [] = refl
ended-others i j h n a (o ∷ os) = by (ended-others i j h n a os) (ℕ_discrete o.worker i)
  where
    by : ended_by j n a (others i os) ≡ ended_by j n a os → Dec (o.worker ≡ i) → ended_by j n a (others i (o ∷ os)) ≡ ended_by j n a (o ∷ os)
    by q (yes e) = ap (ended_by j n a) (pick_true _ _ _ (eq-eqb _ _ e)) ∙ (q ∙ sym (pick_false _ _ _ (ne_eqb _ _ (λ y. h (sym y ∙ e)))))
    by q (no e) =
        ap (ended_by j n a) (pick_false _ _ _ (ne_eqb _ _ e))
        ∙ ap (λ (cs : List Call). pick (eqb o.worker j) (record { start = o.index; end = n; pixel = o.pixel; answer = a } ∷ []) cs) q

newest_left : {os : List Opened} {j k p : ℕ} (i : ℕ) → j ≢ i → Newest os j k p → (a : Answer) → Newest (left_open i a os) j k p
unfolding left_open
newest_left i h o Nothing = o
newest_left {os} {j} i h o (New m) = record { ends = λ n a. ended-others i j h n a os ∙ o.ends n a }
newest_left {os} {j} i h o (Found m) = record { ends = λ n a. ended-others i j h n a os ∙ o.ends n a }
newest_left {os} {j} i h o Full = record { ends = λ n a. ended-others i j h n a os ∙ o.ends n a }
newest_left i h o Open = o
newest_left {os} {j} i h o Absent = record { ends = λ n a. ended-others i j h n a os ∙ o.ends n a }

-- after a turn of worker i that is answered v the other workers' open calls are as before, and worker i's if its call goes on
pub newest_stays : (s₀ : Settings) (ws : ℕ → Worker) {starts : ℕ → ℕ} {os : List Opened} → ((i : ℕ) → i < s₀.workers → (ws i).act ≢ idle → Newest os i (starts i) (ws i).key) → (i : ℕ) (c : Worker) (v : Answer) → (c.act ≢ idle → ((ws i).act ≢ idle) × ((c.key ≡ (ws i).key) × (left_open i v os ≡ os))) → (j : ℕ) → j < s₀.workers → (upd ws i c j).act ≢ idle → Newest (left_open i v os) j (starts j) (upd ws i c j).key
newest_stays s₀ ws {starts} {os} o i c v own j h b = by (ℕ_discrete j i)
  where
    mine : i < s₀.workers → c.act ≢ idle → Newest (left_open i v os) i (starts i) c.key
    mine l z = let (y, (e, q)) = own z in rw (e, q) (o i l y)

    by : Dec (j ≡ i) → Newest (left_open i v os) j (starts j) (upd ws i c j).key
    by (yes e) = rw (e, upd_same ws i c) (mine (rw e at h) (rw (e, upd_same ws i c) at b))
    by (no e) = rw (upd_other ws i c j e) (newest_left i e (o j h (rw (upd_other ws i c j e) at b)) v)

-- a start of worker i is the newest of that worker, and of no other
pub newest_first : (os : List Opened) (i k p : ℕ) → Newest (record { worker = i; index = k; pixel = p } ∷ os) i k p
unfolding ended_by
newest_first os i k p = record { ends = λ n a. pick_true _ _ _ (eq-eqb i i refl) }

pub newest_past : {os : List Opened} {j k p : ℕ} (o : Opened) → o.worker ≢ j → Newest os j k p → Newest (o ∷ os) j k p
unfolding ended_by
newest_past o h n = record { ends = λ m a. pick_false _ _ _ (ne_eqb _ _ h) ∙ n.ends m a }
