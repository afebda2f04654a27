-- A worker's record is stored: the state after it is fine, the other workers' records stay.
-- Relies on the laws of load and store, and on that a record of the invariant is well formed.
use Prim.Native.Nat.{ℕ, ◌+◌, ◌*◌, ◌≤◌, ◌<◌}
use mathlib.Core.Path.{◌≡◌}
use mathlib.Core.List.{List}
use native.Mathlib.Decide.{ℕ_discrete}
use native.Mathlib.Omega.{arith}
use lib.ListN.{length}
use Rattle.settings.specs.Sizes.{worker_words, most_moves, views}
use Rattle.settings.specs.declared.Settings.{Settings}
use Rattle.areas.specs.Memory.{Memory, areas}
use Rattle.record.specs.Layout.{Record, load, store, moves_at}
use Rattle.record.proofs.Records.{WellFormed, load_store, load_other, length-store}
use Rattle.record.proofs.Pieces.{length-first}
use Rattle.record.proofs.Apart.{place_next}
use Rattle.rules.specs.Lists.{State, state}
use Rattle.trie.proofs.Update.{upd, upd_same, upd_other}
use Rattle.trie.proofs.Levels.{Levels}
use Rattle.trie.proofs.Whole.{Worker, Inv}
use Rattle.rules.proofs.Matches.{Matches}
use Rattle.rules.proofs.Invariant.{WorldOf, Table, Role, Fine, at}
use Rattle.rules.proofs.Fitting.{well_formed}

-- a record in the words has as many Moves as its word says
pub moves_few : (l : List ℕ) (i : ℕ) → WellFormed (load l i) → moves_at l i ≤ most_moves
unfolding load
moves_few l i k = rw (length-first l i (moves_at l i)) at k.few

module _ {w : ℕ} {s₀ : Settings} {x : State} {W : WorldOf w s₀} {ws : ℕ → Worker} (f : Fine w s₀ x W ws) (i : ℕ) (here : i < s₀.workers) where
  pub fine_after : {s : Settings} {m : Memory} {W' : WorldOf w s₀} {c : Worker} {r : Record} → Table w s₀ s m W' → Inv W' (upd ws i c) → Levels W' (upd ws i c) s₀.workers s.levels_taken → Matches r c → Role (views s₀ i) r.head → Fine w s₀ (state s (areas m.nodes m.levels (store r i x.areas.workers))) W' (upd ws i c)
  fine_after {s} {m} {W'} {c} {r} T I L k p =
      record {
        table = T;
        room = rw (length-store w r i x.areas.workers) f.room;
        inv = I;
        levels = L;
        records = λ j h. by j h (ℕ_discrete j i);
        roles = λ j h. role j h (ℕ_discrete j i);
      }
    where
      mine : Matches r (upd ws i c i)
      mine = rw (upd_same ws i c) k

      formed : WellFormed r
      formed = well_formed (record { table = T; inv = I; levels = L; here = here; matches = mine; role = p })

      room : worker_words * i + worker_words ≤ length x.areas.workers
      room = let h = place_next here in let g = f.room in omega arith

      by : (j : ℕ) → j < s₀.workers → Dec (j ≡ i) → Matches (load (store r i x.areas.workers) j) (upd ws i c j)
      by j h (yes e) = rw (e, load_store w r i x.areas.workers formed room) mine
      by j h (no e) = rw (load_other w r i j x.areas.workers formed e (moves_few x.areas.workers j (well_formed (at f j h))), upd_other ws i c j e) (f.records j h)

      role : (j : ℕ) → j < s₀.workers → Dec (j ≡ i) → Role (views s₀ j) (load (store r i x.areas.workers) j).head
      role j h (yes e) = rw (e, load_store w r i x.areas.workers formed room) p
      role j h (no e) = rw (load_other w r i j x.areas.workers formed e (moves_few x.areas.workers j (well_formed (at f j h)))) (f.roles j h)
