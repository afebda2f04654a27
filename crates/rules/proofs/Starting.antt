-- A start along a sequence: a call opens, or nothing happens; 6 is not given.
-- Relies on what holds along a sequence, on demand 1 of a start, and on that a stored record keeps the state fine.
use Prim.Native.Nat.{ℕ, suc, ◌^◌, ◌≤◌, ◌<◌}
use mathlib.Core.Path.{◌≡◌, refl, sym}
use mathlib.Core.Logic.{◌≢◌}
use mathlib.Core.Bool.{Bool, true}
use mathlib.Core.List.{List, ◌∷◌}
use native.Mathlib.Decide.{ℕ_discrete}
use native.Mathlib.Omega.{arith}
use lib.Dec.{leb}
use lib.ListN.{length}
use borrow.Author.Tests.{leb-true}
use Rattle.words.specs.Choice.{every}
use Rattle.words.specs.Digits.{base, depths, pixel_number, max_pixel}
use Rattle.words.proofs.Choice.{both_left, both_right}
use Rattle.settings.specs.Sizes.{views}
use Rattle.settings.specs.declared.Settings.{Settings}
use Rattle.rules.specs.Heads.{started}
use Rattle.rules.specs.Asked.{question4, question5, question17, question7}
use Rattle.rules.specs.Operations.{record_of, start_questions, started_areas}
use Rattle.rules.specs.Lists.{State, state}
use Rattle.rules.specs.Calls.{Call, Opened}
use Rattle.rules.specs.Refusals.{AllYes}
use Rattle.trie.proofs.Update.{upd, upd_same, upd_other}
use Rattle.trie.proofs.Evolve.{grows_refl}
use Rattle.trie.proofs.Stand.{at_entry}
use Rattle.trie.proofs.Search.{peek}
use Rattle.trie.proofs.Search as search
use Rattle.trie.proofs.Levels.{levels_stay}
use Rattle.trie.proofs.Whole.{idle, searching, Worker, is_searching_lem, stay_step}
use Rattle.rules.proofs.RowSteps.{rowed_start}
use Rattle.rules.proofs.RowTurns.{Newest}
use Rattle.rules.proofs.Matches.{entry, peeks, searches}
use Rattle.rules.proofs.Invariant.{WorldOf, Fine, at}
use Rattle.rules.proofs.Stored.{fine_after}
use Rattle.rules.proofs.Roles.{start_role}
use Rattle.rules.proofs.Along.{Along, below, newest_first, newest_past}

-- the yes of a start's questions
pub record StartYes (w : ℕ) (s : Settings) (looks : Bool) (i row column : ℕ) (x : State) : Type 0 where
  pub below : question4 s i ≡ true
  pub inside : question5 row column ≡ true
  pub right : question17 s looks i ≡ true
  pub is_idle : question7 (record_of x.areas i) ≡ true

pub start_yes : (w : ℕ) (x : State) (looks : Bool) (i row column : ℕ) → AllYes (start_questions w x.settings looks i row column x.areas) → StartYes w x.settings looks i row column x
unfolding start_questions every
start_yes w x looks i row column y =
    let y₂ = both_right _ _ y in
    let y₃ = both_right _ _ y₂ in
    let y₄ = both_right _ _ y₃ in
    let y₅ = both_right _ _ y₄ in
    let y₆ = both_right _ _ y₅ in
    let y₇ = both_right _ _ y₆ in
    let y₈ = both_right _ _ y₇ in
    record { below = both_left _ _ y₄; inside = both_left _ _ y₅; right = both_left _ _ y₆; is_idle = both_left _ _ y₈ }

pixel_small : (row column : ℕ) → question5 row column ≡ true → pixel_number row column ≤ max_pixel
unfolding question5 pixel_number
pixel_small row column q =
    let a : row ≤ 4095 = leb-true _ _ (both_left _ _ q) in
    let b : column ≤ 4095 = leb-true _ _ (both_right (leb row 4095) _ q) in
    omega arith

-- the worker that has begun a call for pixel number p, when the book has b pairs
abbrev pub begun : Worker → ℕ → ℕ → Worker
begun c p b = record { key = p; since = b; node = c.node; level = c.level; act = searching (peek 0 at_entry) }

-- the state after a start
module _ {w : ℕ} {s₀ : Settings} {x : State} {W : WorldOf w s₀} {ws : ℕ → Worker} (F : Fine w s₀ x W ws) (i row column : ℕ) (here : i < s₀.workers) (inside : question5 row column ≡ true) where
  -- the worker that has begun its call
  abbrev pub starter : Worker
  starter = begun (ws i) (pixel_number row column) (length W.book)

  pub fine_started : Fine w s₀ (state x.settings (started_areas i row column x.areas)) W (upd ws i starter)
  unfolding started_areas started
  fine_started =
      let K = (at F i here).matches in
      let e = pixel_small row column inside in
      let l : pixel_number row column < suc max_pixel = omega arith in
      let small : pixel_number row column < base w ^ depths w = rw F.table.width.all l in
      let I = stay_step F.inv i starter (record {
        acts = is_searching_lem small (omega arith) (search.starts F.inv.structure F.inv.partition small);
        holds_node = (F.inv.each i).holds_node;
        holds_level = (F.inv.each i).holds_level;
      }) in
      fine_after F i here F.table I (levels_stay F.levels i here starter (grows_refl W) refl) (record { pixel_is = refl; node_is = K.node_is; level_is = K.level_is; doing = searches refl refl (peeks refl entry) }) (start_role (views s₀ i) (pixel_number row column) (record_of x.areas i).head (F.roles i here))

module _ {w : ℕ} {s₀ : Settings} {x : State} {k : ℕ} {os : List Opened} {cs : List Call} (a : Along w s₀ x k os cs) (looks : Bool) (i row column : ℕ) where
  pub opened-start : StartYes w x.settings looks i row column x → Along w s₀ (state x.settings (started_areas i row column x.areas)) (suc k) (record { worker = i; index = k; pixel = pixel_number row column } ∷ os) cs
  opened-start y =
      record {
        world = a.world;
        workers = upd a.workers i c;
        starts = upd a.starts i k;
        fine = fine_started a.fine i row column (below a y.below) y.inside;
        top = a.top;
        rows = record { row = a.rows.row; rowed = rowed_start a.rows.rowed i c refl; perm = a.rows.perm };
        opened = λ j l b. newest j l b (ℕ_discrete j i);
      }
    where
      c : Worker
      c = begun (a.workers i) (pixel_number row column) (length a.world.book)

      newest : (j : ℕ) → j < s₀.workers → (upd a.workers i c j).act ≢ idle → Dec (j ≡ i) → Newest (record { worker = i; index = k; pixel = pixel_number row column } ∷ os) j (upd a.starts i k j) (upd a.workers i c j).key
      newest j l b (yes e) = rw (e, upd_same a.workers i c, upd_same a.starts i k) (newest_first os i k (pixel_number row column))
      newest j l b (no e) =
          rw (upd_other a.workers i c j e, upd_other a.starts i k j e)
          (newest_past (record { worker = i; index = k; pixel = pixel_number row column }) (λ q. e (sym q)) (a.opened j l (rw (upd_other a.workers i c j e) at b)))
