-- The state that an opening leaves: an empty table, every worker idle, the row empty.
-- Relies on the theory's table after an opening, on what the words show, and on the record of zeros.
use Prim.Native.Nat.{ℕ, ◌+◌, ◌*◌, ◌-◌, ◌≤◌, ◌<◌}
use mathlib.Core.Path.{◌≡◌, refl, sym, ap, ◌∙◌}
use mathlib.Core.Bool.{Bool, true, false}
use mathlib.Core.List.Memᴰ
use mathlib.Core.List.Permᴰ
use mathlib.Core.List.{List, []}
use native.Mathlib.Decide.{ℕ_discrete}
use native.Mathlib.Omega.{arith}
use lib.ListN.{length}
use Rattle.words.specs.Choice.{pick}
use Rattle.words.specs.Blocks.{fill}
use Rattle.words.proofs.Blocks.{length-fill, fill_in}
use Rattle.settings.specs.Sizes.{level_count, node_words, level_words, worker_words, question1, question2, fresh, views}
use Rattle.settings.specs.declared.Settings.{Settings}
use Rattle.settings.proofs.Laws.{room}
use Rattle.areas.specs.Memory.{Areas, Memory, none, pixel_at, next_at, previous_at, depth_at, entry_at}
use Rattle.record.specs.Kinds.{kind_no}
use Rattle.record.specs.Layout.{load, worker_place}
use Rattle.record.specs.Fits.{viewer_told, answer_fits}
use Rattle.record.proofs.Records.{idle, zero_words}
use Rattle.record.proofs.Apart.{place_next, room as word_room}
use native.Mathlib.Nat.{zero-add}
use Rattle.rules.specs.Opening.{opened_settings, opened_areas}
use Rattle.rules.specs.Operations.{record_of, memory_of, question2_of}
use Rattle.rules.specs.Lists.{state}
use Rattle.trie.proofs.Digits.{Dims}
use Rattle.trie.proofs.Update.{Cell, ent, nxt, upd_same, upd_other}
use Rattle.trie.proofs.Count.{Counted}
use Rattle.trie.proofs.Sum.{sum, sum_zero}
use Rattle.trie.proofs.World.{World}
use Rattle.trie.proofs.Fresh.{Fresh}
use Rattle.trie.proofs.Opening as theory
use Rattle.trie.proofs.Levels.{Levels, holding}
use Rattle.rules.proofs.Dims.{Width}
use Rattle.rules.proofs.Words.{Shows, shows_level}
use Rattle.rules.proofs.RowEnds.{pairs}
use Rattle.rules.proofs.Matches.{Matches, rests}
use Rattle.rules.specs.Calls.{done}
use Rattle.rules.proofs.Invariant.{WorldOf, Table, Fine, Role}
use Rattle.rules.proofs.Along.{Along}

-- the cells' words as a function
abbrev pub cells_of : ℕ → Memory → Cell → ℕ
cells_of w m (ent g e) = entry_at w m.levels g e
cells_of w m (nxt i) = next_at m.nodes i

-- the words of any content show the functions that read them
reads : (w n l : ℕ) (m : Memory) → node_words * n ≤ length m.nodes → level_words w * l ≤ length m.levels → Shows w n l m (pixel_at m.nodes) (cells_of w m) (previous_at w m.levels) (depth_at w m.levels)
reads w n l m h k = record { node_room = h; level_room = k; pixel_is = λ i l. refl; next_is = λ i l. refl; prev_is = λ g l. refl; depth_is = λ g l. refl; entry_is = λ g e l q. refl }

-- no number of a node is taken; of the levels the root alone
fresh_nodes : Fresh (λ n. 1) 0
fresh_nodes = record { beyond = λ n l. refl; within = λ n e. omega arith }

fresh_levels : Fresh theory.owners 1
fresh_levels =
    record {
      beyond = λ g l. upd_other {A = ℕ} (λ n. 1) 0 0 g (λ e. omega arith);
      within = λ g e. by g e (ℕ_discrete g 0);
    }
  where
    by : (g : ℕ) → theory.owners g ≡ 1 → Dec (g ≡ 0) → 1 ≤ g
    by g e (yes z) = let y : ◌≡◌ {A = ℕ} 0 1 = sym (ap theory.owners z ∙ upd_same {A = ℕ} (λ n. 1) 0 0) ∙ e in absurd (omega arith)
    by g e (no z) = omega (arith, z)

-- no level but the root is counted, and no worker holds one
none_held : (workers : ℕ) → sum workers (holding (λ i. theory.fresh)) ≡ 0
unfolding holding
none_held workers = sum_zero workers (holding (λ i. theory.fresh)) (λ i. omega arith)

counted : {δ : Dims} (W : World δ) → Counted W (λ d. []) (λ d. 0)
counted {δ} W = record { once = λ d. tt; placed = λ d n i. absurd (Memᴰ.not-nil i); under = λ d n i. absurd (Memᴰ.not-nil i); sizes = λ d. omega arith }

levels : {δ : Dims} (W : World δ) (workers : ℕ) → Levels W (λ i. theory.fresh) workers 1
levels {δ} W workers =
    let z = none_held workers in
    let y = sum_zero (δ.depths - 1) (λ d. 0) (λ d. refl) in
    record { covered = λ d. []; count = λ d. 0; counted = counted W; total = omega arith }

-- a zeroed record is a viewer's and another worker's
fresh_role : (v : Bool) → Role v idle.head
unfolding answer_fits viewer_told kind_no pick
fresh_role true = record { rest = λ y. refl; call = λ y. absurd (y refl); holds_none = λ y. (refl, refl) }
fresh_role false = record { rest = λ y. refl; call = λ y. absurd (y refl); holds_none = λ y. (refl, refl) }

-- the workers' words are zeros
pub zero_record : (l : List ℕ) (workers i : ℕ) → i < workers → worker_words * workers ≤ length l → load (fill l 0 (worker_words * workers) 0) i ≡ idle
unfolding worker_place
zero_record l workers i h r =
    zero_words (fill l 0 (worker_words * workers) 0) i
    (λ k q.
    let p = place_next h in
    let b = word_room in
    let e : worker_words * i + k < worker_words * workers = omega arith in
    rw zero-add at (fill_in (worker_words * workers) l 0 0 (worker_words * i + k) e (omega arith)))

-- after an opening a record is the one of zeros
pub opened_record : (w : ℕ) (s : Settings) (a : Areas) (i : ℕ) → i < s.workers → question2_of w s a ≡ true → record_of (opened_areas w s a) i ≡ idle
unfolding opened_areas
opened_record w s a i h q = zero_record a.workers s.workers i h (room w s (length a.nodes) (length a.levels) (length a.workers) q).workers

module _ {w : ℕ} (width : Width w) (s : Settings) (a : Areas) (y : question1 s ≡ true) (r : question2 w s (length a.nodes) (length a.levels) (length a.workers) ≡ true) where
  -- the world: what the words held before stays in its functions wherever the opening did not write
  abbrev pub opened : WorldOf w s
  opened = theory.opened (pixel_at a.nodes) (cells_of w (memory_of a)) (previous_at w a.levels) (depth_at w a.levels) none

  table : Table w s (opened_settings s) (memory_of (opened_areas w s a)) opened
  unfolding opened_settings opened_areas fresh level_count
  table =
      let R = room w s (length a.nodes) (length a.levels) (length a.workers) r in
      record {
        width = width;
        ranges = y;
        same = record { width_is = refl; workers_is = refl; limit_is = refl; nodes_is = refl; viewers_is = refl };
        shows = shows_level (reads w s.nodes (level_count w s) (memory_of a) R.nodes R.levels) 0 none 0 some_level;
        nodes_fresh = fresh_nodes;
        levels_fresh = fresh_levels;
        nodes_le = omega arith;
        levels_le = some_level;
      }
    where
      some_level : 0 < level_count w s
      some_level = omega arith

  pub fine_opened : Fine w s (state (opened_settings s) (opened_areas w s a)) opened (λ i. theory.fresh)
  unfolding opened_areas opened_settings fresh
  fine_opened =
      let R = room w s (length a.nodes) (length a.levels) (length a.workers) r in
      record {
        table = table;
        room = rw length-fill R.workers;
        inv = theory.opened_inv (pixel_at a.nodes) (cells_of w (memory_of a)) (previous_at w a.levels) (depth_at w a.levels) none width.some;
        levels = levels opened s.workers;
        records = λ i h. rw (zero_record a.workers s.workers i h R.workers) matched;
        roles = λ i h. rw (zero_record a.workers s.workers i h R.workers) (fresh_role (views s i));
      }
    where
      matched : Matches idle theory.fresh
      matched = record { pixel_is = refl; node_is = refl; level_is = refl; doing = rests refl refl }

  pub along_opened : Along w s (state (opened_settings s) (opened_areas w s a)) 0 [] []
  unfolding pairs
  along_opened =
      record {
        world = opened;
        workers = λ i. theory.fresh;
        starts = λ i. 0;
        fine = fine_opened;
        top = upd_same (previous_at w a.levels) 0 none;
        rows = record {
          row = [];
          rowed = record { rows = record { run = done refl; ordered = tt; late = tt; past = λ c i. absurd (Memᴰ.not-nil i) }; open_calls = λ i b. absurd (b refl) };
          perm = Permᴰ.nil;
        };
        opened = λ i h b. absurd (b refl);
      }
