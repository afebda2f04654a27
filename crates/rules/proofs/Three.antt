-- Questions 1 to 3 stay answered yes over a turn of any worker, over settings and memory of any content.
-- Relies on that a turn makes one access, and on what questions 6 and 9 say where a number is taken.
use Prim.Native.Nat.{ℕ, ◌+◌, ◌<◌}
use mathlib.Core.Path.{◌≡◌, refl, sym, ap, subst, ◌∙◌}
use mathlib.Core.Bool.{Bool, true}
use mathlib.Core.List.{List, []}
use native.Mathlib.Decide.{ℕ_discrete}
use native.Mathlib.Omega.{arith}
use lib.Dec.{eqb, ltb, leb}
use lib.ListN.{length}
use borrow.Author.Tests.{ltb-true, le-leb}
use Rattle.words.specs.Choice.{pick, every}
use Rattle.words.proofs.Choice.{pick-both, pick_true, both_left, both_right, both_true}
use Rattle.settings.specs.Sizes.{within, level_count, views, question1, question2, question3}
use Rattle.settings.specs.declared.Settings.{Settings}
use Rattle.areas.specs.Memory.{Memory, cell_at, set_cell, fill_node, fill_level}
use Rattle.areas.specs.declared.Cell.{Cell}
use Rattle.areas.proofs.Cells.{set-length_nodes, set-length_levels}
use Rattle.record.specs.declared.Kind.{Kind}
use Rattle.record.specs.declared.Kind.TheVariants.{Idle, Look, Take, Put, Read, Tail, TakeTail, Append, Level, Close, Follow, ChainHead, ChainNext, SetNext, SetLook, SetPut, SetRead, SetTail, SetAppend, SetLevel, SetClose, SetFollow, MoveEnd, Unknown}
use Rattle.record.specs.declared.Head.{Head}
use Rattle.record.specs.declared.Move.{Move}
use Rattle.record.specs.Kinds.{kind_no}
use Rattle.record.specs.Layout.{Record}
use Rattle.record.proofs.Records.{length-store}
use Rattle.rules.specs.Steps.{Step, took_node, took_level, with_node, take_node, with_level, take_level, exchanging, closed}
use Rattle.rules.specs.Searching as searching
use Rattle.rules.specs.Searching.{takes_node}
use Rattle.rules.specs.Moving as moving
use Rattle.rules.specs.Acts.{act_by, act}
use Rattle.rules.specs.Asked.{level_left, takes_level, reads_by, node_left, question4, question6, question9}
use Rattle.rules.specs.Operations.{Result, record_of, memory_of, question2_of, unless_refused, turn_questions, taken, full, turn}
use Rattle.rules.specs.Lists.{State, after}
use Rattle.rules.specs.Refusals.{AllYes}
use Rattle.rules.specs.Access.{Access}
use Rattle.rules.specs.Access as access
use Rattle.rules.proofs.OneTurn.{done_number, nine_is_full, turn-refused, refuses-turn}
use Rattle.rules.proofs.Exchanging.{exchange-both}
use Rattle.rules.proofs.Invariant.{SameSizes}
use Rattle.rules.proofs.ExcessWords.{same_node, same_level}
use Rattle.rules.proofs.ExcessActs.{sizes_same}
use Rattle.rules.proofs.Access.{one_access}

-- the questions, and how many workers there are
pub record Three (w workers : ℕ) (x : State) : Type 0 where
  pub workers_is : x.settings.workers ≡ workers
  pub one : question1 x.settings ≡ true
  pub two : question2_of w x.settings x.areas ≡ true
  pub three : question3 w x.settings ≡ true

-- a node or a level that is filled
node_length : (nodes : List ℕ) (i p n : ℕ) → length (fill_node nodes i p n) ≡ length nodes
node_length nodes i p n = (same_node {n = i + 1} nodes i p n (omega arith)).size

level-length : (w : ℕ) (levels : List ℕ) (g p d : ℕ) → length (fill_level w levels g p d) ≡ length levels
level-length w levels g p d = (same_level w {n = g + 1} levels g p d (omega arith)).size

-- one access leaves the sizes: what holds of the settings, whatever is taken, holds after it
settings_by : {w : ℕ} {s s' : Settings} {h : Head} {m m' : Memory} (P : Settings → Type 0) → P s → P (took_node s) → P (took_level s) → Access w s h m s' m' → P s'
settings_by P p n g (access.none e f) = subst P (sym e) p
settings_by P p n g (access.cell x v i e f) = subst P (sym e) p
settings_by P p n g (access.next_node pixel next e f) = subst P (sym e) n
settings_by P p n g (access.spare_node i pixel next o e f) = subst P (sym e) p
settings_by P p n g (access.next_level previous depth e f) = subst P (sym e) g
settings_by P p n g (access.spare-level i previous depth o e f) = subst P (sym e) p

-- and the areas' lengths
abbrev SameLengths : Memory → Memory → Type 0
SameLengths m m' = (length m'.nodes ≡ length m.nodes) × (length m'.levels ≡ length m.levels)

lengths_by : {w : ℕ} {s s' : Settings} {h : Head} {m m' : Memory} → Access w s h m s' m' → SameLengths m m'
lengths_by {w} {s} {s'} {h} {m} (access.none e f) = subst (SameLengths m) (sym f) (refl, refl)
lengths_by {w} {s} {s'} {h} {m} (access.cell x v i e f) = subst (SameLengths m) (sym f) (set-length_nodes w m x v, set-length_levels w m x v)
lengths_by {w} {s} {s'} {h} {m} (access.next_node p n e f) = subst (SameLengths m) (sym f) (node_length m.nodes _ p n, refl)
lengths_by {w} {s} {s'} {h} {m} (access.spare_node i p n o e f) = subst (SameLengths m) (sym f) (node_length m.nodes i p n, refl)
lengths_by {w} {s} {s'} {h} {m} (access.next_level p d e f) = subst (SameLengths m) (sym f) (refl, level-length w m.levels _ p d)
lengths_by {w} {s} {s'} {h} {m} (access.spare-level g p d o e f) = subst (SameLengths m) (sym f) (refl, level-length w m.levels g p d)

-- the counters stay in range, by kind
module _ (w : ℕ) (s : Settings) (h : Head) (m : Memory) (q : question3 w s ≡ true) where
  abbrev Counted : Step → Type 0
  Counted t = question3 w t.settings ≡ true

  either : (b : Bool) (t u : Step) → Counted t → Counted u → Counted (pick b t u)
  either b t u p r = pick-both Counted b (λ e. p) (λ e. r)

  exchanged : (x : Cell) (b : ℕ) (done : Memory → Step) (failed : ℕ → Memory → Step) → Counted (done (set_cell w m x b)) → Counted (failed (cell_at w m x) m) → Counted (exchanging w h x b done failed m)
  exchanged x b done failed p r = exchange-both Counted w h x b done failed m (λ e. p) (λ e. r)

  met-counted : (c g word : ℕ) → Counted (searching.met s h c g word m)
  unfolding searching.met searching.met_node
  met-counted c g word = search (either, q)

  take_counted : (k : Kind) → node_left s h ≡ true → Counted (take_node k s h m)
  unfolding take_node with_node took_node node_left question3 level_count
  take_counted k y =
      pick-both Counted (eqb h.held_node 0)
      (λ e.
      let l : s.nodes_taken < s.nodes = ltb-true _ _ (sym (pick_true _ _ _ e) ∙ y) in
      both_true (le-leb (s.nodes_taken + 1) s.nodes (omega arith)) (both_right (leb s.nodes_taken s.nodes) _ q))
      (λ e. q)

  level-counted : (k : Kind) (ms : List Move) → takes_level w s h m.levels ≡ true → Counted (take_level w k s h ms m)
  unfolding take_level with_level took_level takes_level level_left question3 within level_count
  level-counted k ms y =
      pick-both Counted (eqb h.held_level 0)
      (λ e.
      let l : s.levels_taken < level_count w s = ltb-true _ _ (sym (pick_true _ _ _ e) ∙ both_right _ _ (both_right _ _ (both_right _ _ y))) in
      both_true (both_left _ _ q) (both_true (le-leb 1 (s.levels_taken + 1) (omega arith)) (le-leb (s.levels_taken + 1) (level_count w s) (omega arith))))
      (λ e. q)

  viewed-counted : (looks : Bool) (h' : Head) → Counted (searching.viewed looks s h' m)
  unfolding searching.viewed
  viewed-counted looks h' = pick-both Counted _ (λ e. q) (λ e. q)

  -- question 9 asks for a node where one is taken
  left-take : pick (takes_node Take) (node_left s h) true ≡ true → node_left s h ≡ true
  unfolding takes_node kind_no pick
  left-take y = y

  left-tail : pick (takes_node TakeTail) (node_left s h) true ≡ true → node_left s h ≡ true
  unfolding takes_node kind_no pick
  left-tail y = y

  kind_counted : (looks : Bool) (k : Kind) (ms : List Move) → reads_by k w s h ms m ≡ true → pick (takes_node k) (node_left s h) true ≡ true → Counted (act_by k w looks s h ms m)
  unfolding act_by reads_by closed searching.look searching.take searching.put searching.placed searching.read searching.read_word searching.tail searching.take_tail searching.append searching.level searching.close searching.follow searching.follow_word moving.chain_head moving.chain_next moving.chain_word moving.set_last moving.set_next moving.set_look moving.set_put moving.set_node moving.set_read moving.set_read_word moving.set_met moving.set_tail moving.set_append moving.set_level moving.set_close moving.set_follow moving.set_follow_word moving.move_end
  kind_counted looks Idle ms y n = q
  kind_counted looks Look ms y n = viewed-counted looks _
  kind_counted looks Take ms y n = take_counted Put (left-take n)
  kind_counted looks Put ms y n = exchanged _ _ _ _ q (met-counted _ _ _)
  kind_counted looks Read ms y n = met-counted _ _ _
  kind_counted looks Tail ms y n = viewed-counted looks _
  kind_counted looks TakeTail ms y n = take_counted Append (left-tail n)
  kind_counted looks Append ms y n = exchanged _ _ _ _ q (met-counted _ _ _)
  kind_counted looks Level ms y n = level-counted Close [] y
  kind_counted looks Close ms y n = exchanged _ _ _ _ q (met-counted _ _ _)
  kind_counted looks Follow ms y n = met-counted _ _ _
  kind_counted looks ChainHead ms y n = search (either, q)
  kind_counted looks ChainNext ms y n = search (either, q)
  kind_counted looks SetNext ms y n = q
  kind_counted looks SetLook ms y n = q
  kind_counted looks SetPut ms y n = exchanged _ _ _ _ q q
  kind_counted looks SetRead ms y n = q
  kind_counted looks SetTail ms y n = q
  kind_counted looks SetAppend ms y n = exchanged _ _ _ _ q q
  kind_counted looks SetLevel ms y n = level-counted SetClose _ y
  kind_counted looks SetClose ms y n = exchanged _ _ _ _ q q
  kind_counted looks SetFollow ms y n = q
  kind_counted looks MoveEnd ms y n = q
  kind_counted looks Unknown ms y n = q

module _ (w : ℕ) (x : State) (i : ℕ) where
  abbrev its : Result
  its = turn w x.settings i x.areas

  -- a turn whose questions are all answered yes
  act-counted : question3 w x.settings ≡ true → AllYes (turn_questions w x.settings i x.areas) → question3 w (act w (views x.settings i) x.settings (record_of x.areas i) (memory_of x.areas)).settings ≡ true
  unfolding turn_questions every act question6 question9
  act-counted q y =
      let r : Record = record_of x.areas i in
      let y₆ = both_right _ _ (both_right _ _ (both_right _ _ (both_right _ _ y))) in
      kind_counted w x.settings r.head (memory_of x.areas) q (views x.settings i) r.head.kind r.moves (both_right _ _ (both_left _ _ y₆)) (both_left _ _ (both_right _ _ (both_right _ _ y₆)))

  counters_stay : question3 w x.settings ≡ true → question3 w its.reply.settings ≡ true
  unfolding taken full
  counters_stay q = by (ℕ_discrete its.reply.number 0) (ℕ_discrete its.reply.number 9)
    where
      by : Dec (its.reply.number ≡ 0) → Dec (its.reply.number ≡ 9) → question3 w its.reply.settings ≡ true
      by (yes z) d =
          ap (λ (r : Result). question3 w r.reply.settings) (done_number w x.settings i x.areas z)
          ∙ act-counted q ((refuses-turn w x.settings i x.areas).numbered.carried.0 z)
      by (no z) (yes e) = ap (λ (r : Result). question3 w r.reply.settings) (nine_is_full w x.settings i x.areas e) ∙ q
      by (no z) (no e) = ap (λ (r : Result). question3 w r.reply.settings) (turn-refused w x.settings i x.areas z e) ∙ q

  workers_length : length its.areas.workers ≡ length x.areas.workers
  unfolding turn unless_refused full taken
  workers_length =
      pick-both (λ (r : Result). length r.areas.workers ≡ length x.areas.workers) _
      (λ e. length-store w _ i x.areas.workers)
      (λ e. pick-both (λ (r : Result). length r.areas.workers ≡ length x.areas.workers) _ (λ z. length-store w _ i x.areas.workers) (λ z. refl))

  pub sizes_stay : SameSizes x.settings its.reply.settings
  unfolding took_node took_level
  sizes_stay =
      settings_by (SameSizes x.settings) (sizes_same x.settings)
      (record { width_is = refl; workers_is = refl; limit_is = refl; nodes_is = refl; viewers_is = refl })
      (record { width_is = refl; workers_is = refl; limit_is = refl; nodes_is = refl; viewers_is = refl })
      (one_access w x.settings i x.areas)

  pub three_stays : {workers : ℕ} → Three w workers x → Three w workers (after its)
  unfolding question1 question2 level_count took_node took_level
  three_stays {workers} y =
      let A = one_access w x.settings i x.areas in
      record {
        workers_is = sizes_stay.workers_is ∙ y.workers_is;
        one = settings_by (λ s. question1 s ≡ true) y.one y.one y.one A;
        two = rw ((lengths_by A).0, (lengths_by A).1, workers_length) (settings_by (λ s. question2_of w s x.areas ≡ true) y.two y.two y.two A);
        three = counters_stay y.three;
      }

-- question 4 of a worker
pub below_workers : {w workers : ℕ} {x : State} (i : ℕ) → Three w workers x → ltb i workers ≡ true → question4 x.settings i ≡ true
unfolding question4
below_workers i y e = rw y.workers_is e
