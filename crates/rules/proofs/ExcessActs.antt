-- What a turn does, by kind: where its questions are answered yes, it writes only below the sizes, and its record has room.
-- Relies on the definitions of the kinds and of question 6, and on what a write below the sizes leaves.
use Prim.Native.Nat.{ℕ, ◌-◌, ◌≤◌, ◌<◌}
use mathlib.Core.Path.{◌≡◌, refl, sym, ◌∙◌}
use mathlib.Core.Logic.{◌≢◌}
use mathlib.Core.Bool.{Bool, true, false}
use mathlib.Core.List.{List, [], ◌∷◌}
use native.Mathlib.Omega.{arith}
use lib.Dec.{eqb, leb}
use borrow.Author.Tests.{leb-true, ltb-true, eqb-false}
use Rattle.words.specs.Choice.{pick}
use Rattle.words.proofs.Choice.{pick-both, pick_true, both_left, both_right}
use Rattle.settings.specs.Sizes.{max_moves, most_moves, level_count, question3}
use Rattle.settings.specs.declared.Settings.{Settings}
use Rattle.settings.proofs.Laws.{within_true}
use Rattle.areas.specs.Memory.{Memory, is_node, entry_cell, cell_at, level_taken, node_taken}
use Rattle.areas.specs.declared.Cell.{Cell}
use Rattle.areas.specs.declared.Cell.TheVariants.{Next}
use Rattle.record.specs.declared.Answer.{Answer}
use Rattle.record.specs.declared.Kind.{Kind}
use Rattle.record.specs.declared.Kind.TheVariants.{Idle, Look, Take, Put, Read, Tail, TakeTail, Append, Level, Close, Follow, ChainHead, ChainNext, SetNext, SetLook, SetPut, SetRead, SetTail, SetAppend, SetLevel, SetClose, SetFollow, MoveEnd, Unknown}
use Rattle.record.specs.declared.Head.{Head}
use Rattle.record.specs.declared.Move.{Move}
use Rattle.record.specs.Kinds.{kind_no}
use Rattle.record.specs.Layout.{new_move}
use Rattle.rules.specs.Heads.{last_node}
use Rattle.rules.specs.Steps.{Step, step, expected, took_node, took_level, with_node, take_node, with_level, take_level, closed}
use Rattle.rules.specs.Searching as searching
use Rattle.rules.specs.Moving as moving
use Rattle.rules.specs.Acts.{inner, outer, act_by}
use Rattle.rules.specs.Asked.{picks_in, spare, level_left, move_left, exchanges, takes, stands_at, stands_setting, stands_with, takes_level, picks_with, puts, appends, closes, picks_home, move_ends, set_nexts, set_entry, set_puts, set_appends, set_closes, node_left, reads_by}
use Rattle.rules.proofs.Exchanging.{exchange-both}
use Rattle.rules.proofs.Invariant.{SameSizes}
use Rattle.rules.proofs.ExcessWords.{same_refl, same_node, same_level, SameMemory, memory_refl, CellBelow, digit_below, same_cell}
use Rattle.rules.proofs.ExcessRecords.{FitWords, fit_none, one_move, whole, around, pushed, remembered, forgotten}

-- a step that leaves the excess, keeps the sizes, and whose record has room
pub record Leaves (w : ℕ) (s : Settings) (m : Memory) (t : Step) : Type 0 where
  pub memory : SameMemory w s m t.memory
  pub moves : FitWords t.record'.moves
  pub sizes : SameSizes s t.settings

-- the sizes stay, also where one more node or level is taken
pub sizes_same : (s : Settings) → SameSizes s s
sizes_same s = record { width_is = refl; workers_is = refl; limit_is = refl; nodes_is = refl; viewers_is = refl }

sizes_node : (s : Settings) → SameSizes s (took_node s)
unfolding took_node
sizes_node s = record { width_is = refl; workers_is = refl; limit_is = refl; nodes_is = refl; viewers_is = refl }

sizes_level : (s : Settings) → SameSizes s (took_level s)
unfolding took_level
sizes_level s = record { width_is = refl; workers_is = refl; limit_is = refl; nodes_is = refl; viewers_is = refl }

-- a spare number (held, plus 1) lies below what is taken
spare_below : {held taken size : ℕ} → eqb held 0 ≡ false → held ≤ taken → taken ≤ size → held - 1 < size
spare_below {held} e l n = let z : held ≢ 0 = eqb-false _ _ e in omega arith

-- numbers that are taken lie below the sizes
module _ (w : ℕ) (few : max_moves w ≤ most_moves) (s : Settings) (q : question3 w s ≡ true) where
  nodes_le : s.nodes_taken ≤ s.nodes
  unfolding question3
  nodes_le = leb-true _ _ (both_left _ _ q)

  levels_le : s.levels_taken ≤ level_count w s
  unfolding question3
  levels_le = (within_true _ _ (both_right (leb s.nodes_taken s.nodes) _ q)).high

  node_below : {i : ℕ} → node_taken s i ≡ true → i < s.nodes
  unfolding node_taken
  node_below {i} e = let t : i < s.nodes_taken = ltb-true _ _ e in let l = nodes_le in omega arith

  level_below : {g : ℕ} → level_taken s g ≡ true → g < level_count w s
  unfolding level_taken
  level_below {g} e = let t : g < s.levels_taken = ltb-true _ _ e in let l = levels_le in omega arith

  -- an entry that is picked in a level
  entry_below : (g p : ℕ) (levels : List ℕ) → picks_in w s g levels ≡ true → CellBelow w s (entry_cell w levels g p)
  unfolding picks_in
  entry_below g p levels e = digit_below w s levels g p (level_below (both_left _ _ e))

  stands_below : (h : Head) → stands_at s h ≡ true → h.node < s.nodes
  unfolding stands_at
  stands_below h e = node_below (both_right _ _ e)

  -- the steps of searching and moving
  module _ (looks : Bool) (h : Head) (m : Memory) where
    writes : {a : Answer} {h' : Head} {ms : List Move} {m' : Memory} → SameMemory w s m m' → FitWords ms → Leaves w s m (step a s h' ms m')
    writes k f = record { memory = k; moves = f; sizes = sizes_same s }

    still : {a : Answer} {h' : Head} {ms : List Move} → FitWords ms → Leaves w s m (step a s h' ms m)
    still = writes (memory_refl w s m)

    viewed-leaves : (h' : Head) → Leaves w s m (searching.viewed looks s h' m)
    unfolding searching.viewed
    viewed-leaves h' = pick-both (Leaves w s m) _ (λ e. still (fit_none)) (λ e. still (fit_none))

    met-leaves : (c g word : ℕ) → Leaves w s m (searching.met s h c g word m)
    unfolding searching.met searching.met_node
    met-leaves c g word =
        pick-both (Leaves w s m) (is_node word)
        (λ e. pick-both (Leaves w s m) (eqb _ h.pixel) (λ q. still (fit_none)) (λ q. still (fit_none)))
        (λ e. still (fit_none))

    placed-leaves : (failed : ℕ → Memory → Step) (x : Cell) → CellBelow w s x → Leaves w s m (failed (cell_at w m x) m) → Leaves w s m (searching.placed w failed s h x m)
    unfolding searching.placed
    placed-leaves failed x b f = exchange-both (Leaves w s m) w h x _ _ _ m (λ e. writes (same_cell w s m x _ b) (fit_none)) (λ e. f)

    -- a node is filled
    node_leaves : (k : Kind) (s' : Settings) (i : ℕ) → SameSizes s s' → i < s.nodes → Leaves w s m (with_node k s' h i m)
    unfolding with_node
    node_leaves k s' i z l =
        record { memory = record { nodes = same_node m.nodes i _ _ l; levels = same_refl _ _ }; moves = fit_none; sizes = z }

    take-leaves : (k : Kind) → takes s h ≡ true → node_left s h ≡ true → Leaves w s m (take_node k s h m)
    unfolding take_node takes spare node_left
    take-leaves k t y =
        pick-both (Leaves w s m) (eqb h.held_node 0)
        (λ e. node_leaves k _ s.nodes_taken (sizes_node s) (ltb-true _ _ (sym (pick_true _ _ _ e) ∙ y)))
        (λ e. node_leaves k s (h.held_node - 1) (sizes_same s) (spare_below e (leb-true _ _ (both_right _ _ t)) nodes_le))

    -- a level is filled
    level-leaves : (k : Kind) (s' : Settings) (ms : List Move) (g : ℕ) → SameSizes s s' → FitWords ms → g < level_count w s → Leaves w s m (with_level w k s' h ms g m)
    unfolding with_level
    level-leaves k s' ms g z f l =
        record { memory = record { nodes = same_refl _ _; levels = same_level w m.levels g _ _ l }; moves = f; sizes = z }

    take-level-leaves : (k : Kind) (ms : List Move) → FitWords ms → takes_level w s h m.levels ≡ true → Leaves w s m (take_level w k s h ms m)
    unfolding take_level takes_level spare level_left
    take-level-leaves k ms f t =
        let t₁ = both_right _ _ t in
        pick-both (Leaves w s m) (eqb h.held_level 0)
        (λ e. level-leaves k _ ms s.levels_taken (sizes_level s) f (ltb-true _ _ (sym (pick_true _ _ _ e) ∙ both_right _ _ (both_right _ _ t₁))))
        (λ e. level-leaves k s ms (h.held_level - 1) (sizes_same s) f (spare_below e (leb-true _ _ (both_left _ _ t₁)) levels_le))

    closed-leaves : (failed : ℕ → Memory → Step) (ms : List Move) → stands_with s h h.held_level s.levels_taken ≡ true → Leaves w s m (failed (cell_at w m (Next h.node)) m) → (expected h (cell_at w m (Next h.node)) ≡ true → FitWords (new_move h.level (h.held_level - 1) ∷ ms)) → Leaves w s m (closed w failed s h ms m)
    unfolding closed stands_with
    closed-leaves failed ms t f g =
        exchange-both (Leaves w s m) w h (Next h.node) _ _ _ m
        (λ e. writes (same_cell w s m (Next h.node) _ (stands_below h (both_left _ _ t))) (g e))
        (λ e. f)

    chain_leaves : (v : Move) (os : List Move) (word : ℕ) → FitWords (v ∷ os) → Leaves w s m (moving.chain_word s h v os word m)
    unfolding moving.chain_word moving.set_last
    chain_leaves v os word f = pick-both (Leaves w s m) (is_node word) (λ e. still (remembered w _ f)) (λ e. still f)

    set-leaves : (failed : ℕ → Memory → Step) (v : Move) (os : List Move) (x : Cell) → CellBelow w s x → FitWords (v ∷ os) → Leaves w s m (failed (cell_at w m x) m) → Leaves w s m (moving.set_node w failed s h v os x m)
    unfolding moving.set_node moving.set_last
    set-leaves failed v os x b f g = exchange-both (Leaves w s m) w h x _ _ _ m (λ e. writes (same_cell w s m x _ b) (forgotten w f)) (λ e. g)

    -- a Move inside a Move has room where the exchange would be done
    inside : (ms : List Move) → FitWords ms → (asks : ℕ → Bool) → exchanges w h (Next h.node) (move_left w ms) asks m ≡ true → expected h (cell_at w m (Next h.node)) ≡ true → FitWords (new_move h.level (h.held_level - 1) ∷ inner ms ∷ outer ms)
    unfolding exchanges move_left
    inside ms f asks y e = pushed w few ms _ _ f (ltb-true _ _ (sym (pick_true _ _ _ e) ∙ y))

    -- by kind
    pub kind_leaves : (k : Kind) (ms : List Move) → FitWords ms → reads_by k w s h ms m ≡ true → pick (searching.takes_node k) (node_left s h) true ≡ true → Leaves w s m (act_by k w looks s h ms m)
    unfolding act_by reads_by searching.takes_node kind_no pick searching.look searching.take searching.put searching.entry_of searching.read searching.read_word searching.tail searching.take_tail searching.append searching.level searching.close searching.follow searching.follow_word moving.chain_head moving.chain_next moving.set_next moving.set_look moving.set_put moving.set_cell_of moving.set_read moving.set_read_word moving.set_met moving.set_tail moving.set_append moving.set_level moving.set_close moving.set_follow moving.set_follow_word moving.move_end moving.home_cell puts picks_with appends closes stands_with stands_setting set_nexts set_entry set_puts set_appends set_closes move_ends picks_home
    kind_leaves Idle ms f y n = still f
    kind_leaves Look ms f y n = viewed-leaves _
    kind_leaves Take ms f y n = take-leaves Put y n
    kind_leaves Put ms f y n = placed-leaves _ _ (entry_below _ _ _ (both_left _ _ (both_left _ _ y))) (met-leaves _ _ _)
    kind_leaves Read ms f y n = met-leaves _ _ _
    kind_leaves Tail ms f y n = viewed-leaves _
    kind_leaves TakeTail ms f y n = take-leaves Append y n
    kind_leaves Append ms f y n = placed-leaves _ (Next h.node) (stands_below h (both_left _ _ (both_left _ _ y))) (met-leaves _ _ _)
    kind_leaves Level ms f y n = take-level-leaves Close [] (fit_none) y
    kind_leaves Close ms f y n = closed-leaves _ [] (both_left _ _ y) (met-leaves _ _ _) (λ e. one_move w _ _)
    kind_leaves Follow ms f y n = met-leaves _ _ _
    kind_leaves ChainHead ms f y n = chain_leaves _ _ _ (whole w ms f)
    kind_leaves ChainNext ms f y n = chain_leaves _ _ _ (whole w ms f)
    kind_leaves SetNext ms f y n = writes (same_cell w s m (Next (last_node (inner ms))) _ (node_below (both_left _ _ y))) (whole w ms f)
    kind_leaves SetLook ms f y n = still (whole w ms f)
    kind_leaves SetPut ms f y n = set-leaves _ _ _ _ (entry_below _ _ _ (both_left _ _ (both_left _ _ y))) (whole w ms f) (still (whole w ms f))
    kind_leaves SetRead ms f y n = still (whole w ms f)
    kind_leaves SetTail ms f y n = still (whole w ms f)
    kind_leaves SetAppend ms f y n = set-leaves _ _ _ (Next h.node) (stands_below h (both_left _ _ (both_left _ _ y))) (whole w ms f) (still (whole w ms f))
    kind_leaves SetLevel ms f y n = take-level-leaves SetClose _ (whole w ms f) y
    kind_leaves SetClose ms f y n = closed-leaves _ _ (both_left _ _ y) (still (whole w ms f)) (inside ms f _ (both_right _ _ y))
    kind_leaves SetFollow ms f y n = still (whole w ms f)
    kind_leaves MoveEnd ms f y n = writes (same_cell w s m _ _ (entry_below _ _ _ (both_left _ _ (both_left _ _ y)))) (around w ms f)
    kind_leaves Unknown ms f y n = still f
