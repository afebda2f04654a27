-- Question 6 of a moving turn, in the code: the ways through its parts, what a yes says of numbers, and that the Moves need not be at hand.
-- Relies on words for tests with parts, on steps for bounds.
use mathlib.Core.Path.{◌≡◌, ap, sym, ◌∙◌}
use mathlib.Core.Bool.{Bool, true, false}
use mathlib.Core.List.{List, [], ◌∷◌}
use Prim.Native.Nat.{ℕ, suc, ◌+◌, ◌-◌, ◌≤◌, ◌<◌}
use lib.ListN.{length}
use borrow.Author.Tests.{ltb-true, leb-true, ne_eqb, lt-ltb, le-ltb}
use native.Mathlib.Omega.{arith}
use Rattle.words.specs.Choice.{pick, both}
use Rattle.words.specs.Digits.{depths}
use Rattle.words.proofs.Choice.{via, both_left, both_right, pick-both, pick_true}
use Rattle.settings.specs.declared.Settings.{Settings}
use Rattle.settings.specs.Sizes.{max_limit, max_nodes, max_moves, most_levels}
use Rattle.settings.specs.Cut.{Sized}
use Rattle.areas.specs.declared.Cell.{Cell}
use Rattle.areas.specs.Memory.{Memory, is_node, next_at, cell_at, node_taken, ref_taken}
use Rattle.record.specs.declared.Head.{Head}
use Rattle.record.specs.declared.Move.{Move}
use Rattle.rules.specs.Heads.{last_node}
use Rattle.rules.specs.Moving.{key_of, home_cell, set_cell_of}
use Rattle.rules.specs.Asked.{remembers, picks_in, pixel_fits, reads_ref, key_fits, move_left, stands_at, stands_setting, picks_home, chain_heads, chain_nexts, move_ends, set_nexts, set_entry}
use Rattle.steps.proofs.Asked.{level_most}
use Rattle.mover.specs.declared.Inner.{Inner}
use Rattle.mover.specs.declared.Mover.{Mover}
use Rattle.mover.specs.Cut.{remember_in, word_inner, key_cut, home_cut, key_fits_cut, picks_home_cut, room_in, word_asked, move_ends_cut}
use Rattle.mover.specs.Moved.{outer_node, Around}

-- room to remember the word read
module _ (s : Settings) (v : Inner) (word : ℕ) where
  pub room_left : word_asked s v word ≡ true → is_node word ≡ true → Sized s → v.count < max_limit
  unfolding word_asked room_in
  room_left e q z =
      let k : s.limit ≤ max_limit = z.ranges.limit.high in
      let t : v.count + 1 ≤ s.limit = leb-true _ _ (sym (pick_true (is_node word) _ true q) ∙ both_right _ _ e) in
      omega arith

  -- the nodes remembered after the word stay within the bound
  pub room_most : word_asked s v word ≡ true → v.count ≤ max_limit → Sized s → (word_inner v word).count ≤ max_limit
  unfolding word_inner remember_in
  room_most e h z = pick-both (λ (i : Inner). i.count ≤ max_limit) (is_node word) (λ q. let t : v.count < max_limit = room_left e q z in omega arith) (λ q. h)

-- what a yes says of numbers
pub node_below : (s : Settings) (i : ℕ) → node_taken s i ≡ true → Sized s → i ≤ max_nodes
unfolding node_taken
node_below s i e z =
    let b : i < s.nodes_taken = ltb-true _ _ e in
    let t : s.nodes_taken ≤ s.nodes = z.nodes in
    let k : s.nodes ≤ max_nodes = z.ranges.nodes.high in
    omega arith

module _ (s : Settings) (h : Head) (n : ℕ) {r : Bool} where
  pub nexts_level : r ≡ set_nexts s h n → r ≡ true → Sized s → h.level ≤ most_levels
  unfolding set_nexts
  nexts_level a e z = level_most s h.level (both_right (node_taken s n) _ (via a e)) z

  pub puts_level : (w : ℕ) (m : Memory) → r ≡ set_entry w s h n m → r ≡ true → Sized s → h.level ≤ most_levels
  unfolding set_entry picks_in
  puts_level w m a e z = level_most s h.level (both_left _ _ (both_left _ (pixel_fits s n m.nodes) (via a e))) z

  pub puts_last : (w : ℕ) (m : Memory) → r ≡ set_entry w s h n m → r ≡ true → Sized s → n ≤ max_nodes
  unfolding set_entry pixel_fits
  puts_last w m a e z = node_below s n (both_left _ _ (both_right (picks_in w s h.level m.levels) _ (via a e))) z

  pub appends_level : r ≡ stands_setting s h n → r ≡ true → Sized s → h.level ≤ most_levels
  unfolding stands_setting stands_at
  appends_level a e z = level_most s h.level (both_left _ _ (both_left _ (node_taken s n) (via a e))) z

  pub appends_last : r ≡ stands_setting s h n → r ≡ true → Sized s → n ≤ max_nodes
  unfolding stands_setting
  appends_last a e z = node_below s n (both_right (stands_at s h) _ (via a e)) z

module _ (w : ℕ) (s : Settings) (v : Mover) {r : Bool} where
  pub ends_child : (m : Memory) → r ≡ move_ends_cut w s v m → r ≡ true → Sized s → v.inner.child ≤ most_levels
  unfolding move_ends_cut
  ends_child m a e z = level_most s v.inner.child (both_right (picks_home_cut w s v m) _ (via a e)) z

-- with the innermost Move and those around it
pub last_is : (v : Mover) (a : Move) (os : List Move) → Around v a os → v.inner.last ≡ last_node a
last_is v a os o = ap (λ (i : Inner). i.last) o.inner_is

pub key_is : (v : Mover) (a : Move) (os : List Move) (nodes : List ℕ) → Around v a os → key_cut v nodes ≡ key_of v.head os nodes
unfolding key_cut key_of outer_node pick
key_is v a [] nodes r = simp r.count
key_is v a (o ∷ os) nodes r =
    let n : v.moves ≡ suc (suc (length os)) = r.count in
    simp (ne_eqb v.moves 1 (λ e. omega arith), r.outer_is)

pub key_fits_is : (s : Settings) (v : Mover) (a : Move) (os : List Move) (nodes : List ℕ) → Around v a os → key_fits_cut s v nodes ≡ key_fits s os nodes
unfolding key_fits_cut key_fits outer_node pick
key_fits_is s v a [] nodes r = simp r.count
key_fits_is s v a (o ∷ os) nodes r =
    let n : v.moves ≡ suc (suc (length os)) = r.count in
    simp (ne_eqb v.moves 1 (λ e. omega arith), r.outer_is)

pub home_is : (w : ℕ) (v : Mover) (a : Move) (os : List Move) → Around v a os → (m : Memory) → home_cut w v m ≡ home_cell w v.head a os m
unfolding home_cut home_cell
home_is w v a os r m = rw (key_is v a os m.nodes r, r.inner_is)

-- whether a Move more has room
module _ (w : ℕ) {most : ℕ} (m : most ≡ depths w - 1) (v : Mover) (a : Move) (os : List Move) (o : Around v a os) where
  pub left_true : v.moves < most → move_left w (a ∷ os) ≡ true
  unfolding move_left max_moves
  left_true h = let n : v.moves ≡ suc (length os) = o.count in lt-ltb (suc (length os)) (depths w - 1) (omega arith)

  pub left_false : most ≤ v.moves → move_left w (a ∷ os) ≡ false
  unfolding move_left max_moves
  left_false h = let n : v.moves ≡ suc (length os) = o.count in le-ltb (suc (length os)) (depths w - 1) (omega arith)

module _ (w : ℕ) (s : Settings) (v : Mover) (a : Move) (os : List Move) (o : Around v a os) where
  pub picks_home_is : (m : Memory) → picks_home_cut w s v m ≡ picks_home w s a os m
  unfolding picks_home_cut picks_home
  picks_home_is m = rw (key_fits_is s v a os m.nodes o, o.inner_is)

  word_is : (word : ℕ) → word_asked s v.inner word ≡ both (ref_taken s word) (remembers s a word)
  unfolding word_asked room_in remembers
  word_is word = rw o.inner_is

  pub heads_asked :
      (m : Memory) {r b : Bool} {word : ℕ} {x : Cell}
      → r ≡ both (picks_home_cut w s v m) (word_asked s v.inner word) → word ≡ cell_at w m x → x ≡ home_cut w v m → r ≡ b
      → chain_heads w s v.head a os m ≡ b
  unfolding chain_heads reads_ref
  heads_asked m {word} p q e f = simp (← picks_home_is m, ← home_is w v a os o m, ← e, ← q, ← word_is word, ← p, f)

  pub nexts_asked :
      (nodes : List ℕ) {r b : Bool} {word : ℕ}
      → r ≡ both (node_taken s v.inner.last) (word_asked s v.inner word) → word ≡ next_at nodes v.inner.last → r ≡ b → chain_nexts s a nodes ≡ b
  unfolding chain_nexts
  nexts_asked nodes {word} p q f = simp (← last_is v a os o, ← q, ← word_is word, ← p, f)

  pub ends_asked : (m : Memory) {r b : Bool} → r ≡ move_ends_cut w s v m → r ≡ b → move_ends w s a os m ≡ b
  unfolding move_ends move_ends_cut
  ends_asked m p f = simp (← picks_home_is m, ← child_is, ← p, f)
    where
      child_is : v.inner.child ≡ a.child
      child_is = ap (λ (i : Inner). i.child) o.inner_is

  -- the node that is set is the one remembered last
  pub cell_is : (m : Memory) → set_cell_of w v.head v.inner.last m ≡ set_cell_of w v.head (last_node a) m
  cell_is m = rw (last_is v a os o)

  pub set_asked : {r b : Bool} → r ≡ set_nexts s v.head v.inner.last → r ≡ b → set_nexts s v.head (last_node a) ≡ b
  set_asked p f = simp (← last_is v a os o, ← p, f)

  pub puts_asked : (m : Memory) {r b : Bool} → r ≡ set_entry w s v.head v.inner.last m → r ≡ b → set_entry w s v.head (last_node a) m ≡ b
  puts_asked m p f = simp (← last_is v a os o, ← p, f)

  pub appends_asked : {r b : Bool} → r ≡ stands_setting s v.head v.inner.last → r ≡ b → stands_setting s v.head (last_node a) ≡ b
  appends_asked p f = simp (← last_is v a os o, ← p, f)
