-- The turns of a search that exchange a cell, in the code: the one word that they meet is asked and acted on.
-- Relies on steps for a turn that exchanges a cell and for the way back.
use mathlib.Core.Path.{◌≡◌, refl}
use mathlib.Core.Bool.{Bool, true, false}
use mathlib.Core.List.{List, []}
use Prim.Native.Nat.{ℕ, ◌-◌}
use Rattle.std.specs.Prelude.{Some}
use Rattle.words.specs.Choice.{pick}
use Rattle.words.proofs.Choice.{via}
use Rattle.settings.specs.declared.Settings.{Settings}
use Rattle.areas.specs.declared.Cell.{Cell}
use Rattle.areas.specs.declared.Cell.TheVariants.{Next}
use Rattle.areas.specs.Memory.{Memory, memory, is_node, level_ref, node_ref, exchanged, exchange}
use Rattle.record.specs.declared.Head.{Head}
use Rattle.rules.specs.Steps.{begins_move, closed, more}
use Rattle.rules.specs.Searching.{entry_of, ends_new, placed, met, read_word, follow_word, put, append, close}
use Rattle.rules.specs.Asked.{compares_ref, follows_ref, stands_with, picks_with, puts, appends, closes}
use Rattle.steps.specs.Tried.{Tried, tried, unless_six, exchange_tried}
use Rattle.steps.specs.Cut.{back_cut}
use Rattle.steps.proofs.Back.{child_is}
use Rattle.steps.proofs.Exchanges.{exchange-tried}

-- Follow's word: of a node the way back tells nothing, of a level the one to look at
pub follow_is : (w : ℕ) (s : Settings) (h : Head) (word c : ℕ) (m : Memory) → Some c ≡ back_cut w s.levels_taken h.level word m.levels → met s h (more s h.count) c word m ≡ follow_word w s h word m
unfolding met follow_word pick
follow_is w s h word c m p = by (is_node word) refl
  where
    by : (b : Bool) → is_node word ≡ b → met s h (more s h.count) c word m ≡ follow_word w s h word m
    by true e = simp e
    by false e = simp (e, child_is w s.levels_taken h.level word m.levels p e)

-- the three kinds
pub put_tried :
    (w : ℕ) (s : Settings) (h : Head) (nodes levels : List ℕ) {n l : List ℕ} {word b : ℕ} {x : Cell} {u : Tried} {before : Bool}
    → u ≡ exchange_tried s h [] word (memory n l) (ends_new s h (memory n l)) (compares_ref s word n) (read_word s h word (memory n l))
    → exchanged word (memory n l) ≡ exchange w (memory nodes levels) x (level_ref h.level) b → x ≡ entry_of w h levels → b ≡ node_ref (h.held_node - 1)
    → before ≡ picks_with w s h levels → before ≡ true
    → u ≡ unless_six (puts w s h (memory nodes levels)) s h [] (memory nodes levels) (tried 0 (put w s h (memory nodes levels)))
unfolding puts put placed
put_tried w s h nodes levels p q k d e f =
    exchange-tried w s h [] (memory nodes levels) _ true (entry_of w h levels) _ (ends_new s h) (read_word s h) (λ v m. compares_ref s v m.nodes) p q k d (via e f) refl

module _ (w : ℕ) (s : Settings) (h : Head) (m : Memory) {m' : Memory} {word b : ℕ} {u : Tried} where
  pub append_tried :
      {before : Bool}
      → u ≡ exchange_tried s h [] word m' (ends_new s h m') (follows_ref w s h word m') (follow_word w s h word m')
      → exchanged word m' ≡ exchange w m (Next h.node) (level_ref h.level) b → b ≡ node_ref (h.held_node - 1)
      → before ≡ stands_with s h h.held_node s.nodes_taken → before ≡ true
      → u ≡ unless_six (appends w s h m) s h [] m (tried 0 (append w s h m))
  unfolding appends append placed
  append_tried p q d e f =
      exchange-tried w s h [] m _ true (Next h.node) _ (ends_new s h) (follow_word w s h) (follows_ref w s h) p q refl d (via e f) refl

  pub close_tried :
      {before : Bool}
      → u ≡ exchange_tried s h [] word m' (begins_move s h [] m') (follows_ref w s h word m') (follow_word w s h word m')
      → exchanged word m' ≡ exchange w m (Next h.node) (level_ref h.level) b → b ≡ level_ref (h.held_level - 1)
      → before ≡ stands_with s h h.held_level s.levels_taken → before ≡ true
      → u ≡ unless_six (closes w s h m) s h [] m (tried 0 (close w s h m))
  unfolding closes close closed
  close_tried p q d e f =
      exchange-tried w s h [] m _ true (Next h.node) _ (begins_move s h []) (follow_word w s h) (follows_ref w s h) p q refl d (via e f) refl
