-- A turn of a search by its kind: its question 6, its question 9, else the turn. This follows the code's cut and is tied to the definitions
-- of the operations by a lemma. Relies on rules for the questions and the turns.
use Rattle.std.specs.Prelude.{ℕ, Bool, true, [], leb}
use Rattle.words.specs.Choice.{pick, both}
use Rattle.settings.specs.declared.Settings.{Settings}
use Rattle.areas.specs.Memory.{Memory}
use Rattle.record.specs.declared.Kind.{Kind}
use Rattle.record.specs.declared.Head.{Head}
use Rattle.record.specs.Kinds.{kind_no}
use Rattle.rules.specs.Acts.{act_by}
use Rattle.rules.specs.Searching.{takes_node, look, read, tail, follow}
use Rattle.rules.specs.Asked.{looks, reads, tails, follows, reads_by, node_left}
use Rattle.steps.specs.Tried.{Tried, tried, unless_six, unless_nine}

unfoldable pub is_searching : Kind → Bool
is_searching k = both (leb 1 (kind_no k)) (leb (kind_no k) 10)

-- a kind that is none of a search is refused by 6
unfoldable pub search_tried : Kind → ℕ → Bool → Settings → Head → Memory → Tried
search_tried k w v s h m =
    unless_six (both (is_searching k) (reads_by k w s h [] m)) s h [] m
    (unless_nine (pick (takes_node k) (node_left s h) true) s h m (act_by k w v s h [] m))

-- a viewer's Look or Read, and its Tail or Follow
unfoldable pub view_entry : ℕ → Bool → Settings → Head → Memory → Tried
view_entry w p s h m = pick p (unless_six (looks w s h m) s h [] m (tried 0 (look w true s h m))) (unless_six (reads w s h m) s h [] m (tried 0 (read w s h m)))

unfoldable pub view_next : ℕ → Bool → Settings → Head → Memory → Tried
view_next w p s h m = pick p (unless_six (tails s h m.nodes) s h [] m (tried 0 (tail w true s h m))) (unless_six (follows w s h m) s h [] m (tried 0 (follow w s h m)))
