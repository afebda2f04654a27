-- What a turn does, by the kind of its worker's record.
-- Relies on the kinds of searching and moving.
use Rattle.std.specs.Prelude.{ℕ, Bool, List, [], ◌∷◌}
use Rattle.settings.specs.declared.Settings.{Settings}
use Rattle.areas.specs.Memory.{Memory}
use Rattle.record.specs.declared.Kind.{Kind}
use Rattle.record.specs.declared.Kind.TheVariants.{Idle, Look, Take, Put, Read, Tail, TakeTail, Append, Level, Close, Follow, ChainHead, ChainNext, SetNext, SetLook, SetPut, SetRead, SetTail, SetAppend, SetLevel, SetClose, SetFollow, MoveEnd, Unknown}
use Rattle.record.specs.declared.Head.{Head}
use Rattle.record.specs.declared.Move.{Move}
use Rattle.record.specs.Layout.{Record, new_move}
use Rattle.rules.specs.Steps.{Step, going}
use Rattle.rules.specs.Searching as searching
use Rattle.rules.specs.Moving as moving

-- the innermost Move (a moving worker has one), and those around it
unfoldable pub inner : List Move → Move
inner [] = new_move 0 0
inner (v ∷ os) = v

-- the Moves around the innermost one
unfoldable pub outer : List Move → List Move
outer [] = []
outer (v ∷ os) = os

-- the turn of each kind, of a viewer (v) or of another worker; an idle worker has none, and nothing changes
unfoldable pub act_by : Kind → ℕ → Bool → Settings → Head → List Move → Memory → Step
act_by Idle w v s h ms m = going s h ms m
act_by Look w v s h ms m = searching.look w v s h m
act_by Take w v s h ms m = searching.take s h m
act_by Put w v s h ms m = searching.put w s h m
act_by Read w v s h ms m = searching.read w s h m
act_by Tail w v s h ms m = searching.tail w v s h m
act_by TakeTail w v s h ms m = searching.take_tail s h m
act_by Append w v s h ms m = searching.append w s h m
act_by Level w v s h ms m = searching.level w s h m
act_by Close w v s h ms m = searching.close w s h m
act_by Follow w v s h ms m = searching.follow w s h m
act_by ChainHead w v s h ms m = moving.chain_head w s h (inner ms) (outer ms) m
act_by ChainNext w v s h ms m = moving.chain_next w s h (inner ms) (outer ms) m
act_by SetNext w v s h ms m = moving.set_next w s h (inner ms) (outer ms) m
act_by SetLook w v s h ms m = moving.set_look w s h (inner ms) (outer ms) m
act_by SetPut w v s h ms m = moving.set_put w s h (inner ms) (outer ms) m
act_by SetRead w v s h ms m = moving.set_read w s h (inner ms) (outer ms) m
act_by SetTail w v s h ms m = moving.set_tail w s h (inner ms) (outer ms) m
act_by SetAppend w v s h ms m = moving.set_append w s h (inner ms) (outer ms) m
act_by SetLevel w v s h ms m = moving.set_level w s h (inner ms) (outer ms) m
act_by SetClose w v s h ms m = moving.set_close w s h (inner ms) (outer ms) m
act_by SetFollow w v s h ms m = moving.set_follow w s h (inner ms) (outer ms) m
act_by MoveEnd w v s h ms m = moving.move_end w s h (inner ms) (outer ms) m
act_by Unknown w v s h ms m = going s h ms m

-- one turn of the worker with this record
unfoldable pub act : ℕ → Bool → Settings → Record → Memory → Step
act w v s r m = act_by r.head.kind w v s r.head r.moves m
