-- The private work on a record: what a turn changes in the numbers of the call and in a Move. Each definition changes what it names.
-- Relies on the record's layout.
use Rattle.std.specs.Prelude.{ℕ, ◌+◌, ◌-◌, get_or, set}
use Rattle.record.specs.declared.Kind.{Kind}
use Rattle.record.specs.declared.Kind.TheVariants.{Idle, Look}
use Rattle.record.specs.declared.Head.{Head}
use Rattle.record.specs.declared.Move.{Move}

-- the kind of the next turn
unfoldable pub to : Kind → Head → Head
to k h =
    record {
      kind = k;
      pixel = h.pixel;
      level = h.level;
      node = h.node;
      count = h.count;
      held_node = h.held_node;
      held_level = h.held_level;
      answer = h.answer;
      answer_node = h.answer_node;
    }

-- the next turn is at level g
unfoldable pub to_level : Kind → ℕ → Head → Head
to_level k g h =
    record {
      kind = k;
      pixel = h.pixel;
      level = g;
      node = h.node;
      count = h.count;
      held_node = h.held_node;
      held_level = h.held_level;
      answer = h.answer;
      answer_node = h.answer_node;
    }

-- the next turn is at node i, the c-th of its chain
unfoldable pub to_node : Kind → ℕ → ℕ → Head → Head
to_node k i c h =
    record {
      kind = k;
      pixel = h.pixel;
      level = h.level;
      node = i;
      count = c;
      held_node = h.held_node;
      held_level = h.held_level;
      answer = h.answer;
      answer_node = h.answer_node;
    }

-- the worker holds a node (its number + 1) or none (0)
unfoldable pub holding_node : Kind → ℕ → Head → Head
holding_node k n h =
    record {
      kind = k;
      pixel = h.pixel;
      level = h.level;
      node = h.node;
      count = h.count;
      held_node = n;
      held_level = h.held_level;
      answer = h.answer;
      answer_node = h.answer_node;
    }

-- the worker holds a level (its number + 1) or none (0)
unfoldable pub holding_level : Kind → ℕ → Head → Head
holding_level k g h =
    record {
      kind = k;
      pixel = h.pixel;
      level = h.level;
      node = h.node;
      count = h.count;
      held_node = h.held_node;
      held_level = g;
      answer = h.answer;
      answer_node = h.answer_node;
    }

-- the call has ended with an answer's number and node; n is what the worker still holds as a spare node
unfoldable pub ended : ℕ → ℕ → ℕ → Head → Head
ended a i n h =
    record {
      kind = Idle;
      pixel = h.pixel;
      level = h.level;
      node = h.node;
      count = h.count;
      held_node = n;
      held_level = h.held_level;
      answer = a;
      answer_node = i;
    }

-- "Start stands before Look at the root."
unfoldable pub started : ℕ → Head → Head
started p h =
    record {
      kind = Look;
      pixel = p;
      level = 0;
      node = h.node;
      count = h.count;
      held_node = h.held_node;
      held_level = h.held_level;
      answer = h.answer;
      answer_node = h.answer_node;
    }

-- the node that a Move remembered last
unfoldable pub last_node : Move → ℕ
last_node v = get_or v.nodes (v.count - 1) 0

-- one node more is remembered
unfoldable pub remember : ℕ → Move → Move
remember i v = record { home = v.home; child = v.child; count = v.count + 1; nodes = set v.nodes v.count i }

-- the last node is forgotten
unfoldable pub forget : Move → Move
forget v = record { home = v.home; child = v.child; count = v.count - 1; nodes = v.nodes }
