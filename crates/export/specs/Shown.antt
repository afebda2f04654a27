-- What the C interface gives: an operation's result with the answer as numbers, and the level count.
-- Relies on rules for the operations, on record for the answers' numbers.
use Rattle.std.specs.Prelude.{ℕ}
use Rattle.words.specs.Choice.{pick}
use Rattle.settings.specs.Sizes.{question1, level_count}
use Rattle.settings.specs.declared.Settings.{Settings}
use Rattle.areas.specs.Memory.{Areas}
use Rattle.record.specs.declared.Reply.{Reply}
use Rattle.record.specs.Kinds.{answer_no, answer_node}
use Rattle.rules.specs.Operations.{Result}
use Rattle.rules.specs.Exchanges.{Report}
use Rattle.export.specs.declared.LeafdrumReply.{LeafdrumReply}

-- a reply as numbers: answer 0 none, 1 new, 2 found, 3 full, 4 open, 5 absent, and its node; and exchanges done and failed
unfoldable pub numbers_of : Reply → ℕ → ℕ → LeafdrumReply
numbers_of r done failed =
    record {
      number = r.number;
      answer = answer_no r.answer;
      node = answer_node r.answer;
      turns = r.turns;
      exchanges_done = done;
      exchanges_failed = failed;
      settings = r.settings;
    }

-- what a function of the interface gives back, and the areas that it leaves
pub record Shown : Type 0 where
  pub reply : LeafdrumReply
  pub areas : Areas

-- what is shown, by its parts
abbrev pub shown : LeafdrumReply → Areas → Shown
shown r a = record { reply = r; areas = a }

-- an operation's result as the C interface shows it: only a list reports exchanges
unfoldable pub exported : Result → Shown
exported x = shown (numbers_of x.reply 0 0) x.areas

-- what a list of turns reports, likewise
unfoldable pub exported_list : Report → Shown
exported_list x = shown (numbers_of x.result.reply x.done x.failed) x.result.areas

-- the number of levels of the level area; 0 for settings out of range
unfoldable pub count_or_zero : ℕ → Settings → ℕ
count_or_zero w s = pick (question1 s) (level_count w s) 0
