-- `table::open` meets its contract.
-- Relies on Opened for an opening that is carried out.
use mathlib.Core.Path.{refl}
use Rattle.table.proofs.Opened.{worker_words_lem, open_done}
use Rattle.table.proofs.open.Goals as goal

pub returns : goal.returns
returns c = open_done _ _ _ _ _ c.replied.ensures c.fresh.ensures c.fill_words.ensures (worker_words_lem c.args.s c.word_place.ensures) c.fill_level.ensures c.in_default.ensures refl
