-- The areas and settings that an opening leaves.
-- Relies on areas for the words, on settings for the sizes.
use Rattle.std.specs.Prelude.{ℕ, ◌*◌}
use Rattle.words.specs.Blocks.{fill}
use Rattle.settings.specs.Sizes.{fresh, worker_words}
use Rattle.settings.specs.declared.Settings.{Settings}
use Rattle.areas.specs.Memory.{Areas, areas, fill_level, none}

-- "Opening sets nodes taken 0, levels taken 1"
unfoldable pub opened_settings : Settings → Settings
opened_settings s = fresh s.workers s.limit s.nodes s.viewers s.width

-- "writes level 0 and zeroes the workers' words. Every other word keeps its content."
-- "The root is level 0, depth 0; its previous word is 4,294,967,295, meaning none."
unfoldable pub opened_areas : ℕ → Settings → Areas → Areas
opened_areas w s a = areas a.nodes (fill_level w a.levels 0 none 0) (fill a.workers 0 (worker_words * s.workers) 0)
