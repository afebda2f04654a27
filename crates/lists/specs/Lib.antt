-- The code's own cut of a list of turns; a reader need not believe it.
-- Relies on rules and table.
pub mod Cut
