-- The code's own cut of the operations; a reader need not believe it.
-- Relies on rules.
pub mod Cut
