-- The code's own cut of a turn; a reader need not believe it.
-- Relies on rules and steps.
pub mod Cut
