-- The code's own cut of a turn; a reader need not believe it.
-- Relies on rules.
pub mod Tried
pub mod Searching
