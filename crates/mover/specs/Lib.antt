-- The code's own cut of a moving turn; a reader need not believe it.
-- Relies on rules and steps.
pub mod Cut
pub mod Moved
pub mod Words
