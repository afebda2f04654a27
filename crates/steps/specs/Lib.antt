-- The code's own cut of what searching and moving do alike; a reader need not believe it.
-- Relies on rules.
pub mod Cut
pub mod Tried
