-- The definitions of the search: what can be reached over any memory, questions 1 to 3 where nodes and levels alone are read, what the marks tell; in Cut the code's own,
-- which a reader need not believe.
-- Relies on rules for what is reached.
pub mod Reachable
pub mod Reading
pub mod Marked
pub mod Cut
