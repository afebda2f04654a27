-- The laws of the flagged count.
-- Relies on nothing.
pub mod Marking
pub mod Ways
pub mod Unique
pub mod Refusals
pub mod Sequence
