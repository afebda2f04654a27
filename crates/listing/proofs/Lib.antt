-- The laws of listing: the least pixel, the ways through the code, and the theorems.
-- Relies on nothing.
pub mod Least
pub mod Ways
pub mod Unique
pub mod Refusals
pub mod Sequence
