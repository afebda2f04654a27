-- The laws of mover that other crates use.
-- Relies on nothing.
pub mod Asked
pub mod Bounds
pub mod Turns
pub mod Ways
pub mod Stored
