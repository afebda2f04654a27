-- The laws of worker that other crates use.
-- Relies on nothing.
pub mod Asked
pub mod Cells
pub mod Turns
