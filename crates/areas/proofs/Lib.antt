-- The laws of areas that other crates use.
-- Relies on nothing.
pub mod Laws
pub mod Cells
