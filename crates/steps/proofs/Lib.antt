-- The laws of steps that other crates use.
-- Relies on nothing.
pub mod Asked
pub mod Back
pub mod Exchanges
pub mod Steps
pub mod Ties
