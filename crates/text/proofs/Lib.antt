-- The laws of the text format that other crates use.
-- Relies on words.
pub mod Parts
pub mod Ways
