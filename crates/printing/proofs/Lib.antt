-- The laws of printed bytes that other crates use.
-- Relies on text.
pub mod Spelling
pub mod Numbers
