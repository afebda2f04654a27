-- The text format: lines, fields, numbers, and what a line asks for.
-- Relies on words.
pub mod Parts
pub mod Commands
pub mod Cut
