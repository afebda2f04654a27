-- The proof of the table of bench cases.
-- Relies on the table.
pub mod Passed
