-- The laws of the table's operations: the ways through the code, and the questions in their order.
-- Relies on nothing.
pub mod Questions
pub mod Opened
pub mod Starting
pub mod Last
