-- The laws of a worker's record that other crates use, and those that the proofs of its functions use.
-- Relies on nothing.
pub mod Numbers
pub mod Apart
pub mod Pieces
pub mod Records
pub mod Tests
