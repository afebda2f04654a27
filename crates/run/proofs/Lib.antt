-- The laws of the run: the ways through a stage, the whole of it, and what its lines and numbers are.
-- Relies on nothing.
pub mod Stages
pub mod Run
pub mod Given
pub mod Unread
pub mod Answers
pub mod Numbers
