-- The run of the text program over its input.
-- Relies on text and on rules.
pub mod Program
pub mod Remaining
pub mod Running
pub mod Unread
pub mod Numbers
