-- The definitions of listing the flagged pixels: one "next", its refusals, listings among starts and turns; in Cut the code's own, which a reader need not believe.
-- Relies on reach for what can be reached over any memory, on rules for sequences.
pub mod Next
pub mod Refusals
pub mod Sequence
pub mod Cut
