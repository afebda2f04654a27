-- The definitions of the flagged count: one count, its refusals, the count along a sequence; in Cut the code's own, which a reader need not believe.
-- Relies on reach for what can be reached over any memory, on rules for sequences, on listing for what a listing gives.
pub mod Count
pub mod Refusals
pub mod Sequence
pub mod Cut
