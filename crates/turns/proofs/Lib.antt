-- What ties the code's cut of one turn to its definition.
-- Relies on rules.
pub mod Finish
pub mod Views
pub mod HeadKept
pub mod OneCut
pub mod Ways
pub mod Moves
pub mod Exchanged
