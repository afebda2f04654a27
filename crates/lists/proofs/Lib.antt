-- What ties the code's cut of a list of turns to its definition.
-- Relies on rules and turns.
pub mod ListCut
pub mod Tells
pub mod One
pub mod Ways
