-- The definitions of a worker's record: kinds and answers, the layout of its words, and whether it fits them.
-- Relies on words for blocks and tests, on settings for sizes.
pub mod Kinds
pub mod Layout
pub mod Fits
