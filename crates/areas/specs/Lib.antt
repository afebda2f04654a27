-- The definitions of areas.
-- Relies on words for digits and blocks, on settings for sizes.
pub mod Memory
