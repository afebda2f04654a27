-- What the C interface gives.
-- Relies on rules, record and listing.
pub mod Shown
pub mod Listed
