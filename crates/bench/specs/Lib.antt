-- Document 01's bench cases.
-- Relies on rules.
pub mod Table
pub mod Everything
