-- The laws of the C interface.
-- Relies on the definitions of what it gives.
pub mod Exported
