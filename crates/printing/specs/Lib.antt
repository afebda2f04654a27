-- What the program prints, as bytes.
-- Relies on text.
pub mod Printing
