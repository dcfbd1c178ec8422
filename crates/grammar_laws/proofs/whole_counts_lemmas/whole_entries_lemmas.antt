-- Names of entries fit them.
pub mod Fitting
-- Pictures have at most 18 digits.
pub mod Pictures
-- Entries that are declared.
pub mod Declared
