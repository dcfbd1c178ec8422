-- The graphs of a program's ranges, as a family.
pub mod Lowered
-- What holds of it.
pub mod Laws
