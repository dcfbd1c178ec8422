-- Operands and expressions as they are read.
pub mod Sides
-- What holds of them.
pub mod Laws
