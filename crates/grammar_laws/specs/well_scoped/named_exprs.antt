-- Operands and expressions as they are read, where what they name is there.
pub mod Sides
-- What holds of them.
pub mod Laws
