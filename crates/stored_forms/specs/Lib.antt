-- What an item holds.
pub mod Item
-- A number written with so many digits.
pub mod Places
-- The two forms: how values are written and read.
pub mod Binary
pub mod Packed
-- What the laws say.
pub mod Laws
