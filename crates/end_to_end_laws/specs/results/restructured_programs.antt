-- What a program is restructured to, whatever its size.
pub mod Result
-- What holds of it.
pub mod Laws
