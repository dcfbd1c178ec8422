-- Forms that take the same tokens.
pub mod Alike
-- What names don't change.
pub mod Laws
