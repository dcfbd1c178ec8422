-- Items with fresh names.
pub mod Fresh
-- What holds of them.
pub mod Laws
