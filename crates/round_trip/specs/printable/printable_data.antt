-- Drafts that can be printed.
pub mod Drafts
-- What holds of them.
pub mod Laws
