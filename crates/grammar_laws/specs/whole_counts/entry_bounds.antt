-- Entries whose files and redefined entries are there.
pub mod Bounds
-- What is declared.
pub mod Laws
