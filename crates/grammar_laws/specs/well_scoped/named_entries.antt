-- Entries and files that are named.
pub mod Entries
-- What is declared.
pub mod Laws
