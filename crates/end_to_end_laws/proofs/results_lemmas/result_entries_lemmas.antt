-- The entries of items for cells.
pub mod Entries
-- How many bytes they take.
pub mod Bytes
-- They serve.
pub mod Serve
