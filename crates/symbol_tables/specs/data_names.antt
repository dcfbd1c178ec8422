-- The groups that an entry is in.
pub mod Grouping
-- Entries and files as references see them.
pub mod Names
-- How entries are nested.
pub mod Nesting
-- What a reference stands for.
pub mod Look
-- Looking up by one word of a reference.
pub mod Index
