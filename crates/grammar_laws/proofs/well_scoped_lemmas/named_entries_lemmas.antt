-- Entries by their drafts alone.
pub mod Bases
-- Entries as they are declared.
pub mod Declared
