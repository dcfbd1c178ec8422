-- Entries and files of named programs.
pub mod Named
-- Programs that are read.
pub mod Read
