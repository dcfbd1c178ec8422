-- Drafts as they are read.
pub mod Data
-- Pictures as they are read.
pub mod Pictures
-- Files and entries as they are declared.
pub mod Declared
