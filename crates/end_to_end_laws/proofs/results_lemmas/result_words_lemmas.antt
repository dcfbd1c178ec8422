-- Statements that fit by tests fit by others that ask no more.
pub mod Carried
-- What passes the tests of a program passes those of a program with added entries.
pub mod Own
-- Words on an item pass.
pub mod Words
-- So does what parts and words are called.
pub mod Names
