-- words that aren't in a table
pub mod FreshWords
-- the words of a program
pub mod Words
-- the names of procedures
pub mod Naming
-- their order
pub mod Ordering
