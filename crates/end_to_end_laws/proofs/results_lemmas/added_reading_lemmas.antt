-- How many words a program has.
pub mod Words
-- Status items.
pub mod Statuses
-- What programs that are read keep.
pub mod Read
