-- How a text is read as one, and why it is none.
pub mod Fault
pub mod Symbols
-- Which texts are masks.
pub mod Edited
-- All pictures.
pub mod Reading
