-- the lists with which numbering begins and ends
pub mod Beginning
-- paragraphs, from the last one back
pub mod Paragraphs
-- sections, and the paragraphs of a program
pub mod Sections
-- from what is told of all places to a table
pub mod Tables
