-- where control goes on from a rest
pub mod Successors
-- what a table of rests says of graphs
pub mod Statements
-- and of paragraphs
pub mod Paragraphs
