-- Graphs of nodes that are kept alike.
pub mod Kept
-- The graphs of ranges, and what they are shaped to.
pub mod Graphs
-- What is written has no word on an added item.
pub mod Owned
-- Paragraphs and procedures that are the same.
pub mod Written
-- All of it.
pub mod OneSplit
