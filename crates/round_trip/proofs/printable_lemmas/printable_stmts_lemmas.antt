-- Statements that hold no others, those that do, and paragraphs.
pub mod Simple
pub mod Holding
pub mod Paragraphs
