-- Statements that hold no others.
pub mod Simple
-- Statements that hold others.
pub mod Holding
-- Sentences, paragraphs and the division.
pub mod Paragraphs
