-- What is made of parts that count by whole numbers.
pub mod Made
-- Statements that hold no others.
pub mod Simple
-- Statements that hold others.
pub mod Holding
-- Sentences, paragraphs and the division.
pub mod Paragraphs
