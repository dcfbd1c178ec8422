-- What the statements are made of, which other forms read: operands, conditions, names.
pub mod Part
-- Which tokens begin what.
pub mod Verb
-- Statements that hold none, by families.
pub mod Move
pub mod Arithmetic
pub mod File
pub mod Jump
-- Statements that hold statements: arms, choices, loops.
pub mod Arms
pub mod Choice
pub mod Loop
-- All statements, tied over levels.
pub mod Stmt
-- Sentences, paragraphs, sections.
pub mod Paragraph
-- What holds of these forms.
pub mod Laws
