-- Paragraphs that count by whole numbers.
pub mod Paragraph
-- What the parts of statements are to give.
pub mod Parts
