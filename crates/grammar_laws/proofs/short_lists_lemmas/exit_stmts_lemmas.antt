-- that no EXIT is among statements, as a test by parts
pub mod Exitless
-- sentences, paragraphs and the division
pub mod Paragraphs
