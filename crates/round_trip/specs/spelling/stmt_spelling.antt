-- What may follow statements and their parts.
pub mod Behind
-- What the parts of statements are to spell.
pub mod Part
-- What statements are to have in them.
pub mod Stmt
-- What sentences, paragraphs and sections are to have in them.
pub mod Division
