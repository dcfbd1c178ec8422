-- Sentences and paragraphs that name few.
pub mod Paragraph
-- What a form gives of few tokens.
pub mod Giving
-- Programs in which EXIT without a further word is alone in its sentences, as it is read.
pub mod lone_exits
