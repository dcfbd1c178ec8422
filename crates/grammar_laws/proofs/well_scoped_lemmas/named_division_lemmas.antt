-- The paragraphs that headers name are among those that are counted.
pub mod Table
-- What the parts of statements give.
pub mod Parts
