-- How many tokens stand before the paragraphs.
pub mod Units
-- What the tokens declare, and what they spell.
pub mod Spelled
-- What is printed is read.
pub mod ReadBack
