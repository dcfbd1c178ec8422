-- Tests, runs at the front of a text, and words.
pub mod BoolLemmas
pub mod LaneLemmas
pub mod RunLemmas
pub mod RunsOnLemmas
pub mod WordLemmas
-- Literals and numbers.
pub mod LiteralLemmas
pub mod NumberLemmas
-- The token that begins a text, the bytes that it takes, and the tokens that follow.
pub mod LexemeLemmas
pub mod LexemeLengthLemmas
pub mod TokenLemmas
-- The laws.
pub mod TokenLinesRise
pub mod TokensCover
pub mod TokenReadsBack
pub mod PictureReadsBack
pub mod LaidReadsBack
pub mod TextReadsBack
