-- Where a number begins, it has a digit.
pub mod Digits
-- The tokens of a text.
pub mod Tokens
