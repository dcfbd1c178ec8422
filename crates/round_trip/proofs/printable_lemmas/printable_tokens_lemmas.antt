-- A program text has no control characters within its lines.
pub mod Clean
-- The tokens of such a text.
pub mod Tokens
