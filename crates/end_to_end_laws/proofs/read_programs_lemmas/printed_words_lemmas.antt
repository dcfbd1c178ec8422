-- Tokens that aren't left out.
pub mod Tokens
-- The tokens of places and expressions.
pub mod Places
-- The tokens of conditions, arithmetic, choices and loops.
pub mod Beside
-- The lines of statements.
pub mod Statements
-- The units of files, entries and paragraphs.
pub mod Units
-- Programs.
pub mod Programs
