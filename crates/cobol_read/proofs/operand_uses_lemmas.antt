-- The next token, where it is a name for a header.
pub mod HeaderLemmas
