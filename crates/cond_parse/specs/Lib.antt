-- Conditions and expressions, read from a place in a list of tokens on.
pub mod from_tokens
