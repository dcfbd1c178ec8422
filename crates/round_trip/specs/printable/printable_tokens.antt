-- Tokens that can be printed.
pub mod Printable
-- Names of headers that can be.
pub mod Header
-- What holds of the tokens of a source.
pub mod Laws
