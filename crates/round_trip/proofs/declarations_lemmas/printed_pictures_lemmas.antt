-- What is printed of a mask is taken as one, and what is printed of another picture isn't.
pub mod Masks
pub mod Plain
-- Pictures, symbol by symbol.
pub mod Pictures
-- How long their text is.
pub mod Lengths
