-- The symbols of a mask, and which may follow which.
pub mod Symbol
pub mod Shape
-- How long a mask is, written out and as it is printed.
pub mod Extent
-- How a text is read as a mask, and why it is none.
pub mod Reading
-- What a number shows through a mask.
pub mod Field
pub mod Edited
-- A field with its digits taken apart, and what is enough of a pen along a mask.
pub mod Figure
pub mod LightPen
-- A mask as a program holds it, and its symbols.
pub mod Symbols
pub mod Mask
-- What the laws cite.
pub mod Laws
