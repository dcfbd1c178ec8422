-- Where tokens are on a line.
pub mod Spacing
-- Units as lines, and the lines as bytes.
pub mod Line
pub mod Layout
-- A program as bytes: `printed`.
pub mod Program
-- The tokens with their lines, and which units can be printed.
pub mod Printed
pub mod Unit
-- Which programs can.
pub mod Given
-- What holds of all that is printed.
pub mod Laws
-- A program as units: the tokens of each of its lines, with the column where they begin.
pub mod units
