-- what is stored behind a program's own
pub mod Tails
-- one cell is given a value
pub mod Changed
-- numbers of items
pub mod Numbers
-- the words on cells
pub mod Words
-- all parts
pub mod Serving
-- GO TO DEPENDING
pub mod Depending
-- all choosers
pub mod Choosers
-- READ at the end of a file
pub mod AtEnd
-- literals, and the entries of the items
pub mod Entries
-- operands and places that are worth whole numbers
pub mod Amounts
-- the tests of a table
pub mod Tested
