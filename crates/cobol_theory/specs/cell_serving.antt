-- which added item stands for each cell
pub mod Table
-- what the parts are called in the written program
pub mod Naming
-- what is stated of them
pub mod Laws
-- the choosers that are written
pub mod Choosing
-- the entries of the items, and what they declare
pub mod Entries
-- operands and places that are worth whole numbers
pub mod Amounts
-- which parts may be written, as a test
pub mod Tested
