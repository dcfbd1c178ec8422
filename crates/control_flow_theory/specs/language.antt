-- tests, all of which hold
pub mod All
-- programs as far as control goes
pub mod Language
-- what is still to do at a place, and the returns that are pending
pub mod Items
-- a program as its control
pub mod Control
-- no jump, and each paragraph but the first performed from an earlier one
pub mod Structured
-- what is asked of one statement, asked of each in it
pub mod Each
-- no word on an added item
pub mod Own
-- each item number below 2^31
pub mod OwnItems
-- what control keeps of a program
pub mod Laws
