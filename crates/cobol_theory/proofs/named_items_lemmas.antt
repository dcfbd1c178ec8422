-- What is named is among the items.
pub mod Within
-- A named statement names items of the program.
pub mod Own
