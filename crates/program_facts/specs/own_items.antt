-- tmp
pub mod Owning
-- what is in the arms of a statement
pub mod Within
