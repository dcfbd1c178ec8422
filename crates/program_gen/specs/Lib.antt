-- the program of a number
pub mod Generated
-- what is stated of it
pub mod Laws
