-- how deep control nests, as the program's tree does
pub mod Levels
-- what is written without a level more
pub mod Fits
-- what holds of them
pub mod Laws
