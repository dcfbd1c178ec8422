-- where a source is cut
pub mod Cut
-- which bytes are which two programs
pub mod Pair
-- what holds of them
pub mod Laws
