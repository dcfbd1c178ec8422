-- statements that leave no section
pub mod Staying
-- what is made of shaped ranges
pub mod Made
-- what follows
pub mod Laws
