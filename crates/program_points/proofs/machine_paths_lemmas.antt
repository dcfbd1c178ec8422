-- what is uncounted, taken apart
pub mod Uncounting
-- the ways of an item
pub mod Ways
-- what an item does in the theory it does here
pub mod Telling
-- what an item does here it does in the theory
pub mod Backing
-- a level comes to the same points here and there
pub mod SameLevels
-- what is faulty there is faulty here
pub mod SameFaults
-- what is faulty here is faulty there
pub mod Lifting
