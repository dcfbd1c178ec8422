-- the plan, by the summary of a program
pub mod Planned
-- the plan, by flow paths
pub mod Laws
-- orders in which each number comes before those that it calls
pub mod Ordered
