-- ranges in their order, one after the other
pub mod Ordered
-- ranges that were sorted by entry and exit
pub mod Sorted
