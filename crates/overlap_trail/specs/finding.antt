-- what is found
pub mod Finding
-- how a level comes to its places
pub mod Search
-- what a level is followed to
pub mod Goal
-- lemmas of a table's ranges
pub mod ReturnLemmas
-- chains of ranges
pub mod Chain
-- hops along a chain
pub mod Hops
-- a trail with fewer lemmas
pub mod Pruning
