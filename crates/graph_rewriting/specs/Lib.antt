-- what a graph that is rewritten holds
pub mod Helds
-- what holds of it
pub mod Rewriting
-- the counts of its leaves
pub mod Counting
-- how it is stored
pub mod Work
-- nodes into slots, and back
pub mod Filling
