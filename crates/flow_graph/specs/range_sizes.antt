-- how ranges go on from a rest
pub mod Exits
-- what is counted of a tree
pub mod Parts
-- what is known of the trees at labels
pub mod Cache
-- trees that run on as others
pub mod Segment
-- how large the graph of a range is
pub mod Sizing
