-- the nodes of ranges, by a table of rests
pub mod Node
-- trees up to where they go on as others
pub mod Run
