-- the graphs of a program's ranges
pub mod Graphs
-- the limit of their size
pub mod Limit
-- what the steps of lowering give
pub mod Graphing
-- what graphs are shaped to
pub mod Shaping
-- what they are by flow paths
pub mod Laws
