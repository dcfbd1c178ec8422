-- what graphs are shaped to, one after the other
pub mod ShapedRows
-- one choice of kept nodes for all ranges
pub mod Keeping
-- the plan with these graphs
pub mod Planning
-- numbering counters leaves graphs as large as they are
pub mod NumberedSizes
-- within the limit graphs are small
pub mod SmallGraphs
-- graphs of ranges, one after the other
pub mod GraphRows
