-- lists of shaped ranges as those of closed graphs
pub mod ClosedRows
-- no graph has many nodes
pub mod FewNodes
-- what the headline asks, of what is split
pub mod Joined
-- the paragraphs that are made have names
pub mod Named
