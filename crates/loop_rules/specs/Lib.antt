-- how a loop is tested
pub mod Forms
-- a node's tree as a loop
pub mod Nodes
