-- arms of choices
pub mod Ends
-- loops
pub mod Loops
-- what calls make
pub mod Nodes
