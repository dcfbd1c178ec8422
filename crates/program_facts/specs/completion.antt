-- what lowering knows
pub mod FlowFacts
-- what a statement is after cutting
pub mod Facts
-- the same of what the tree is seen as
pub mod Seen
-- statements with their lists cut
pub mod Cutting
-- what is stated of them
pub mod Laws
