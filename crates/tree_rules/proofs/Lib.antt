-- arms that are changed one after the other
pub mod Arms
-- the one arm, or the one node, with the jump to a label
pub mod OneJump
-- graphs that are the same in their parts
pub mod InlineRows
-- how many leaves jump to a label after Join and after Inline
pub mod LeafRows
-- one pass of Join joins something exactly where one join does
pub mod JoinRows
-- room, tree by tree
pub mod RoomRows
-- nodes by their labels
pub mod ByLabel
-- a tree moves into that of another node
pub mod MoveRows
-- graphs that are rewritten, from what they hold
pub mod WorkRows
-- Join on the tree of one node
pub mod JoinAtRows
