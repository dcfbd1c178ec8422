-- where statements name cells
pub mod CellUse
-- the same within a loop, by the parts of a tree
pub mod Within
