-- what stands before a loop
pub mod StartRows
-- arms of a GO TO DEPENDING
pub mod DependingRows
-- the nodes of a loop
pub mod NodeRows
