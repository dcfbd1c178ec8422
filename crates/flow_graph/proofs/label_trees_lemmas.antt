-- the trees of rests in a range
pub mod NodeSteps
-- their own runs
pub mod RunRows
