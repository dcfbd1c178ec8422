-- Rests of the source beside those of a walk.
pub mod rests
-- Each step of the source is some steps of the walk.
pub mod steps
-- What flow paths say.
pub mod flow
-- The graphs as lists of nodes.
pub mod graphs
