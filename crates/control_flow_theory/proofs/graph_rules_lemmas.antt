-- What walks do, by steps and in units.
pub mod walks
-- What each rule keeps.
pub mod rules
-- The rules as functions of a graph, and shaping.
pub mod shapes
