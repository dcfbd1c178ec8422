-- Sound families of graphs, and what is kept where others take the place of one of them.
pub mod Families
-- The rules of restructuring, as they are applied to a graph, keep what walks do.
pub mod rule_walks
-- The graphs of a program's ranges are a sound family.
pub mod lowered_families
