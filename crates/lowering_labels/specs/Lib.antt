-- The places of a program, and where a rest of it goes on: the tables that lowering uses.
pub mod points
-- The trees of a lowered graph.
pub mod loop_nodes
