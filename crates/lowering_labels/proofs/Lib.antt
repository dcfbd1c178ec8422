-- The places of a program, and where a rest of it goes on: the tables that lowering stands on.
pub mod points_lemmas
-- The trees of a lowered graph.
pub mod loop_nodes_lemmas
