-- A structured program has one meaning: what its nested statements do, the source machine does.
pub mod semantics_agree_lemmas
-- Lowering takes a program's ranges to graphs of trees, and flow paths tell what it asks.
pub mod lowering_lemmas
-- Join, Inline and the loop in its four forms keep what the walk of a family does.
pub mod graph_rules_lemmas
-- A range's graph is closed: loops with a flag or several exits, the dispatch, and all rules.
pub mod structuring_lemmas
-- The procedures of a closed family are written as a program.
pub mod rendering_lemmas
-- From a source to its structured program: lowering, the rules and rendering composed.
pub mod main_theorem_lemmas
-- What may be written of a source may be written of its lowered graphs.
pub mod expressible_graphs_lemmas
-- A program as far as control goes: statements that act, choices with their arms, loops, PERFORM
-- and the jumps, over the tree's own parts.
pub mod language_lemmas
-- Laws of runs.
pub mod runs_lemmas
-- What programs of the language of control mean.
pub mod semantics_lemmas
