-- What the statements of a range may name: the ranges that they perform, and the cells that they
-- read and write. No jump is among them.
pub mod Fits
-- Steps that cost units, and meanings that take units in place of steps.
pub mod Charged
-- What a step of a walk costs in units.
pub mod Costs
-- What a family does, by recursion on its statements, its trees and its order.
pub mod Walked
-- Families with their added cells: which memories are ready, and which families are sound.
pub mod Families
-- Trees in which some choices of the ends have become statements.
pub mod Joins
-- A family in which a node has taken the place of the jumps to it.
pub mod Inlines
-- A node that has become a loop.
pub mod Loops
-- What Join, Inline and Loop give.
pub mod Shapes
-- Graphs of ranges as lists of nodes, and how Join, Loop and Inline reduce them.
pub mod Reduced
-- Every part of a tree or a graph is so: each statement in it, and each choice at an end.
pub mod EachTree
-- What holds of the rules: the walk by recursion is the walk step by step, each rule keeps what a
-- walk does, and a shaped family does what it did.
pub mod Laws
-- Small graphs, and what shaping makes of them.
pub mod Examples
