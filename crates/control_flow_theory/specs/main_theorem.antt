-- From a source to the written program, over what lowering, the rules and rendering give: the whole
-- headline of this theory.
pub mod Chain
-- Where a flow path comes to a PERFORM, a reached node performs that range: so an order by paths is
-- one of the graphs.
pub mod CallsReached
-- Which cells a lowered program names: the counters of its loops by TIMES, each by the number of
-- its place, and no other.
pub mod NamedCells
-- A program of one paragraph that jumps to itself, and its plan.
pub mod PlanExample
-- A numbering of the counters of a range's kept loops, under which no two numbers are one.
pub mod Numbering
-- The counter of a small program: of its two loops by TIMES one is counted, and its counter is
-- numbered 0.
pub mod NamedCellsExample
-- The whole headline, with its premises in two records: on the program and its plan, and on the
-- parts.
pub mod MainTheorem
