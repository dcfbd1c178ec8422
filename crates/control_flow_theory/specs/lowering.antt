-- What lowering knows of the parts that it doesn't look inside, and what holds of them.
pub mod FlowFacts
-- What a statement holds, whether it can complete, and what follows one that can't.
pub mod Completes
-- Lowering: the trees that are built from rests, and the nodes of a range. A counter cell has the
-- number of the place of its loop. Rendering numbers cells anew, in the order of their first
-- mention.
pub mod Lower
-- A rest with its places, its continuation, and the tree that is built from it.
pub mod Rests
-- The nodes of a range in the order of their labels, and the family that looks them up.
pub mod Lowered
-- Only the nodes that are reached from the entry.
pub mod Reached
-- Cells may be numbered anew: each range's by a numbering of its own, under which no two cells are
-- one.
pub mod Renamed
-- What holds of each lowered graph by its form: there is no escape in a body, each Pick has its
-- arms, each jump leads to a node, and the labels rise.
pub mod WellFormed
-- What holds of lowering: what the source does the walk does, no walk is lost, and flow paths
-- tell all that is asked.
pub mod Laws
-- Two small programs and some of their nodes.
pub mod Examples
-- What flow paths say.
pub mod flow
