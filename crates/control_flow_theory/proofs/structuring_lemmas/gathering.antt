-- Where steps of two machines cost alike, their meanings in units are each within a factor of the other.
pub mod Spends
-- Memories that agree but for one cell, and what statements that don't name it do to them.
pub mod Agrees
-- A set of nodes that has become one loop keeps what a walk does, step by step, and its units within a factor.
pub mod Gather
-- From two memories that agree, a family and the one that was gathered are tied, and their units match.
pub mod GatherTied
-- The flag, the exits and the dispatch each gather nodes into one loop.
pub mod Dispatch
-- A family whose nodes were gathered into a loop keeps what a walk does, its units within a factor, and never being lost.
pub mod Keep
-- The flag, the exits and the dispatch give families, which keep what a walk does.
pub mod DispatchKeeps
-- The targets of a node's live leaves are numbered in label order, so the exits rule needs no more than the node.
pub mod Targets
-- The laws of the rules that close nodes by a number in a cell.
pub mod Kept
-- A node that has become a loop with a flag, as the rules on loops have it, is one that is gathered: so the law of loops with a flag is a case of the law of gathering.
pub mod FlagLooped
