-- targets of jumps, in label order
pub mod ExitRows
-- the leaves of a tree as a loop with its exits
pub mod LeafRows
