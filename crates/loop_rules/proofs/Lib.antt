-- loops, form by form
pub mod FormRows
-- a node as a loop
pub mod NodeRows
-- the leaves of a tree as a loop
pub mod LeafRows
-- a tree that is put for one that came out
pub mod TakenRows
