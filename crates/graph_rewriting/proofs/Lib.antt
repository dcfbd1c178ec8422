-- nodes of a graph, one of which changes
pub mod NodeRows
-- graphs that are rewritten, as they are stored
pub mod WorkRows
-- counts of leaves, as trees come and go
pub mod CountRows
-- and as a tree in them changes or a node goes
pub mod ChangeRows
-- what is stored after a change
pub mod StoredRows
-- nodes as they are found
pub mod FindRows
-- nodes into slots, and back
pub mod FillRows
