-- the trees of nodes
pub mod Trees
-- how all nodes but one go
pub mod Dispatching
