-- Nodes that became one loop.
pub mod gathering
-- All rules in their order.
pub mod closing
