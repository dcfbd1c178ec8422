-- a node's tree as a loop with exits
pub mod Exits
