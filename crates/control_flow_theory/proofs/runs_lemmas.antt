pub mod Ties
pub mod Machines
