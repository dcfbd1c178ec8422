-- tests, joined
mod Joined
-- the tests of the tree are tests of control
mod ControlTests
mod Nesting
mod Performing
mod Stopping
-- and those say what the definition says
pub mod Structured
