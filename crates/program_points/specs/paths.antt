pub mod Step
pub mod Flow
pub mod Levels
pub mod Accepted
pub mod Laws
