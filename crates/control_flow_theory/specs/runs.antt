pub mod Run
pub mod Tied
pub mod Machine
