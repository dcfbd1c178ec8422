-- a whole program
pub mod Alone
