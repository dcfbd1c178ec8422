-- what comes before a number
pub mod Stem
