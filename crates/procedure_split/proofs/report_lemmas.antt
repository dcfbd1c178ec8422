-- two lists in one order
pub mod Ascending
-- a program has one report
pub mod OneReport
