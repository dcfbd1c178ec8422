-- what the report of a program tells
pub mod Report
-- its lines
pub mod Lines
-- that a program has one report
pub mod Laws
