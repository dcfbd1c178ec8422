-- what a summary tells of a program
pub mod Summary
-- what restructuring asks of it
pub mod FaultFree
-- the same of a table of its places
pub mod Tabled
-- What a range's level comes to, and which ranges return.
pub mod levels
-- Where a flow path of a program comes to a fault, told by the program's summary.
pub mod faults
