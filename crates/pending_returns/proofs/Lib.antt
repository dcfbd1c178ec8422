-- what stands where in a list
mod Getting
-- flags as lists
mod Flags
-- numbers that are sorted
mod Ordering
-- the levels of a table, and where calls lead
mod Leveling
-- facts by new numbers
mod Kept
-- the paragraphs to which levels come
mod Passed
-- the ranges that some flow path performs, by levels
mod Performed
-- a table's summary is the program's
mod Meaning
-- the same with the lists as they are lent
mod Summing
-- the limit, and the summary of a program
mod Limits
-- A summary has no more ranges than its table.
pub mod Few
-- What a range's level comes to, and which ranges return.
pub mod levels_lemmas
-- Where a flow path of a program comes to a fault, told by the program's summary.
pub mod faults_lemmas
