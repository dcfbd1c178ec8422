-- what is compared of two runs, and where they differ
pub mod Differing
-- an event of a step, and how a program ended
pub mod Event
-- one of two programs that run beside each other
pub mod Side
-- what is next of the two
pub mod Next
-- both, step by step
pub mod Pair
-- what comes of comparing two programs
pub mod Comparing
-- laws of comparing
pub mod Laws
