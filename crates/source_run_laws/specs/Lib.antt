-- Sources that are run.
pub mod Sources
-- Calls that run a source.
pub mod Asks
-- Programs whose flow has no fault, as they run.
pub mod Faultless
-- Calls that compare a source with its result.
pub mod Comparisons
