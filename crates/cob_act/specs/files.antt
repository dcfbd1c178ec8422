-- how a statement ended
pub mod Ends
-- an item as a place
pub mod Record
-- what a statement makes of a world that stands over devices which tell their files
pub mod Over
-- what statements on files did, where it is kept
pub mod Work
