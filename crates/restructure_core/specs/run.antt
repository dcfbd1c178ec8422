-- the bench of a call, by what its devices show before and after
pub mod Bench
-- what comes of a source that is to run
pub mod Answers
