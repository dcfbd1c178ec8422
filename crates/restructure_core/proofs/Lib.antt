-- In reading order.
-- what is found of a program's flow
pub mod Flowing
-- a program that is read is well made, and so is what it is split into
pub mod ReadSome
pub mod ReadWell
pub mod Behaving
-- what is printed of what it is split into reads to it
pub mod ReadingBack
-- what the answer to a program tells of the bytes
pub mod Limits
pub mod Answering
-- a program has one report, and one result
pub mod OneReport
-- one answer is due, but for the trail
pub mod Ranges
pub mod OneResult
pub mod OneAnswer
-- A source to what comes of its run.
pub mod run_lemmas
