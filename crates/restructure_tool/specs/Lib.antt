-- In reading order.
-- the benches that are made
pub mod Folders
-- what the host gets
pub mod Answered
