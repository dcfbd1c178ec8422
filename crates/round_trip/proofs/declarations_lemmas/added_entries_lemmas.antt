-- Groups and names of entries before added ones.
pub mod Behind
-- Their sizes.
pub mod Sizes
-- The rules on files.
pub mod Files
-- Those on entries.
pub mod Rules
-- All rules, and names.
pub mod Kept
-- What is found among names.
pub mod Found
-- What is fit to be printed is judged alike.
pub mod Judged
-- The name of an added item stands for it.
pub mod Stand
-- All of that.
pub mod References
