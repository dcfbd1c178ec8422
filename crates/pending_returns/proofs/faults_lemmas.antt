-- what stands where in a list
pub mod Standing
-- where calls lead
pub mod Led
-- a program is faulty exactly where there is a clash
pub mod Clashes
