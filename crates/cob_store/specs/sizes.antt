-- How long items are.
pub mod Size
-- How many bytes a program's items take.
pub mod Storage
