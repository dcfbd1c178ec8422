-- What a statement is made of.
pub mod Draft
-- What is read before and after what it holds.
pub mod Step
