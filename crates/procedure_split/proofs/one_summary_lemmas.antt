-- Lists in an order that hold the same are the same: of ranges, and of numbers.
pub mod Ranges
pub mod Numbers
-- What the facts of two summaries say of one range.
pub mod Facts
