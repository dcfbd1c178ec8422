-- What the parts of statements give.
pub mod Parts
