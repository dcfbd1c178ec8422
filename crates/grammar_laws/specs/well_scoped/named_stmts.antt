-- What the parts of statements are to give.
pub mod Parts
