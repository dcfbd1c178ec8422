-- What statements are made of, over the names of a program.
pub mod Parts
