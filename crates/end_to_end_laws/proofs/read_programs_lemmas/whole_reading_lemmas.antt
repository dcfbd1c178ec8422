-- A whole program, over what its own tokens declare.
pub mod Whole
