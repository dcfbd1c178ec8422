-- What is answered for tokens from a place on.
pub mod Answer
