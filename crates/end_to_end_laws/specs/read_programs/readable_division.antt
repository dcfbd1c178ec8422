-- What is printed of programs that are read.
pub mod Laws
