-- What holds of programs that are read.
pub mod Laws
