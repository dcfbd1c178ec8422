-- What a program has so that its divisions are read back.
pub mod Declaring
-- What holds of programs that are read.
pub mod Laws
