-- What the PROCEDURE DIVISION gives.
pub mod Laws
