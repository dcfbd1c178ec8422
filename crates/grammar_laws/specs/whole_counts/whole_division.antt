-- What the PROCEDURE DIVISION counts by.
pub mod Laws
