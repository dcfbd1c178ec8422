-- References, files and records as they are read.
pub mod Read
-- What holds of them, and of what is declared.
pub mod Laws
