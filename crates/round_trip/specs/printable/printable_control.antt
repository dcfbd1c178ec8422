-- Control whose parts can be printed.
pub mod Prints
-- Parts that may be written.
pub mod Written
-- What holds of them.
pub mod Laws
