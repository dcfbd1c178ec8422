-- Control whose parts pass tests.
pub mod Fit
-- Parts that may be written.
pub mod Written
-- What holds of them.
pub mod Laws
