-- Which conditions can be printed.
pub mod Printable
-- What follows them.
pub mod Behind
-- What holds of them.
pub mod Laws
