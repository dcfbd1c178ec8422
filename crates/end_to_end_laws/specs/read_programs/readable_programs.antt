-- Which programs are readable.
pub mod Readable
-- What is printed of them.
pub mod Laws
