-- What parts of statements are to give.
pub mod Printable
