-- What is known of places and expressions by the names of their program, and which can be printed.
pub mod Printable
-- What follows them, and what is read of them.
pub mod Spelled
-- What spells them.
pub mod Laws
