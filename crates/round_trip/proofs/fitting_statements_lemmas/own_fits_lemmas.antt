-- Windows, places and operands that have room by the test.
pub mod Room
-- Moves that may be.
pub mod Moves
-- What passes spells.
pub mod Spelled
