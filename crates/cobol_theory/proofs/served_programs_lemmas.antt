-- The areas of items.
pub mod Areas
-- Places and amounts that are whole.
pub mod Whole
-- The parts of statements.
pub mod Parts
-- Statements.
pub mod Walk
-- A program as it is written.
pub mod Taken
