-- Windows, places and operands that have room.
pub mod Room
-- Moves and comparisons of which no fault is noted.
pub mod Uses
-- What can be printed stands for something.
pub mod There
-- What is read passes.
pub mod Parts
-- Statements of programs that are read.
pub mod Programs
