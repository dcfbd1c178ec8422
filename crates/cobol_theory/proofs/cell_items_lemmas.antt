-- reading an added item, and storing in it
pub mod Cells
-- MOVE of a number
pub mod Moves
-- comparisons
pub mod Tests
-- SUBTRACT of a number
pub mod Lowers
-- EVALUATE
pub mod Choices
-- MOVE of an operand
pub mod Takes
