-- What simple statements do: the definitions, without code.
--
-- `Does.does` gives a statement's operations in order, and then the new store and how it ended. A
-- file of `specs` has a family of statements, a clause a row of the table of docs/MEANING.md; hold
-- it against that row, and against ISO 1989:1985, Nucleus and Sequential I-O. `cob_act` does it.
-- what a part of a statement leaves
pub mod Outcome
-- texts beside one another, and numbers as they print
pub mod Text
-- the two sides of a comparison
pub mod Side
-- conditions
pub mod Condition
-- DISPLAY
pub mod Display
-- MOVE and SET
pub mod Moving
-- ADD, SUBTRACT, MULTIPLY, DIVIDE and COMPUTE
pub mod Arithmetic
-- the arms of IF and EVALUATE
pub mod Choice
-- OPEN, CLOSE, READ, WRITE and REWRITE
pub mod Filing
-- any simple statement
pub mod Does
