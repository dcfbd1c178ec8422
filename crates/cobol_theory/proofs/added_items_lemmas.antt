-- bytes of a store with more roots behind its own
pub mod Bytes
-- places and expressions
pub mod Places
-- what is read of them
pub mod Sides
-- conditions and choices
pub mod Conditions
-- outcomes with more behind what is stored
pub mod Outcomes
-- MOVE and SET
pub mod Moves
-- what is done to files
pub mod Files
-- OPEN, CLOSE, READ, WRITE and REWRITE
pub mod Filing
-- the parts of a program
pub mod Parts
-- where the items of a layout lie
pub mod Layouts
-- what is stored at the start of a run
pub mod Starts
