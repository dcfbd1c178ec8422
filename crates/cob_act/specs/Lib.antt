-- the sides of a comparison as the code holds them
pub mod Side
-- what is shown
pub mod Display
-- senders, and the store with the answer
pub mod Moving
-- what arithmetic works out before the receivers
pub mod Arithmetic
-- what is asked of the arms of EVALUATE
pub mod Choice
-- what a statement did
pub mod Acting
-- Statements on files, done over devices (ISO 1989:1985, Sequential I-O).
pub mod files
