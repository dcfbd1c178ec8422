-- Each part of a source that can be printed may be written.
pub mod Served
-- What is written can be printed.
pub mod Written
-- Statements by their control.
pub mod Back
