-- Tests of single statements.
pub mod Single
-- Each part of a source that fits may be written.
pub mod Served
-- A source that fits is sound.
pub mod Sound
-- What is written fits.
pub mod Written
-- Statements by their control.
pub mod Back
