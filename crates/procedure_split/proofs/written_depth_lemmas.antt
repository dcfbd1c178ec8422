-- Statements nest as their control.
pub mod Seen
-- What is written of a body nests no deeper than is judged of it.
pub mod Written
-- So do whole programs.
pub mod Whole
