-- What is asked of a program.
pub mod Fit
