-- Few bytes for each token.
pub mod Bytes
-- The units of each part of a generated program.
pub mod Parts
pub mod Lines
-- All of them.
pub mod Short
