-- A program that is read.
pub mod Read
-- The names that restructuring gives.
pub mod Stem
-- The labels of a program.
pub mod Labels
-- Names are all different.
pub mod Different
-- The names of procedures.
pub mod Named
-- The paragraphs of a split program.
pub mod Paragraphs
-- Ranges of one paragraph.
pub mod Ranges
-- Sentences: in scope, filled, fit.
pub mod Scope
pub mod Filled
pub mod Fit
-- The whole division.
pub mod Spelled
-- What a program is split into.
pub mod Result
