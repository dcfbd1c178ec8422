-- Words that may be one or another.
pub mod Choice
-- Clauses of a data description entry.
pub mod Clause
-- Data description entries.
pub mod Entry
-- SELECT and the ENVIRONMENT DIVISION.
pub mod Environment
-- FD and the DATA DIVISION.
pub mod Data
-- All that comes before the PROCEDURE DIVISION.
pub mod Divisions
