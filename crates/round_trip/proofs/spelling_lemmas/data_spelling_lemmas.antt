-- Literals, and the spans of a VALUE clause.
pub mod Literals
-- The clauses of an entry.
pub mod Clauses
-- Entries, one behind the other.
pub mod Entries
-- SELECTs and FDs.
pub mod Files
-- The divisions.
pub mod Divisions
-- The tokens of the units that are printed.
pub mod Units
