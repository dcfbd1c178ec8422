-- Clauses and entries are lawful.
pub mod EntryLaws
-- The divisions are lawful.
pub mod DivisionLaws
