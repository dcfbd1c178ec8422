-- Steps of loops over entries, the last first.
pub mod BackLemmas
-- Steps of loops over clauses, records and lists that are folded.
pub mod StepLemmas
-- The rules on files, by their names alone.
pub mod FileLemmas
-- What entries are judged by, in tables.
pub mod TableLemmas
-- Own usages of the entries of FDs.
pub mod UsageLemmas
