-- Numbers that digits spell.
pub mod Numbers
-- Clauses of a printed entry by their kind.
pub mod Lookup
-- What a printed entry says by itself.
pub mod Bases
-- Usages, which groups hand down: what an entry is in is a group, and says none.
pub mod Holders
pub mod Usages
-- It breaks no rule.
pub mod Faults
-- Printed entries, one behind the other.
pub mod Settled
-- Printed files.
pub mod Files
-- All of them.
pub mod Declared
