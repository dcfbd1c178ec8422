-- Statements count by whole numbers, over open forms of operands.
pub mod whole_stmts
-- Entries that are whole numbers: what a name says of its item holds of the entry.
pub mod whole_entries
-- The whole PROCEDURE DIVISION counts by whole numbers, over the names of a program.
pub mod whole_division
-- Entries that break no rule name files and items that are there, and go with what they ask.
pub mod entry_bounds
-- The paragraphs that headers tell are those that the grammar reads.
pub mod header_counts
-- References are read the same without names and over them, but for what they stand for.
pub mod status_readings
-- Terms before an expression change nothing else of what is read, up to the limit.
pub mod term_counts
