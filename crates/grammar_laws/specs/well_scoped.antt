-- The tokens of each text are numbered: what is a number has 1 to 18 digits.
pub mod named_tokens
-- The divisions before the PROCEDURE DIVISION name their status items, and values are literals.
pub mod named_data
-- Statements and paragraphs name what is there, over open forms of operands and conditions.
pub mod named_stmts
-- References, operands, expressions and conditions name items that are there.
pub mod named_exprs
-- Entries that break no rule have levels, and the first is no level 88.
pub mod named_entries
-- The whole PROCEDURE DIVISION names what its program declares and the paragraphs of its headers.
pub mod named_division
