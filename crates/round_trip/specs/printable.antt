-- Names, and places and expressions that can be printed.
pub mod Part
-- Conditions, arithmetic, choices and loops.
pub mod Beside
-- Statements.
pub mod Statement
-- Files, entries and paragraphs, and programs: `IsPrintableProgram`.
pub mod Whole
-- What holds of them.
pub mod Laws
-- The tokens of each source can be printed.
pub mod printable_tokens
-- What is read of such tokens can be printed: references, operands, expressions and conditions.
pub mod printable_exprs
-- So can statements and paragraphs, over open forms of operands and conditions.
pub mod printable_stmts
-- So can files and entries.
pub mod printable_data
-- So can the paragraphs of a PROCEDURE DIVISION, over the names of a program.
pub mod printable_division
-- What is written of a program that can be printed can be printed, as far as its control goes.
pub mod printable_control
