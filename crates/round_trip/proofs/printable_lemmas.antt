-- Words, names and literals that a line may have anywhere.
pub mod Free
-- Tokens that a line may have anywhere.
pub mod Tokens
-- The tokens of places and expressions.
pub mod Places
-- The tokens of conditions, arithmetic, choices and loops.
pub mod Beside
-- The lines of statements.
pub mod Statements
-- Files and entries.
pub mod Entries
-- Programs.
pub mod Given
-- What is made of parts that can be printed.
pub mod Made
-- The tokens of each source can be printed.
pub mod printable_tokens_lemmas
-- What is read of such tokens can be printed: references, operands, expressions and conditions.
pub mod printable_exprs_lemmas
-- So can statements and paragraphs, over open forms of operands and conditions.
pub mod printable_stmts_lemmas
-- So can files and entries.
pub mod printable_data_lemmas
-- So can the paragraphs of a PROCEDURE DIVISION, over the names of a program.
pub mod printable_division_lemmas
-- What is written of a program that can be printed can be printed, as far as its control goes.
pub mod printable_control_lemmas
