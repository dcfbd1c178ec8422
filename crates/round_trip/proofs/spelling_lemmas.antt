-- What stands behind the parts is none of them, and what is kept of them tells what they are.
pub mod Told
-- Operands and places.
pub mod Operands
-- Expressions.
pub mod Exprs
-- Conditions.
pub mod Conds
-- Files, records and procedures.
pub mod Named
-- Names in headers.
pub mod Headers
-- What counts the turns of a loop.
pub mod Turns
-- Uses of operands and expressions.
pub mod Uses
-- Room for terms.
pub mod Room
-- Places, operands and expressions that can be printed are spelled by their tokens.
pub mod expr_spelling_lemmas
-- So are conditions that can be printed.
pub mod cond_spelling_lemmas
-- Statements, sentences, paragraphs and sections are spelled by theirs, where their parts are.
pub mod stmt_spelling_lemmas
-- What a program prints before its PROCEDURE DIVISION spells drafts of its files and entries.
pub mod data_spelling_lemmas
