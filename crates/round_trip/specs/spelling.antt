-- What is kept of the parts of statements as they are read.
pub mod Kept
-- Which names of files, records and procedures stand for what they are to.
pub mod Named
-- Of which uses no fault is noted.
pub mod Use
-- What holds of the parts.
pub mod Laws
-- Places, operands and expressions that can be printed are spelled by their tokens.
pub mod expr_spelling
-- So are conditions that can be printed.
pub mod cond_spelling
-- Statements, sentences, paragraphs and sections are spelled by theirs, where their parts are.
pub mod stmt_spelling
-- What a program prints before its PROCEDURE DIVISION spells drafts of its files and entries.
pub mod data_spelling
