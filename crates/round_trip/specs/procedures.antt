-- The table of procedures that a program's own paragraphs tell: `own_procedures`.
pub mod Told
-- The names of paragraphs and sections.
pub mod Names
-- Which paragraphs are told apart by their headers: `HasProcedures`.
pub mod Outline
-- What the table is to tell.
pub mod Own
-- What holds of it.
pub mod Laws
-- A PROCEDURE DIVISION that is read with no fault is spelled by what is printed of it.
pub mod readable_stmts
-- Operands, expressions and conditions that are read can be printed so that they are read back.
pub mod readable_exprs
