-- The names that a program declares, and what a reference to one of them stands for.
pub mod data_names_lemmas
-- The paragraphs and sections of a PROCEDURE DIVISION by name, found by their headers alone (ISO
-- 1989:1985, PROCEDURE DIVISION), before its statements are read.
pub mod procedure_names_lemmas
