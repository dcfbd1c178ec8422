-- What a form that was read was read of.
pub mod Taken
-- A token that begins a statement is no header.
pub mod Verbs
-- How the scan of headers goes over tokens.
pub mod Goes
-- Over sentences.
pub mod Sentences
-- Over what paragraphs are printed with.
pub mod Printed
-- Where a name stands first in a list.
pub mod Finding
-- The table as a list of headers.
pub mod Heads
-- What its names stand for.
pub mod Spans
-- The same but for places.
pub mod Plainly
-- Labels of paragraphs.
pub mod Labels
-- Where no fault is noted, and where a name is new.
pub mod Clean
pub mod Growth
-- Over the division that is read.
pub mod Division
-- Names that can be printed.
pub mod Titles
-- Paragraphs with names alone.
pub mod Named
-- A PROCEDURE DIVISION that is read with no fault is spelled by what is printed of it.
pub mod readable_stmts_lemmas
-- Operands, expressions and conditions that are read can be printed so that they are read back.
pub mod readable_exprs_lemmas
