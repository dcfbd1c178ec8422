-- The entries of a program, by their sections.
pub mod Sections
-- The tokens that are printed before the PROCEDURE DIVISION.
pub mod Kinds
-- What is asked of files and entries so that these spell drafts.
pub mod Printable
-- Drafts that say what files and entries are.
pub mod Drafts
-- What is printed before the PROCEDURE DIVISION.
pub mod Laws
