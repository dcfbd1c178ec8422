-- Units, and where they begin.
pub mod Unit
-- Statements, with what they hold.
pub mod Statement
-- Entries of data, with their pictures.
pub mod Picture
pub mod Entry
-- The divisions, and all units of a program: `cobol_print::units`.
pub mod Division
