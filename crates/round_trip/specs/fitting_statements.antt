-- Tests of the parts of statements, and statements whose parts pass them.
pub mod Fits
pub mod Statement
-- Where EXIT SECTION and EXIT PERFORM may be.
pub mod Scope
-- What parts that pass a test spell.
pub mod Spelling
-- What parts that are read have to do with the tests.
pub mod Given
-- What a source is restructured to keeps what is asked of its VARYINGs and of choices by cells.
pub mod sound_bodies
-- What is written of a program whose statements pass tests passes tests too.
pub mod fit_control
-- Tests of the parts of statements by the names that a program declares itself.
pub mod own_fits
