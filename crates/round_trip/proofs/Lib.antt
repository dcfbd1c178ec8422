-- Which kinds of tokens spell a value of a form: laws on each maker of forms, written as the
-- forms are, so that what is printed can be shown to be spelled by the grammar.
pub mod spelled_forms_lemmas
-- Programs that can be printed: each of their names, numbers, literals and pictures is one that a
-- text can have, so each of their lines has tokens alone that a line may have.
pub mod printable_lemmas
-- The parts of statements that a program is read with spell what they are printed with.
pub mod spelling_lemmas
-- The table of procedures that a program's own paragraphs tell, by which what is printed of it is
-- read: the printed tokens tell exactly it, those of its source but for places, and in it each
-- label of a paragraph names what it is to.
pub mod procedures_lemmas
-- What divisions declare with no fault keeps the rules of printed declarations, so that what is
-- printed of it declares the same.
pub mod declarations_lemmas
-- Statements that have in them what they are to, told by tests: they spell what is printed of
-- them, and those of a PROCEDURE DIVISION that is read with no fault pass the tests, over open
-- parts and open tests of parts (`specs/fitting_statements/Fits.antt`).
pub mod fitting_statements_lemmas
