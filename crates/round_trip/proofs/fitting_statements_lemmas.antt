-- Tests and what they tell, and the statements of both.
pub mod Told
pub mod Shape
pub mod Trees
-- Statements that fit are spelled.
pub mod Spelled
-- Paragraphs whose sentences fit pass.
pub mod Passing
-- What is read fits: what is made of parts, statements that hold no others, what stands before what
-- others hold, those, sentences and paragraphs.
pub mod Made
pub mod Simple
pub mod Heads
pub mod Holding
pub mod Sentences
pub mod Paragraphs
-- What a source is restructured to keeps what is asked of its VARYINGs and of choices by cells.
pub mod sound_bodies_lemmas
-- What is written of a program whose statements pass tests passes tests too.
pub mod fit_control_lemmas
-- Tests of the parts of statements by the names that a program declares itself.
pub mod own_fits_lemmas
