-- What a statement without an escape does: one step of the source is one of the walk.
pub mod Moves
-- The end of a paragraph: a return, the next paragraph, or a stop.
pub mod Falls
-- What both do where a part gives a value or ends the run: an act, a test, a choice.
pub mod Tries
-- A choice that holds an escape is a Pick, with one tree for each arm.
pub mod Choices
-- A loop that holds an escape: its begin, and its turns.
pub mod Loops
-- Each source step is some steps of the walk of the lowered family.
pub mod Lowers
-- A source program and the walk of its lowered family are tied.
pub mod Linked
-- No walk of a lowered range is lost.
pub mod Sound
