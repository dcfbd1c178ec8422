-- What the functions of the rules give is in their relations.
pub mod Shaping
-- What fits before a rule fits after it.
pub mod ShapeFits
-- Each step of shaping keeps what the walks of a family do.
pub mod Reducing
-- A shaped family does what it did.
pub mod Shaped
-- Joins one by one.
pub mod Once
-- Shaping ends where no rule applies.
pub mod Ending
-- A closed graph stays closed.
pub mod Closed
-- What is left of a shaped graph with one node: a body, and an end that is no jump and no choice.
pub mod Single
-- Where every part is so, what follows from it holds of every part.
pub mod EachTurned
