-- going along statements
pub mod LowerList
-- statements without an escape
pub mod EscapeFree
-- the arms of choices
pub mod Arms
-- the trees at the labels of a loop
pub mod LoopParts
-- The rests of a program by place: the statements from there to the end of their list, and where
-- control goes on after them.
pub mod continuations
