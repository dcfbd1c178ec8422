-- the places of a program
pub mod Layout
-- where a rest goes on
pub mod JumpTarget
-- where a range goes on after a paragraph
pub mod FallThrough
