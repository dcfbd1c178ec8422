-- where live leaves lead
pub mod Targets
-- a choice as a statement
pub mod Joining
-- a tree in the place of a jump
pub mod Putting
-- what Inline answers, and leaves
pub mod Inlining
-- room for the choices that become statements
pub mod Rooms
