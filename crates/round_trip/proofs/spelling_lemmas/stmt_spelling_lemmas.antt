-- What stands behind parts.
pub mod Behind
-- Lists of parts.
pub mod Lists
-- Operands with their uses.
pub mod Parts
-- Statements that hold no others.
pub mod Moves
pub mod Files
pub mod Jumps
pub mod Calcs
pub mod Performs
pub mod Along
pub mod Simple
pub mod ArmsSpelled
pub mod Holding
pub mod ArmedStmts
pub mod ReadStmts
pub mod Nested
pub mod Choices
pub mod Sentences
pub mod Bodies
pub mod Paragraphs
