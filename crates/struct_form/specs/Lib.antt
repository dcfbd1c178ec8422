-- what makes a program structured
pub mod Structured
-- the same as tests of the tree
pub mod Nested
pub mod Stops
pub mod Performed
