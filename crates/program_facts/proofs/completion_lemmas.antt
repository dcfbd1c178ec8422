-- facts that are put together
pub mod FactLemmas
-- facts of the tree's statements, row by row
pub mod FactRows
-- lists that are cut
pub mod CutLemmas
-- the same, row by row
pub mod CutRows
-- sections make no difference to what has no escape
pub mod Alike
