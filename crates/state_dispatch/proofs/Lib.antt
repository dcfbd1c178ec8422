-- how all nodes but one go
pub mod ClearRows
-- what the dispatch makes
pub mod DispatchRows
