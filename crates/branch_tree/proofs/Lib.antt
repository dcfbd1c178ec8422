-- trees, seen row by row
pub mod TreeRows
