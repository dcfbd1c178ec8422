-- the arms of a statement, as they are written
pub mod Writing
