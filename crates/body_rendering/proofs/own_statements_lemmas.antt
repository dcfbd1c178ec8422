-- what is written of the program's own statements, row by row
pub mod OwnRows
-- lists of what is written, and EVALUATE
pub mod WhenRows
-- what holds of a result
pub mod Results
-- lists that are changed one after the other
pub mod Each
