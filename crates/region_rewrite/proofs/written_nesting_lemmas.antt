-- an arm of a statement of the program
pub mod OwnRows
-- a statement of the program nests as what control sees of it
pub mod OwnAgrees
-- how deep pieces nest, row by row
pub mod NestingRows
